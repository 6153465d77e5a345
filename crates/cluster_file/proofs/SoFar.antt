-- What holds of a document of which some lines were read.
use Rattle.std.proofs.Common.{◌≡◌, ℕ, ◌≤◌, true, List, [], ◌∷◌, ◌++◌, length, Option, Some, None, nat_le}
use Rattle.std.specs.Prelude.{sum_by}
use Rattle.std.specs.List.{list_all}
use Rattle.score_base.specs.declared.keys.Key.{Key}
use Rattle.score_base.specs.declared.ids.NodeId.{NodeId}
use Rattle.score_base.specs.declared.ids.TxId.{TxId}
use Rattle.score_base.specs.declared.ids.Value.{Value}
use Rattle.script_lang.specs.Scripts.{ScriptData}
use Rattle.placement.specs.Places.{is_partition}
use Rattle.placement.specs.Clusters.{are_keys_distinct}
use Rattle.grid_model.specs.Documents.{script_numbers, are_numbers_distinct, events_of, keys_of_document, key_order, number_order, is_item}
use Rattle.grid_model.specs.declared.items.Item.{Item}
use Rattle.cluster_file.specs.declared.drafts.Draft.{Draft}
use Rattle.cluster_file.specs.declared.drafts.Part.{Part}
use Rattle.cluster_file.specs.declared.drafts.Part.TheVariants as part
use Rattle.script_lang.specs.declared.limits.TheConstants.{MAX_NODES}
use Rattle.cluster_file.specs.declared.limits.TheConstants.{MAX_EVENTS, MAX_KEYS, MAX_PARTITIONS, MAX_SCRIPTS}

-- the script that is being read, if any
abbrev pub opened : Option ScriptData → List ScriptData
opened None = []
opened (Some s) = s ∷ []

-- the scripts, with the one that is being read
abbrev pub all_scripts : Draft → List ScriptData
all_scripts d = d.scripts ++ opened d.script

-- the cluster so far
pub record IsHead (nodes : ℕ) (places : List (List NodeId)) : Type 0 where
  pub least : 1 ≤ nodes
  pub most : nodes ≤ MAX_NODES
  pub few : length places ≤ MAX_PARTITIONS
  pub each : list_all is_partition places ≡ true
  pub within : list_all (list_all (λ n. nat_le n nodes)) places ≡ true

-- the scripts so far, and what was named
pub record IsNamed (nodes : ℕ) (inits : List (Key × Value)) (scripts : List ScriptData) (known : List Key)
    (numbers : List TxId) : Type 0 where
  pub fresh : are_keys_distinct inits ≡ true
  pub few : length scripts ≤ MAX_SCRIPTS
  pub distinct : are_numbers_distinct (script_numbers scripts) ≡ true
  pub homes : list_all (λ s. nat_le s.home nodes) scripts ≡ true
  pub ordered : known ≡ key_order (keys_of_document inits scripts)
  pub few_keys : length known ≤ MAX_KEYS
  pub taken : numbers ≡ number_order (script_numbers scripts)

-- the schedule so far
pub record IsPlan (nodes : ℕ) (numbers : List TxId) (items : List Item) (events : ℕ) : Type 0 where
  pub each : list_all (is_item nodes numbers) items ≡ true
  pub counted : events ≡ sum_by events_of items
  pub few : events ≤ MAX_EVENTS

-- what each part of the document says of the later ones
abbrev pub IsStage : Part → List (List NodeId) → List (Key × Value) → List ScriptData → Option ScriptData → List Item
    → Type 0
IsStage part.Start places inits scripts script items = ⊥
IsStage part.Nodes places inits scripts script items = (scripts ≡ []) × (script ≡ None) × (items ≡ []) × (inits ≡ [])
IsStage part.Partitions places inits scripts script items =
    (scripts ≡ []) × (script ≡ None) × (items ≡ []) × (inits ≡ []) × (1 ≤ length places)
IsStage part.Inits places inits scripts script items =
    (scripts ≡ []) × (script ≡ None) × (items ≡ []) × (1 ≤ length places)
IsStage part.Scripts places inits scripts script items = (items ≡ []) × (1 ≤ length places)
IsStage part.Items places inits scripts script items = (script ≡ None) × (1 ≤ length places)

-- what was read is well formed so far, its first line at least
pub record IsBegun (d : Draft) : Type 0 where
  pub head : IsHead d.nodes d.places
  pub named : IsNamed d.nodes d.inits (all_scripts d) d.known.keys d.numbers.keys
  pub plan : IsPlan d.nodes (script_numbers (all_scripts d)) d.items d.events
  pub stage : IsStage d.part d.places d.inits d.scripts d.script d.items

-- d with a script that is being read
abbrev pub inside : Draft → ScriptData → Draft
inside d s = record d { script = Some s; part = part.Scripts }

-- d with that script taken out
abbrev pub outside : Draft → Draft
outside d = record d { script = None; part = part.Scripts }

-- d in the schedule
abbrev pub planned : Draft → Draft
planned d = record d { script = None; part = part.Items }
