-- Runs that are played: the acts that the rows give for events, each with what the disks do in it. What
-- is played is a run.
use Rattle.std.proofs.Common.{ℕ, Bool, true, false, map, List, [], ◌∷◌, ◌++◌, ◌≡◌, refl}
use Rattle.std.specs.List.{flat_map}
use Rattle.score_base.specs.declared.ids.TxId.{TxId}
use Rattle.score_base.specs.declared.ids.NodeId.{NodeId}
use Rattle.score_base.specs.declared.ids.Ident.{Ident}
use Rattle.score_base.specs.declared.ids.Value.{Value}
use Rattle.score_base.specs.declared.keys.Key.{Key}
use Rattle.score_base.specs.declared.causes.Date.{Date}
use Rattle.placement.specs.Clusters.{init}
use Rattle.grid_model.specs.declared.acts.Act.{Act}
use Rattle.grid_model.specs.declared.items.Item.{Item}
use Rattle.grid_model.specs.declared.messages.Message.{Message}
use Rattle.grid_model.specs.declared.messages.Message.TheVariants as message
use Rattle.grid_model.specs.Documents.{DocumentData}
use Rattle.grid_model.specs.Histories.{after}
use Rattle.journal_words.specs.declared.versions.Version.{Version}
use Rattle.journal_words.specs.Journals.{best, applied}
use Rattle.grid_model.specs.Nodes.{journal}
use Rattle.grid_model.specs.Stories.{Phase, phase}
use Rattle.grid_model.specs.Schedules.{Choice, row, start_row, events_in}
use Rattle.grid_model.specs.Runs.{Rows, IsRun}

-- ---- events and choices

-- nothing fails: a record is kept, a node that is opened comes up, a record in doubt is found
abbrev pub usual : Choice
usual = record { keeps = true; opens = true; finds = true }

-- the disk fails at a record
abbrev pub broken : Choice
broken = record { keeps = false; opens = true; finds = true }

-- the record in doubt is not found
abbrev pub unfound : Choice
unfound = record { keeps = true; opens = true; finds = false }

-- the disk fails at an opening
abbrev pub unopened : Choice
unopened = record { keeps = true; opens = false; finds = true }

-- the events of these items, in each of which nothing fails
abbrev pub usually : List Item → List (Item × Choice)
usually is = map (λ i. (i, usual)) (flat_map events_in is)

-- each node is opened
abbrev pub all_open : NodeId → Bool
all_open n = true

-- the start, where each node of the cluster is opened
abbrev pub start : DocumentData → List Act
start d = start_row d.cluster.nodes all_open

-- the history behind these events, the newest act first
abbrev pub played : DocumentData → List Act → List (Item × Choice) → List Act
played d past [] = past
played d past (e ∷ es) = played d (after past (row d past e.0 e.1)) es

-- ---- messages, by their words

abbrev pub request : TxId → ℕ → Key → Date → Message
request t op k date = message.ReadReq (record { t = t; op = op; key = k; date = date })

abbrev pub reply : TxId → ℕ → Ident → Value → Message
reply t op sid v = message.ReadRep (record { t = t; op = op; sid = sid; value = v })

abbrev pub prepare : TxId → Ident → List NodeId → List Key → List (Key × Value) → Message
prepare t sid parts reads writes =
    message.Prepare (record { t = t; sid = sid; parts = parts; reads = reads; writes = writes })

-- ---- what is played is a run

-- the acts of these events behind a past
abbrev pub play : DocumentData → List Act → List (Item × Choice) → List Act
play d past [] = []
play d past (e ∷ es) = row d past e.0 e.1 ++ play d (after past (row d past e.0 e.1)) es

abbrev pub items_of : List (Item × Choice) → List Item
items_of es = map (λ e. e.0) es

pub play-rows : (d : DocumentData) (past : List Act) (es : List (Item × Choice))
    → Rows d past (items_of es) (play d past es)
unfolding Rows
play-rows d past [] = refl
play-rows d past (e ∷ es) = (e.1, play d (after past (row d past e.0 e.1)) es, refl, play-rows d (after past (row d past e.0 e.1)) es)

-- the acts of the start and of these events are a run of the document whose events they are
pub played-run : (d : DocumentData) (opens : NodeId → Bool) (es : List (Item × Choice))
    → items_of es ≡ flat_map events_in d.items
    → IsRun d d.items (start_row d.cluster.nodes opens ++ play d (after [] (start_row d.cluster.nodes opens)) es)
played-run d opens es same = record {
  opens = opens;
  rest = play d (after [] (start_row d.cluster.nodes opens)) es;
  start = refl;
  rows = rw (← same) (play-rows d (after [] (start_row d.cluster.nodes opens)) es);
}

-- ---- what stands at the end

-- the phase of each script
abbrev pub phases : DocumentData → List Act → List Phase
phases d past = map (phase d past) d.scripts

abbrev pub shown : Version → Value × Ident
shown w = (w.value, w.ident)

-- the value and the identifier of the newest version of a key that is applied at n
abbrev pub newest_at : DocumentData → List Act → NodeId → Key → Value × Ident
newest_at d past n k = shown (best (journal d past n) k (init d.cluster k) (applied (journal d past n)))
