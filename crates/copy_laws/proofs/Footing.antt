-- What the serial copy rests on, and the values that transactions took.
use Rattle.std.proofs.Common.{◌≡◌, ℕ, List, [], ◌∷◌, ◌++◌, Option, Some, None}
use Rattle.std.specs.Prelude.{IsTrue}
use Rattle.score_base.specs.declared.ids.TxId.{TxId}
use Rattle.score_base.specs.declared.ids.NodeId.{NodeId}
use Rattle.score_base.specs.declared.ids.Ident.{Ident}
use Rattle.score_base.specs.declared.ids.Value.{Value}
use Rattle.score_base.specs.declared.keys.Key.{Key}
use Rattle.placement.specs.Places.{holds}
use Rattle.grid_model.specs.declared.acts.Act.{Act}
use Rattle.grid_model.specs.declared.acts.Act.TheVariants as act
use Rattle.grid_model.specs.declared.stories.Story.{Story}
use Rattle.grid_model.specs.Documents.{DocumentData, IsOne}
use Rattle.grid_model.specs.Nodes.{script_of}
use Rattle.grid_model.specs.Stories.{story}
use Rattle.grid_model.specs.Copies.{key_at}
use Rattle.grid_laws.proofs.Causes.{AllDue}

-- what the serial copy rests on: the document is one, and each act was due
pub record Rests (d : DocumentData) (past : List Act) : Type 0 where
  pub one : IsOne d
  pub due : AllDue d past

-- the values that a story took
abbrev pub story_values : Option Story → List (ℕ × Value)
story_values None = []
story_values (Some x) = x.progress.values

-- the values that t took so far
abbrev pub values_in : DocumentData → List Act → TxId → List (ℕ × Value)
values_in d past t = story_values (story d past t)

-- a node that holds the key of operation j of t served it with this value at this identifier
pub record IsServed (d : DocumentData) (past : List Act) (t : TxId) (j : ℕ) (sid : Ident) (v : Value) : Type 0 where
  pub n : NodeId
  pub key : Key
  pub vn : Ident
  pub later : List Act
  pub before : List Act
  pub there : past ≡ later ++ act.Served n t j key sid vn v ∷ before
  pub holds : IsTrue (holds d.cluster.places n key)
  pub named : key_at (script_of t d.scripts) j ≡ Some key
