-- What each opening of a start leaves as it is holds behind the start: nothing is told there, and nothing is got.
use Rattle.grid_model.specs.Excuses.{has_got}
use Rattle.grid_model.specs.Documents.{DocumentData}
use Rattle.grid_model.specs.Histories.{after}
use Rattle.grid_model.specs.Schedules.{start_act, start_row}
use Rattle.grid_model.specs.Stories.{story}
use Rattle.grid_model.specs.declared.acts.Act.TheVariants as act
use Rattle.grid_model.specs.declared.acts.Act.{Act}
use Rattle.grid_model.specs.declared.acts.Flag.TheVariants as flag
use Rattle.grid_model.specs.declared.messages.Message.{Message}
use Rattle.score_base.specs.declared.ids.NodeId.{NodeId}
use Rattle.score_base.specs.declared.ids.TxId.{TxId}
use Rattle.std.proofs.Common.{Bool, List, None, [], false, refl, true, ◌∷◌, ◌≡◌}
use Rattle.std.specs.List.{range_with_len}
use Rattle.std.specs.Prelude.{if◌then◌else◌, map}

-- a claim on pasts that an act of a start leaves true
pub record Starting (Q : List Act → Type 0) : Type 0 where
  pub opens : (past : List Act) (n : NodeId) → Q past → Q (act.Up n flag.Untouched ∷ past)
  pub fails : (past : List Act) (n : NodeId) → Q past → Q (act.StillDown n ∷ past)

starts : (Q : List Act → Type 0) (ups : NodeId → Bool) (ns : List NodeId) (past : List Act) → Starting Q → Q past
    → Q (after past (map (start_act ups) ns))
starts Q ups [] past leaves h = h
starts Q ups (n ∷ ns) past leaves h = go (ups n) (λ a k. starts Q ups ns (a ∷ past) leaves k)
  where
    go : (b : Bool) → ((a : Act) → Q (a ∷ past) → Q (after (a ∷ past) (map (start_act ups) ns)))
        → Q (after ((if b then act.Up n flag.Untouched else act.StillDown n) ∷ past) (map (start_act ups) ns))
    go true more = more (act.Up n flag.Untouched) (leaves.opens past n h)
    go false more = more (act.StillDown n) (leaves.fails past n h)

-- what is true at first, and left true, is true behind the start of a cluster
pub behind-start : (Q : List Act → Type 0) (d : DocumentData) (ups : NodeId → Bool) → Starting Q → Q []
    → Q (after [] (start_row d.cluster.nodes ups))
behind-start Q d ups leaves h = starts Q ups (range_with_len 1 d.cluster.nodes) [] leaves h

pub start-untold : (d : DocumentData) (ups : NodeId → Bool) (t : TxId)
    → story d (after [] (start_row d.cluster.nodes ups)) t ≡ None
start-untold d ups t = behind-start (λ z. story d z t ≡ None) d ups (record { opens = λ past n h. h; fails = λ past n h. h }) refl

-- no message was got
pub start-none : (d : DocumentData) (p : NodeId → NodeId → Message → Bool) (ups : NodeId → Bool)
    → has_got p (after [] (start_row d.cluster.nodes ups)) ≡ false
start-none d p ups = behind-start (λ z. has_got p z ≡ false) d ups (record { opens = λ past n h. h; fails = λ past n h. h }) refl
