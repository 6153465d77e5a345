-- Few messages are sent, and few reads are held.
use Rattle.std.specs.Prelude.{ℕ, ◌≤◌, ◌+◌, ◌*◌, List, [], ◌∷◌, length}
use Rattle.score_base.specs.declared.ids.NodeId.{NodeId}
use Rattle.grid_model.specs.declared.acts.Act.{Act}
use Rattle.grid_model.specs.declared.events.Out.{Out}
use Rattle.grid_model.specs.declared.events.Out.TheVariants as out
use Rattle.grid_model.specs.Documents.{DocumentData}
use Rattle.grid_model.specs.Histories.{sent}
use Rattle.grid_model.specs.Nodes.{node}

-- how many of these outs are messages
abbrev pub sends : List Out → ℕ
sends [] = 0
sends (out.Act a ∷ os) = sends os
sends (out.Send to said ∷ os) = 1 + sends os

-- Behind k events few messages were sent and few reads are held: an event sends at most 16 messages
-- beside the answers to the reads that its node holds, and holds at most one read. 50,016 is the most
-- that one of 50,000 events can send.
pub record IsFew (d : DocumentData) (past : List Act) (k : ℕ) : Type 0 where
  pub sent_few : length (sent past) ≤ 50016 * k
  pub held_few : (n : NodeId) → length (node d past n).held ≤ k
