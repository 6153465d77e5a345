-- The messages of a node's outs, and how a link ends.
use Rattle.std.specs.Prelude.{◌≡◌, ℕ, List, [], ◌∷◌, ◌++◌}
use Rattle.score_base.specs.Faults.{Rose}
use Rattle.grid_model.specs.declared.events.Out.{Out}
use Rattle.grid_model.specs.declared.events.Out.TheVariants as out
use Rattle.grid_model.specs.declared.messages.Envelope.{Envelope}
use Rattle.node_core.specs.declared.links.LinkEnd.{LinkEnd}
use Rattle.node_core.specs.declared.links.LinkEnd.TheVariants.{Failed, Memory}

-- the messages among these outs of a node, in order
abbrev pub posts : ℕ → List Out → List Envelope
posts n [] = []
posts n (out.Act a ∷ os) = posts n os
posts n (out.Send to said ∷ os) = record { from = n; to = to; message = said } ∷ posts n os

-- a link fails only where its count of faults rose
abbrev pub IsLinkEnd : ℕ → ℕ → LinkEnd → Type 0
IsLinkEnd before now Failed = Rose before now
IsLinkEnd before now Memory = Unit {0}

-- a front of these messages was sent, and no other
pub record IsFrontSent (messages before now : List Envelope) : Type 0 where
  pub front : List Envelope
  pub rest : List Envelope
  pub whole : messages ≡ front ++ rest
  pub sent : now ≡ before ++ front
