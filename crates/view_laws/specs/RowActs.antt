-- The acts of an event, as they stand in a history.
use Rattle.std.specs.Prelude.{ℕ, List, [], ◌∷◌, ◌++◌}
use Rattle.score_base.specs.declared.ids.NodeId.{NodeId}
use Rattle.grid_model.specs.declared.acts.Act.{Act}
use Rattle.grid_model.specs.declared.acts.Act.TheVariants as act
use Rattle.grid_model.specs.declared.events.Event.{Event}
use Rattle.grid_model.specs.declared.events.Event.TheVariants as event
use Rattle.grid_model.specs.declared.messages.Envelope.{Envelope}
use Rattle.grid_model.specs.Documents.{DocumentData}
use Rattle.grid_model.specs.Rows.{outs_of}
use Rattle.grid_model.specs.Schedules.{Choice, acts_of}
use Rattle.grid_model.specs.Views.{view}

-- the first acts of an event: a message that is delivered as m is got
abbrev pub came : ℕ → Event → List Act
came m (event.Deliver x said) = act.Got m ∷ []
came m e = []

-- the messages that these acts send, in order
abbrev pub envelopes : List Act → List Envelope
envelopes [] = []
envelopes (act.Sent m x y said ∷ acts) = record { from = x; to = y; message = said } ∷ envelopes acts
envelopes (a ∷ acts) = envelopes acts

-- the acts of an event of n, which delivers message m where it delivers one: its row on the view of n, by what the
-- disks choose
abbrev pub event_row : DocumentData → List Act → Choice → NodeId → ℕ → Event → List Act
event_row d past c n m e = came m e ++ acts_of past c n (outs_of n (view d past n) e)
