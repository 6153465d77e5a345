-- What a list of acts says of messages. The newest act stands first: a list of
-- acts in the order of time becomes such a past by `after []`.
use Rattle.std.specs.Prelude.{ℕ, ◌-◌, Bool, false, ◌||◌, ◌==◌, List, [], ◌∷◌, ◌++◌, Option, None, slice_get, if◌then◌else◌}
use Rattle.grid_model.specs.declared.acts.Act.{Act}
use Rattle.grid_model.specs.declared.acts.Act.TheVariants as act
use Rattle.grid_model.specs.declared.messages.Envelope.{Envelope}

-- the past with these acts, in the order of time, behind it
abbrev pub after : List Act → List Act → List Act
after past [] = past
after past (a ∷ acts) = after (a ∷ past) acts

-- the messages sent behind an act
abbrev pub sent_behind : Act → List Envelope → List Envelope
sent_behind (act.Sent m x y said) ms = ms ++ record { from = x; to = y; message = said } ∷ []
sent_behind a ms = ms

-- the messages that were sent, in order
abbrev pub sent : List Act → List Envelope
sent [] = []
sent (a ∷ past) = sent_behind a (sent past)

-- message m of those that were sent; numbers begin at 1
abbrev pub sent_at : ℕ → List Envelope → Option Envelope
sent_at m ms = if m == 0 then None else slice_get ms (m - 1)

-- whether message m is gone behind an act
abbrev pub gone_behind : Act → ℕ → Bool → Bool
gone_behind (act.Got k) m b = (k == m) || b
gone_behind (act.Missed k) m b = (k == m) || b
gone_behind (act.Dropped k) m b = (k == m) || b
gone_behind a m b = b

-- message m was got, missed or dropped
abbrev pub is_gone : List Act → ℕ → Bool
is_gone [] m = false
is_gone (a ∷ past) m = gone_behind a m (is_gone past m)
