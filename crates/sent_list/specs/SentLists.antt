-- The messages of a run: those that were sent, in order, and which of them are gone.
use Rattle.std.specs.Prelude.{◌≡◌, ◌<◌, ◌^◌, ℕ, ◌-◌, suc, Bool, true, false, ◌==◌, List, [], ◌∷◌, ◌++◌, length, map, Option, is_some, slice_index_or, slice_set, if◌then◌else◌}
use Rattle.grid_model.specs.declared.acts.Act.{Act}
use Rattle.grid_model.specs.declared.acts.Act.TheVariants as act
use Rattle.grid_model.specs.declared.events.Out.{Out}
use Rattle.grid_model.specs.declared.events.Out.TheVariants as out
use Rattle.grid_model.specs.declared.messages.Envelope.{Envelope}
use Rattle.grid_model.specs.Histories.{sent, sent_at, is_gone}
use Rattle.grid_model.specs.Schedules.{first_in}

-- ---- marks by number; numbers begin at 1

-- number m is marked
abbrev pub is_marked : List Bool → ℕ → Bool
is_marked marks m = if m == 0 then false else slice_index_or marks (m - 1) false

-- the marks with that of number m, where there is one
abbrev pub marked : ℕ → List Bool → List Bool
marked m marks = if m == 0 then marks else slice_set marks (m - 1) true

-- how many are marked from the first on
abbrev pub passed : List Bool → ℕ
passed [] = 0
passed (true ∷ marks) = suc (passed marks)
passed (false ∷ marks) = 0

-- ---- the list

-- the messages sent, in order, and for each whether it is gone: got, missed or dropped
pub record SentData : Type 0 where
  pub sent : List Envelope
  pub gone : List Bool

-- nothing was sent
abbrev pub SentStart : SentData
SentStart = record { sent = []; gone = [] }

-- these messages are sent besides
abbrev pub with_sent : List Envelope → SentData → SentData
with_sent ms x = record { sent = x.sent ++ ms; gone = x.gone ++ map (λ m. false) ms }

-- message m is gone; where no message has this number, nothing changes
abbrev pub with_gone : ℕ → SentData → SentData
with_gone m x = record x { gone = marked m x.gone }

-- the least-numbered message that is not gone
abbrev pub least_left : SentData → Option ℕ
least_left x = first_in (is_marked x.gone) 1 (length x.sent)

-- ---- the list and the acts of a run

-- the list behind one act more
abbrev pub SentStep : Act → SentData → SentData
SentStep (act.Sent m x y said) s = with_sent (record { from = x; to = y; message = said } ∷ []) s
SentStep (act.Got m) s = with_gone m s
SentStep (act.Missed m) s = with_gone m s
SentStep (act.Dropped m) s = with_gone m s
SentStep a s = s

-- the list tells what these acts tell of messages
pub record ShowsSent (x : SentData) (past : List Act) : Type 0 where
  pub marks : length x.gone ≡ length x.sent
  pub sent : x.sent ≡ sent past
  pub gone : (m : ℕ) → is_marked x.gone m ≡ is_gone past m

-- the message that an act takes away was sent
abbrev pub takes_sent : List Envelope → Act → Bool
takes_sent ms (act.Got m) = is_some (sent_at m ms)
takes_sent ms (act.Missed m) = is_some (sent_at m ms)
takes_sent ms (act.Dropped m) = is_some (sent_at m ms)
takes_sent ms a = true

-- an act that neither sends a message nor takes one away
abbrev pub is_silent : Act → Bool
is_silent (act.Sent m x y said) = false
is_silent (act.Got m) = false
is_silent (act.Missed m) = false
is_silent (act.Dropped m) = false
is_silent a = true

-- an out that sends a message, or such an act
abbrev pub sends_or_silent : Out → Bool
sends_or_silent (out.Act a) = is_silent a
sends_or_silent (out.Send to said) = true

-- ---- what is kept beside the value

-- each message has its mark, there is a number for each, and the cursor stands behind those that are gone
-- from the first on
pub record IsKept (ms : List Envelope) (marks : List Bool) (cursor : ℕ) : Type 0 where
  pub even : length marks ≡ length ms
  pub few : length ms < 2 ^ 32
  pub behind : cursor ≡ passed marks
