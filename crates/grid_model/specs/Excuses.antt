-- What an unfinished transaction waits for, and that each transaction is accounted for.
use Rattle.std.specs.Prelude.{◌≡◌, ◌⊎◌, ℕ, Bool, true, false, ◌&&◌, ◌||◌, ◌==◌, not, IsTrue, List, [], ◌∷◌, ◌++◌, Option, Some, None, is_some}
use Rattle.std.specs.List.{list_any}
use Rattle.score_base.specs.declared.ids.TxId.{TxId}
use Rattle.score_base.specs.declared.ids.NodeId.{NodeId}
use Rattle.script_lang.specs.Scripts.{ScriptData}
use Rattle.placement.specs.Places.{is_among}
use Rattle.grid_model.specs.declared.acts.Act.{Act}
use Rattle.grid_model.specs.declared.acts.Act.TheVariants as act
use Rattle.grid_model.specs.declared.messages.Envelope.{Envelope}
use Rattle.grid_model.specs.declared.messages.Message.{Message}
use Rattle.grid_model.specs.declared.messages.Message.TheVariants as message
use Rattle.grid_model.specs.Documents.{DocumentData}
use Rattle.grid_model.specs.Histories.{after, sent, sent_at}
use Rattle.journal_words.specs.Journals.{is_clear}
use Rattle.grid_model.specs.Nodes.{Node, node, script_of, parts_in, is_home}
use Rattle.grid_model.specs.Stories.{Phase, phase, is_open, Reading, Collecting, Answered, Aborted, Lost, Decided, Closed, story}

-- ---- messages of a transaction

-- a read request of operation j of t
abbrev pub is_request_of : TxId → ℕ → Message → Bool
is_request_of t j (message.ReadReq q) = q.t == t && q.op == j
is_request_of t j said = false

-- a read reply for operation j of t
abbrev pub is_reply_of : TxId → ℕ → Message → Bool
is_reply_of t j (message.ReadRep q) = q.t == t && q.op == j
is_reply_of t j said = false

-- a Prepare of t
abbrev pub is_prepare_of : TxId → Message → Bool
is_prepare_of t (message.Prepare q) = q.t == t
is_prepare_of t said = false

-- a vote on t
abbrev pub is_vote_of : TxId → Message → Bool
is_vote_of t (message.Vote u b) = u == t
is_vote_of t said = false

-- a message that passes the test was sent, by its sender and receiver
abbrev pub has_sent : (NodeId → NodeId → Message → Bool) → List Act → Bool
has_sent p [] = false
has_sent p (act.Sent m x y said ∷ past) = p x y said || has_sent p past
has_sent p (a ∷ past) = has_sent p past

-- there is an envelope, and it passes the test
abbrev pub passes : (NodeId → NodeId → Message → Bool) → Option Envelope → Bool
passes p None = false
passes p (Some e) = p e.from e.to e.message

-- a message that passes the test was got
abbrev pub has_got : (NodeId → NodeId → Message → Bool) → List Act → Bool
has_got p [] = false
has_got p (act.Got m ∷ past) = passes p (sent_at m (sent past)) || has_got p past
has_got p (a ∷ past) = has_got p past

-- n went down
abbrev pub has_stopped : NodeId → List Act → Bool
has_stopped n [] = false
has_stopped n (act.Down m h ∷ past) = (m == n) || has_stopped n past
has_stopped n (a ∷ past) = has_stopped n past

-- the first of these acts, in the order of time, is that n stopped in a record
abbrev pub began_down : NodeId → List Act → Bool
began_down n [] = false
began_down n (act.Down m (Some h) ∷ []) = m == n
began_down n (a ∷ []) = false
began_down n (a ∷ (b ∷ past)) = began_down n (b ∷ past)

-- n holds a read of t for operation j, and a pending proposal at n is at most its identifier
abbrev pub is_held_at : Node → TxId → ℕ → Bool
is_held_at x t j = list_any (λ h. h.t == t && (h.op == j && not (is_clear h.sid x.journal))) x.held

-- a message that passes the test was got at n, and these acts came behind
pub record GotAt (p : NodeId → NodeId → Message → Bool) (past : List Act) (n : NodeId) (later : List Act) : Type 0 where
  pub m : ℕ
  pub before : List Act
  pub there : past ≡ later ++ act.Got m ∷ before
  pub said : IsTrue (passes (λ x y said. y == n && p x y said) (sent_at m (sent before)))

-- the read of operation j: the home sent a request, no reply was got, and each request that was got was
-- answered to the home, or its server went down, or it is held there
pub record WaitsForRead (d : DocumentData) (past : List Act) (t : TxId) (j : ℕ) : Type 0 where
  pub asked : IsTrue (has_sent (λ x y said. is_home d t x && is_request_of t j said) past)
  pub quiet : has_got (λ x y said. is_reply_of t j said) past ≡ false
  pub each : (n : NodeId) (later : List Act) → GotAt (λ x y said. is_request_of t j said) past n later → IsTrue
      (has_sent (λ x y said. x == n && (is_home d t y && is_reply_of t j said)) later
      || (has_stopped n later || is_held_at (node d past n) t j))

-- the vote of a part: the home sent it a Prepare, no vote of it was got, and each Prepare that it got was
-- answered to the home, or it went down in that step
pub record WaitsForVote (d : DocumentData) (past : List Act) (t : TxId) : Type 0 where
  pub part : NodeId
  pub is_part : IsTrue (is_among part (parts_in d (script_of t d.scripts)))
  pub asked : IsTrue (has_sent (λ x y said. is_home d t x && (y == part && is_prepare_of t said)) past)
  pub quiet : has_got (λ x y said. x == part && is_vote_of t said) past ≡ false
  pub each : (later : List Act) → GotAt (λ x y said. is_prepare_of t said) past part later
      → IsTrue (began_down part later || has_sent (λ x y said. x == part && (is_home d t y && is_vote_of t said)) later)

-- an open transaction is excused: its home is down, or it waits for a read or for a vote
pub data ExcusedOf (d : DocumentData) (past : List Act) (s : ScriptData) : Type 0 where
  home_is_down : (node d past s.home).up ≡ false → ExcusedOf d past s
  reads : (j : ℕ) → phase d past s ≡ Reading j → WaitsForRead d past s.number j → ExcusedOf d past s
  collects : phase d past s ≡ Collecting → WaitsForVote d past s.number → ExcusedOf d past s

-- Excused: each transaction of the document that is reading or collecting at the end is excused
abbrev pub Excused : DocumentData → List Act → Type 0
Excused d h =
    (s : ScriptData) (t : TxId) → script_of t d.scripts ≡ Some s → IsTrue (is_open (phase d (after [] h) s))
    → ExcusedOf d (after [] h) s

-- answered, aborted, lost, decided or closed
abbrev pub is_settled : Phase → Bool
is_settled Answered = true
is_settled Aborted = true
is_settled Lost = true
is_settled (Decided y) = true
is_settled (Closed f) = true
is_settled p = false

-- Accounted: each transaction of the document that was begun is answered, aborted, lost, decided or
-- closed at the end, or it is excused
abbrev pub Accounted : DocumentData → List Act → Type 0
Accounted d h =
    (s : ScriptData) (t : TxId) → script_of t d.scripts ≡ Some s → IsTrue (is_some (story d (after [] h) s.number))
    → IsTrue (is_settled (phase d (after [] h) s)) ⊎ ExcusedOf d (after [] h) s
