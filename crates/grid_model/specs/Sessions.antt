-- What a session has seen when its next transaction begins, whether one of its transactions is still open,
-- and what is claimed of the order of a session.
use Rattle.std.specs.Prelude.{◌≡◌, ℕ, ◌≤◌, ◌<◌, max, Bool, true, false, ◌&&◌, ◌==◌, not, List, [], ◌∷◌, ◌++◌, Option, Some, if◌then◌else◌}
use Rattle.std.specs.List.{list_any}
use Rattle.score_base.specs.declared.ids.TxId.{TxId}
use Rattle.score_base.specs.declared.ids.NodeId.{NodeId}
use Rattle.score_base.specs.declared.ids.Ident.{Ident}
use Rattle.script_lang.specs.Scripts.{ScriptData}
use Rattle.grid_model.specs.declared.acts.Act.{Act}
use Rattle.grid_model.specs.declared.acts.Act.TheVariants as act
use Rattle.grid_model.specs.declared.stories.Story.{Story}
use Rattle.grid_model.specs.Documents.{DocumentData}
use Rattle.grid_model.specs.Histories.{after}
use Rattle.journal_words.specs.Journals.{commit_id}
use Rattle.grid_model.specs.Nodes.{journal, script_of}
use Rattle.grid_model.specs.Stories.{Phase, Closed, Decided, Answered, phase, is_open}
use Rattle.grid_model.specs.Copies.{snapshot, snapshot_in}
use Rattle.grid_model.specs.States.{State, state_of, phase_on}

-- ---- what a session has seen

-- a transaction of this session; 0 is no session
abbrev pub is_of : ℕ → ScriptData → Bool
is_of k s = not (k == 0) && (s.session == k)

-- what a transaction that stands so leaves to its session: its final identifier where it is decided, its
-- snapshot identifier where it was answered
abbrev pub left_by : Phase → Option Story → Ident
left_by (Closed f) o = f
left_by (Decided y) o = y.final
left_by Answered o = snapshot_in o
left_by p o = 0

-- what the transaction of a script leaves
abbrev pub left_on : State → ScriptData → Ident
left_on st s = left_by (phase_on st s) (st.stories s.number)

-- the greatest identifier that a transaction of session k among these leaves, or 0
abbrev pub floor_among : State → ℕ → List ScriptData → Ident
floor_among st k [] = 0
floor_among st k (s ∷ ss) = if is_of k s then max (left_on st s) (floor_among st k ss) else floor_among st k ss

-- the floor of session k
abbrev pub session_floor : DocumentData → State → ℕ → Ident
session_floor d st k = floor_among st k d.scripts

-- a transaction of session k is reading or collecting
abbrev pub is_busy : DocumentData → State → ℕ → Bool
is_busy d st k = list_any (λ s. is_of k s && is_open (phase_on st s)) d.scripts

-- ---- the same behind a past

abbrev pub floor_at : DocumentData → List Act → ScriptData → Ident
floor_at d past s = session_floor d (state_of d past) s.session

-- the identifier at which the transaction of a script begins
abbrev pub first_at : DocumentData → List Act → ScriptData → Ident
first_at d past s = max (commit_id (journal d past s.home)) (floor_at d past s)

abbrev pub is_busy_at : DocumentData → List Act → ScriptData → Bool
is_busy_at d past s = is_busy d (state_of d past) s.session

-- ---- the order of a session

-- t was decided with this final identifier
pub data CommittedAt (d : DocumentData) (past : List Act) (s : ScriptData) (f : Ident) : Type 0 where
  closed : phase d past s ≡ Closed f → CommittedAt d past s f
  decided : (ns : List NodeId) → phase d past s ≡ Decided (record { final = f; parts = ns }) → CommittedAt d past s f

-- t was answered at this snapshot
pub record AnsweredAt (d : DocumentData) (past : List Act) (s : ScriptData) (i : Ident) : Type 0 where
  pub answered : phase d past s ≡ Answered
  pub at : snapshot d past s.number ≡ i

-- t began before u, which began behind the acts `front`
pub record BeganBefore (past : List Act) (t u : TxId) (front : List Act) : Type 0 where
  pub later : List Act
  pub home : NodeId
  pub ident : Ident
  pub begun : past ≡ later ++ act.Began u home ident ∷ front
  pub between : List Act
  pub before : List Act
  pub node : NodeId
  pub first : Ident
  pub earlier : front ≡ between ++ act.Began t node first ∷ before

-- of two transactions of one session, of which t began first, u began when t was open no more, and the
-- serial order has t before u: an update has a greater final identifier than each update and snapshot
-- before it, and a snapshot is at least each final identifier and snapshot before it
pub record InOrder (d : DocumentData) (past : List Act) (t u : ScriptData) (front : List Act) : Type 0 where
  pub over : is_open (phase d front t) ≡ false
  pub updates : (f g : Ident) → CommittedAt d past t f → CommittedAt d past u g → f < g
  pub seen : (f i : Ident) → CommittedAt d past t f → AnsweredAt d past u i → f ≤ i
  pub written : (i g : Ident) → AnsweredAt d past t i → CommittedAt d past u g → i < g
  pub read : (i j : Ident) → AnsweredAt d past t i → AnsweredAt d past u j → i ≤ j

-- SessionOrder: the serial order keeps the order of each session
abbrev pub SessionOrder : DocumentData → List Act → Type 0
SessionOrder d h =
    (t u : ScriptData) (k : ℕ) (front : List Act) →
    script_of t.number d.scripts ≡ Some t → script_of u.number d.scripts ≡ Some u →
    is_of k t ≡ true → is_of k u ≡ true →
    BeganBefore (after [] h) t.number u.number front → InOrder d (after [] h) t u front
