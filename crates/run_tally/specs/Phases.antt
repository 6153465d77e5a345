-- What a tally says of where transactions are: begun, open, busy sessions, what a session has seen, and losses.
use Rattle.std.specs.Prelude.{◌≡◌, ℕ, max, Bool, false, ◌&&◌, ◌==◌, not, List, [], ◌∷◌, Option, Some, None, is_some, if◌then◌else◌}
use Rattle.std.specs.List.{list_any, flat_map}
use Rattle.score_base.specs.declared.ids.TxId.{TxId}
use Rattle.score_base.specs.declared.ids.NodeId.{NodeId}
use Rattle.score_base.specs.declared.ids.Ident.{Ident}
use Rattle.script_lang.specs.declared.scripts.Op.{Op}
use Rattle.script_lang.specs.Scripts.{ScriptData}
use Rattle.script_lang.specs.Reads.{is_update}
use Rattle.grid_model.specs.declared.acts.Act.{Act}
use Rattle.grid_model.specs.declared.acts.Act.TheVariants as act
use Rattle.grid_model.specs.Documents.{DocumentData, script_numbers, number_order}
use Rattle.grid_model.specs.Keyed.{at_key}
use Rattle.grid_model.specs.Nodes.{script_of}
use Rattle.grid_model.specs.Schedules.{losses_on}
use Rattle.grid_model.specs.Sessions.{is_of, is_busy, session_floor}
use Rattle.grid_model.specs.States.{state_of, phase_on}
use Rattle.grid_model.specs.Stories.{first_sid, is_open, story}
use Rattle.run_tally.specs.declared.txs.TxTally.{TxTally}
use Rattle.run_tally.specs.Tallies.{TallyData, node_in}

-- the transaction was begun
abbrev pub begun_in : TallyData → TxId → Bool
begun_in x t = is_some (at_key t x.txs)

-- the final identifier of the decision on a script's transaction that stands at its home
abbrev pub final_in : TallyData → ScriptData → Option Ident
final_in x s = at_key s.number (node_in s.home x.nodes).decided

-- the client was told what an undecided transaction read
abbrev pub was_answered : List Op → TxTally → Bool
was_answered ops x = not x.aborted && (x.finished && not (is_update ops))

-- it is reading or collecting, by its entry and by its final identifier
abbrev pub tx_is_open : List Op → Option TxTally → Option Ident → Bool
tx_is_open ops None f = false
tx_is_open ops (Some x) f = not x.lost && (not (is_some f) && (not x.aborted && not (x.finished && not (is_update ops))))

-- a script's transaction is reading or collecting
abbrev pub open_in : TallyData → ScriptData → Bool
open_in x s = tx_is_open s.ops (at_key s.number x.txs) (final_in x s)

-- what a transaction that was begun and not lost leaves to its session
abbrev pub told_leaves : List Op → TxTally → Option Ident → Ident
told_leaves ops x (Some f) = f
told_leaves ops x None = if was_answered ops x then first_sid x.sid x.sid0 else 0

-- what a transaction leaves to its session
abbrev pub tx_leaves : List Op → Option TxTally → Option Ident → Ident
tx_leaves ops None f = 0
tx_leaves ops (Some x) f = if x.lost then 0 else told_leaves ops x f

-- what a script's transaction leaves
abbrev pub leaves_in : TallyData → ScriptData → Ident
leaves_in x s = tx_leaves s.ops (at_key s.number x.txs) (final_in x s)

-- the greatest identifier that a transaction of session k among these leaves, or 0
abbrev pub floor_among : TallyData → ℕ → List ScriptData → Ident
floor_among x k [] = 0
floor_among x k (s ∷ ss) = if is_of k s then max (leaves_in x s) (floor_among x k ss) else floor_among x k ss

-- the floor of session k
abbrev pub floor_in : DocumentData → TallyData → ℕ → Ident
floor_in d x k = floor_among x k d.scripts

-- a transaction of session k among these is reading or collecting
abbrev pub busy_among : TallyData → ℕ → List ScriptData → Bool
busy_among x k ss = list_any (λ s. is_of k s && open_in x s) ss

-- a transaction of session k is reading or collecting
abbrev pub busy_in : DocumentData → TallyData → ℕ → Bool
busy_in d x k = busy_among x k d.scripts

-- the loss of a script's transaction, where it is an open one of home n
abbrev pub lost_in : TallyData → NodeId → Option ScriptData → List Act
lost_in x n None = []
lost_in x n (Some s) = if (s.home == n) && open_in x s then act.Lost s.number ∷ [] else []

-- the losses of the open transactions of home n, in rising number
abbrev pub losses_in : DocumentData → TallyData → NodeId → List Act
losses_in d x n = flat_map (λ t. lost_in x n (script_of t d.scripts)) (number_order (script_numbers d.scripts))

-- the tally says behind these acts what the model says
pub record TellsPhases (d : DocumentData) (x : TallyData) (past : List Act) : Type 0 where
  pub begun : (t : TxId) → begun_in x t ≡ is_some (story d past t)
  pub open_is : (s : ScriptData) → open_in x s ≡ is_open (phase_on (state_of d past) s)
  pub busy : (k : ℕ) → busy_in d x k ≡ is_busy d (state_of d past) k
  pub floor : (k : ℕ) → floor_in d x k ≡ session_floor d (state_of d past) k
  pub losses : (n : NodeId) → losses_in d x n ≡ losses_on d (state_of d past) n
