-- The floor of a session is no greater than the greatest identifier of the acts so far.
use Rattle.std.proofs.Common.{◌≡◌, ℕ, ◌≤◌, Bool, true, false, ◌&&◌, not, max, List, [], ◌∷◌, Option, Some, None, refl, arith, if◌then◌else◌}
use Rattle.std.specs.Prelude.{nat_lt}
use Rattle.score_base.specs.declared.ids.TxId.{TxId}
use Rattle.score_base.specs.declared.records.Record.{Record}
use Rattle.script_lang.specs.declared.scripts.Op.{Op}
use Rattle.script_lang.specs.Scripts.{ScriptData}
use Rattle.script_lang.specs.Reads.{is_update}
use Rattle.script_runs.specs.Waits.{waiting}
use Rattle.journal_words.specs.Journals.{Decision, decision, is_closed, times_decided, later_decision}
use Rattle.grid_model.specs.declared.acts.Act.{Act}
use Rattle.grid_model.specs.declared.stories.Story.{Story}
use Rattle.grid_model.specs.Documents.{DocumentData}
use Rattle.grid_model.specs.Nodes.{Node, node}
use Rattle.grid_model.specs.Stories.{Lost, Aborted, Answered, open_phase, undecided_phase, decided_phase, phase_at, story}
use Rattle.grid_model.specs.States.{state_of}
use Rattle.grid_model.specs.Sessions.{is_of, left_by, left_on, floor_among, floor_at}
use Rattle.grid_model.specs.Acts.{EachAct}
use Rattle.grid_model.specs.Facts.{IsAtMost}
use Rattle.grid_laws.proofs.LowWords.{IsLowRecord, IsLowStory, decision-low, nodes-low, snapshot-low, stories-low}
use Rattle.grid_laws.proofs.NodesFit.{AllHold}

later-low : (m k : ℕ) (t : TxId) (r : List Record) → AllHold (IsLowRecord m) r → (y : Decision)
    → later_decision k t r ≡ Some y → y.final ≤ m
later-low m k t r low y is = go (nat_lt k (times_decided t r)) is
  where
    go : (b : Bool) → (if b then decision t r else None) ≡ Some y → y.final ≤ m
    go true e = decision-low m t y r low e
    go false e = cc

open-left : (o : Option ℕ) (x : Option Story) (m : ℕ) → left_by (open_phase o) x ≤ m
open-left None x m = omega arith
open-left (Some j) x m = omega arith

undecided-left : (m : ℕ) (ops : List Op) (x : Story) → IsLowStory m (Some x)
    → left_by (undecided_phase ops x) (Some x) ≤ m
undecided-left m ops x low = go x.aborted (x.finished && not (is_update ops))
  where
    go : (a f : Bool)
        → left_by (if a then Aborted else (if f then Answered else open_phase (waiting ops x.progress.values))) (Some x)
        ≤ m
    go true f = omega arith
    go false true = snapshot-low m x low
    go false false = open-left (waiting ops x.progress.values) (Some x) m

decided-left : (m : ℕ) (ops : List Op) (x : Story) (closed : Bool) (o : Option Decision) → IsLowStory m (Some x)
    → ((y : Decision) → o ≡ Some y → y.final ≤ m) → left_by (decided_phase ops x closed o) (Some x) ≤ m
decided-left m ops x closed None low final = undecided-left m ops x low
decided-left m ops x true (Some y) low final = final y refl
decided-left m ops x false (Some y) low final = final y refl

-- what a transaction leaves
left-low : (m : ℕ) (s : ScriptData) (o : Option Story) (h : Node) → AllHold (IsLowRecord m) h.journal → IsLowStory m o
    → left_by (phase_at s o h) o ≤ m
left-low m s None h records low = omega arith
left-low m s (Some x) h records low = go x.lost
  where
    y : Option Decision
    y = later_decision x.skipped s.number h.journal

    go : (b : Bool) → left_by (if b then Lost else decided_phase s.ops x (is_closed s.number h.journal) y) (Some x) ≤ m
    go true = omega arith
    go false = decided-left m s.ops x (is_closed s.number h.journal) y low (λ z is. later-low m x.skipped s.number h.journal records z is)

among-low : (m : ℕ) (d : DocumentData) (past : List Act) (k : ℕ) (ss : List ScriptData) → EachAct (IsAtMost m) past
    → floor_among (state_of d past) k ss ≤ m
among-low m d past k [] low = omega arith
among-low m d past k (s ∷ ss) low =
    let here : left_on (state_of d past) s ≤ m = left-low m s (story d past s.number) (node d past s.home) (nodes-low m d past low s.home).journal (stories-low m d past low s.number) in
    either (is_of k s) here (among-low m d past k ss low)
  where
    either : (b : Bool) → left_on (state_of d past) s ≤ m → floor_among (state_of d past) k ss ≤ m → (if b
        then max (left_on (state_of d past) s) (floor_among (state_of d past) k ss)
        else floor_among (state_of d past) k ss) ≤ m
    either true here rest = omega (arith, here, rest)
    either false here rest = rest

-- the floor of a session
pub floor_at-low : (m : ℕ) (d : DocumentData) (past : List Act) (s : ScriptData) → EachAct (IsAtMost m) past
    → floor_at d past s ≤ m
floor_at-low m d past s low = among-low m d past s.session d.scripts low
