-- What an open phase says of its story and of the journal of the home, and what leaves it open.
use Rattle.std.proofs.Common.{◌≡◌, ℕ, Bool, true, false, List, Option, Some, None, refl, arith}
use Rattle.journal_words.specs.Journals.{Decision, decision, is_closed, later_decision}
use Rattle.journal_words.proofs.Later.{undecided-later}
use Rattle.script_lang.specs.declared.scripts.Op.{Op}
use Rattle.script_lang.specs.Scripts.{ScriptData}
use Rattle.grid_model.specs.declared.stories.Story.{Story}
use Rattle.grid_model.specs.Nodes.{Node}
use Rattle.grid_model.specs.Stories.{Answered, phase_by, phase_at, is_open, open_phase, begun, skipped_in, with_value, progressed}
use Rattle.script_runs.specs.Waits.{waiting}
use Rattle.script_lang.specs.Reads.{is_update}
use Rattle.std.specs.Prelude.{◌&&◌, not, if◌then◌else◌}

-- an open transaction is begun
pub open-story : (s : ScriptData) (o : Option Story) (h : Node) → is_open (phase_at s o h) ≡ true
    → (x : Story) × (o ≡ Some x)
open-story s None h e = cc
open-story s (Some x) h e = (x, refl)

-- neither lost nor aborted, and nothing of it was decided since it began
pub record IsOpen (s : ScriptData) (x : Story) (h : Node) : Type 0 where
  pub lost : x.lost ≡ false
  pub aborted : x.aborted ≡ false
  pub undecided : later_decision x.skipped s.number h.journal ≡ None

open-by : (ops : List Op) (x : Story) (closed : Bool) (o : Option Decision) (a b : Bool) → x.lost ≡ a → x.aborted ≡ b
    → is_open (phase_by ops (Some x) closed o) ≡ true → (x.lost ≡ false) × (x.aborted ≡ false) × (o ≡ None)
open-by ops x closed o true b l e is = absurd (grind (arith, l, is))
open-by ops x closed None false true l e is = absurd (grind (arith, l, e, is))
open-by ops x closed None false false l e is = (l, e, refl)
open-by ops x true (Some y) false b l e is = absurd (grind (arith, l, is))
open-by ops x false (Some y) false b l e is = absurd (grind (arith, l, is))

pub open-is : (s : ScriptData) (x : Story) (h : Node) → is_open (phase_at s (Some x) h) ≡ true → IsOpen s x h
open-is s x h e = let w = open-by s.ops x (is_closed s.number h.journal) (later_decision x.skipped s.number h.journal) x.lost x.aborted refl refl e in record { lost = w.0; aborted = w.1; undecided = w.2 }

pub open-undecided : (s : ScriptData) (o : Option Story) (h : Node) → is_open (phase_at s o h) ≡ true
    → later_decision (skipped_in o) s.number h.journal ≡ None
open-undecided s None h e = cc
open-undecided s (Some x) h e = (open-is s x h e).undecided

-- open by its story, it is open at each node that decided nothing more of it
pub open-there : (s : ScriptData) (o : Option Story) (h k : Node) → is_open (phase_at s o h) ≡ true
    → later_decision (skipped_in o) s.number k.journal ≡ None → is_open (phase_at s o k) ≡ true
open-there s None h k e none = cc
open-there s (Some x) h k e none = (let was = (open-is s x h e).undecided in rw none (rw was at e))

-- a transaction that has just begun is open
pub open-begun : (s : ScriptData) (k : ℕ) (sid0 : ℕ) (h : Node) → decision s.number h.journal ≡ None
    → is_open (phase_at s (Some (begun k sid0)) h) ≡ true
open-begun s k sid0 h none = rw (undecided-later k s.number h.journal none) (grind arith)

open-either : (b : Bool) (v w : Option ℕ) → is_open (if b then Answered else open_phase v) ≡ true
    → is_open (if b then Answered else open_phase w) ≡ true
open-either true v w e = e
open-either false v None e = refl
open-either false v (Some j) e = refl

-- a value more leaves it open
pub open-valued : (s : ScriptData) (x : Story) (h : Node) (j sid v : ℕ) → is_open (phase_at s (Some x) h) ≡ true
    → is_open (phase_at s (Some (progressed (with_value j sid v) x)) h) ≡ true
open-valued s x h j sid v e =
    let was = open-is s x h e in
    let l = was.lost in
    let a = was.aborted in
    let u = was.undecided in
    rw (u, l, a) (open-either (x.finished && not (is_update s.ops)) (waiting s.ops x.progress.values) (waiting s.ops (progressed (with_value j sid v) x).progress.values) (rw (u, l, a) at e))
