-- The tally says of where transactions are what the model says behind the acts of a run.
use Rattle.std.proofs.Common.{◌≡◌, ℕ, ◌==◌, Bool, true, false, ◌&&◌, not, List, [], ◌∷◌, ◌++◌, Option, Some, None, is_some, refl, sym, ap, subst, ◌∙◌, if◌then◌else◌}
use Rattle.std.specs.List.{list_any, flat_map}
use Rattle.std.specs.Option.{option_map}
use Rattle.score_base.specs.declared.ids.TxId.{TxId}
use Rattle.score_base.specs.declared.ids.NodeId.{NodeId}
use Rattle.script_lang.specs.declared.scripts.Op.{Op}
use Rattle.script_lang.specs.Scripts.{ScriptData}
use Rattle.script_lang.specs.Reads.{is_update}
use Rattle.script_runs.specs.Waits.{waiting}
use Rattle.journal_words.specs.Journals.{Decision, is_closed, later_decision}
use Rattle.grid_model.specs.declared.acts.Act.{Act}
use Rattle.grid_model.specs.declared.acts.Act.TheVariants as act
use Rattle.grid_model.specs.declared.items.Item.{Item}
use Rattle.grid_model.specs.declared.stories.Story.{Story}
use Rattle.grid_model.specs.Copies.{snapshot_in}
use Rattle.grid_model.specs.Cuts.{IsCutRun, cut}
use Rattle.grid_model.specs.Documents.{DocumentData, script_numbers, number_order}
use Rattle.grid_model.specs.Histories.{after}
use Rattle.grid_model.specs.Nodes.{journal, script_of}
use Rattle.grid_model.specs.Runs.{IsRun}
use Rattle.grid_model.specs.Schedules.{lost_on}
use Rattle.grid_model.specs.Sessions.{is_of, left_by, left_on}
use Rattle.grid_model.specs.Sessions as sessions
use Rattle.grid_model.specs.States.{state_of, phase_on}
use Rattle.grid_model.specs.Stories.{Lost, Aborted, Answered, is_open, open_phase, phase_by, decided_phase, undecided_phase, skipped_in, story}
use Rattle.run_tally.specs.Tallies.{TallyData, tally_of}
use Rattle.run_tally.specs.Phases.{TellsPhases, tx_is_open, told_leaves, tx_leaves, leaves_in, open_in, lost_in, floor_among, busy_among}
use Rattle.run_tally.proofs.ForCode.{AllDue}
use Rattle.run_tally.proofs.Entries.{tally}
use Rattle.run_tally.proofs.TxsTold.{tx_of, told_of, txs-told}
use Rattle.run_tally.proofs.TallyTexts.{final-told, due-first, tally-first, run-uncut}

-- ---- session 0 is none

pub none_busy : (x : TallyData) (ss : List ScriptData) → busy_among x 0 ss ≡ false
none_busy x [] = refl
none_busy x (s ∷ ss) = none_busy x ss

pub none_seen : (x : TallyData) (ss : List ScriptData) → floor_among x 0 ss ≡ 0
none_seen x [] = refl
none_seen x (s ∷ ss) = none_seen x ss

-- ---- one transaction

open_opens : (w : Option ℕ) → is_open (open_phase w) ≡ true
open_opens None = refl
open_opens (Some j) = refl

undecided_opens : (ops : List Op) (x : Story)
    → (not x.aborted && not (x.finished && not (is_update ops))) ≡ is_open (undecided_phase ops x)
undecided_opens ops x = go x.aborted (x.finished && not (is_update ops))
  where
    go : (a f : Bool) → (not a && not f)
        ≡ is_open (if a then Aborted else (if f then Answered else open_phase (waiting ops x.progress.values)))
    go true f = refl
    go false true = refl
    go false false = sym (open_opens (waiting ops x.progress.values))

told_opens : (ops : List Op) (x : Story) (closed : Bool) (o : Option Decision)
    → (not (is_some (option_map (λ y. y.final) o)) && (not x.aborted && not (x.finished && not (is_update ops))))
    ≡ is_open (decided_phase ops x closed o)
told_opens ops x closed None = undecided_opens ops x
told_opens ops x true (Some y) = refl
told_opens ops x false (Some y) = refl

opens-same : (ops : List Op) (o : Option Story) (closed : Bool) (y : Option Decision)
    → tx_is_open ops (tx_of o) (option_map (λ z. z.final) y) ≡ is_open (phase_by ops o closed y)
opens-same ops None closed y = refl
opens-same ops (Some x) closed y = go x.lost
  where
    go : (b : Bool)
        → (not b && (not (is_some (option_map (λ z. z.final) y)) && (not x.aborted && not (x.finished && not (is_update ops)))))
        ≡ is_open (if b then Lost else decided_phase ops x closed y)
    go true = refl
    go false = told_opens ops x closed y

open_leaves : (w : Option ℕ) (x : Option Story) → 0 ≡ left_by (open_phase w) x
open_leaves None x = refl
open_leaves (Some j) x = refl

undecided_leaves : (ops : List Op) (x : Story)
    → told_leaves ops (told_of x) None ≡ left_by (undecided_phase ops x) (Some x)
undecided_leaves ops x = go x.aborted (x.finished && not (is_update ops))
  where
    go : (a f : Bool) → (if not a && f then snapshot_in (Some x) else 0)
        ≡ left_by (if a then Aborted else (if f then Answered else open_phase (waiting ops x.progress.values))) (Some x)
    go true f = refl
    go false true = refl
    go false false = open_leaves (waiting ops x.progress.values) (Some x)

told-leaves : (ops : List Op) (x : Story) (closed : Bool) (o : Option Decision)
    → told_leaves ops (told_of x) (option_map (λ y. y.final) o) ≡ left_by (decided_phase ops x closed o) (Some x)
told-leaves ops x closed None = undecided_leaves ops x
told-leaves ops x true (Some y) = refl
told-leaves ops x false (Some y) = refl

leaves-same : (ops : List Op) (o : Option Story) (closed : Bool) (y : Option Decision)
    → tx_leaves ops (tx_of o) (option_map (λ z. z.final) y) ≡ left_by (phase_by ops o closed y) o
leaves-same ops None closed y = refl
leaves-same ops (Some x) closed y = go x.lost
  where
    go : (b : Bool) → (if b then 0 else told_leaves ops (told_of x) (option_map (λ z. z.final) y))
        ≡ left_by (if b then Lost else decided_phase ops x closed y) (Some x)
    go true = refl
    go false = told-leaves ops x closed y

-- ---- the transactions of a run

begun-told : (o : Option Story) → is_some (tx_of o) ≡ is_some o
begun-told None = refl
begun-told (Some x) = refl

open-told : (d : DocumentData) (past : List Act) → AllDue d past → (s : ScriptData)
    → open_in (tally d past) s ≡ is_open (phase_on (state_of d past) s)
open-told d past due s =
    rw (txs-told d past s.number, final-told d past due s.number s.home)
    (opens-same s.ops (story d past s.number) (is_closed s.number (journal d past s.home))
    (later_decision (skipped_in (story d past s.number)) s.number (journal d past s.home)))

leaves-told : (d : DocumentData) (past : List Act) → AllDue d past → (s : ScriptData)
    → leaves_in (tally d past) s ≡ left_on (state_of d past) s
leaves-told d past due s =
    rw (txs-told d past s.number, final-told d past due s.number s.home)
    (leaves-same s.ops (story d past s.number) (is_closed s.number (journal d past s.home))
    (later_decision (skipped_in (story d past s.number)) s.number (journal d past s.home)))

busy-told : (d : DocumentData) (past : List Act) → AllDue d past → (k : ℕ) (ss : List ScriptData)
    → busy_among (tally d past) k ss ≡ list_any (λ s. is_of k s && is_open (phase_on (state_of d past) s)) ss
busy-told d past due k [] = refl
busy-told d past due k (s ∷ ss) = rw (open-told d past due s, busy-told d past due k ss) refl

floor-told : (d : DocumentData) (past : List Act) → AllDue d past → (k : ℕ) (ss : List ScriptData)
    → floor_among (tally d past) k ss ≡ sessions.floor_among (state_of d past) k ss
floor-told d past due k [] = refl
floor-told d past due k (s ∷ ss) = rw (leaves-told d past due s, floor-told d past due k ss) refl

lost-told : (d : DocumentData) (past : List Act) → AllDue d past → (n : NodeId) (o : Option ScriptData)
    → lost_in (tally d past) n o ≡ lost_on (state_of d past) n o
lost-told d past due n None = refl
lost-told d past due n (Some s) = ap (λ b. if (s.home == n) && b then act.Lost s.number ∷ [] else []) (open-told d past due s)

losses-told : (d : DocumentData) (past : List Act) → AllDue d past → (n : NodeId) (ts : List TxId)
    → flat_map (λ t. lost_in (tally d past) n (script_of t d.scripts)) ts
    ≡ flat_map (λ t. lost_on (state_of d past) n (script_of t d.scripts)) ts
losses-told d past due n [] = refl
losses-told d past due n (t ∷ ts) = rw (lost-told d past due n (script_of t d.scripts), losses-told d past due n ts) refl

phases-told : (d : DocumentData) (past : List Act) → AllDue d past → TellsPhases d (tally d past) past
phases-told d past due = record {
  begun = λ t. ap is_some (txs-told d past t) ∙ begun-told (story d past t);
  open_is = open-told d past due;
  busy = λ k. busy-told d past due k d.scripts;
  floor = λ k. floor-told d past due k d.scripts;
  losses = λ n. losses-told d past due n (number_order (script_numbers d.scripts));
}

-- ---- the first acts of a run

pub phases-first : (d : DocumentData) (items : List Item) (acts later : List Act) → IsRun d items (acts ++ later)
    → TellsPhases d (tally_of d acts) (after [] acts)
phases-first d items acts later run =
    subst (λ x. TellsPhases d x (after [] acts)) (sym (tally-first d acts)) (phases-told d (after [] acts) (due-first d items acts later run))

pub phases-cut : (d : DocumentData) (e : ℕ) (acts later : List Act) → IsCutRun d e (acts ++ later)
    → TellsPhases d (tally_of d acts) (after [] acts)
phases-cut d e acts later run = phases-first d (cut e d).items acts later (run-uncut d e (acts ++ later) run)
