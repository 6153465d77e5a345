-- Each outcome that a run tells goes from the home of its transaction to one of its parts.
use Rattle.cause_laws.proofs.Starts.{behind-start}
use Rattle.cause_laws.proofs.Ends.{sent-ends}
use Rattle.cause_laws.proofs.Events.{IsEvent, of-event, run-holds}
use Rattle.grid_model.proofs.EventShapes.{Shape, acts_by, again, arms, begins, crashes, delivers, idle, idle-pass, restarts}
use Rattle.grid_model.specs.declared.items.Item.{Item}
use Rattle.cause_laws.proofs.HomesTell.{well-again, well-answer}
use Rattle.grid_laws.proofs.RowOuts.{pass-losses}
use Rattle.cause_laws.proofs.OutsToEnds.{AreWell, is_middle, is_well_act, middle-numbered, well-advance, well-after, well-kept, well-numbered}
use Rattle.grid_laws.proofs.Causes.{AllDue}
use Rattle.grid_model.specs.Sessions.{floor_at, first_at}
use Rattle.grid_model.specs.Documents.{DocumentData, IsOne, number_order, script_numbers}
use Rattle.grid_model.specs.Histories.{after, sent, sent_at}
use Rattle.grid_model.specs.Nodes.{node}
use Rattle.grid_model.specs.Rows.{answer, begin_outs, begun_at}
use Rattle.grid_model.specs.Runs.{IsRun}
use Rattle.grid_model.specs.Disks.{is_compacting}
use Rattle.grid_model.specs.Schedules.{Choice, flag_at, kept, next_number, numbered, opened_row}
use Rattle.grid_model.specs.Views.{view, participant}
use Rattle.grid_model.specs.declared.acts.Act.TheVariants as act
use Rattle.grid_model.specs.declared.acts.Act.{Act}
use Rattle.grid_model.specs.declared.acts.Flag.{Flag}
use Rattle.grid_model.specs.declared.events.Out.{Out}
use Rattle.grid_model.specs.declared.messages.Envelope.{Envelope}
use Rattle.score_base.specs.declared.ids.NodeId.{NodeId}
use Rattle.std.proofs.Common.{Bool, List, Some, [], false, refl, true, ℕ, ◌∷◌, ◌≡◌}
use Rattle.std.specs.List.{list_all}
use Rattle.std.specs.Prelude.{if◌then◌else◌}

well-outs : (d : DocumentData) (m : ℕ) (n : NodeId) (b : Bool) (os : List Out) → AreWell d n os
    → list_all (is_well_act d) (numbered m n (kept b n os)) ≡ true
well-outs d m n b os h = well-numbered d m n (kept b n os) (well-kept d n b os h)

well-restart : (d : DocumentData) (past : List Act) (n : NodeId) (f : Flag) (opens : Bool)
    → list_all (is_well_act d) (if opens then opened_row d past n f else act.StillDown n ∷ []) ≡ true
well-restart d past n f true =
    pass-losses (is_well_act d) d (act.Up n f ∷ past) n (number_order (script_numbers d.scripts)) (λ t. refl)
well-restart d past n f false = refl

well-shape : (d : DocumentData) (past : List Act) → IsOne d → AllDue d past
    → (i : Item) (c : Choice) (s : Shape d past i)
    → list_all (is_well_act d) (acts_by d past i c s) ≡ true
well-shape d past one all i c (idle acts is) = idle-pass (is_well_act d) (λ code. refl) (λ m. refl) (λ m. refl) acts is
well-shape d past one all i c (arms n k how is) = refl
well-shape d past one all i c (crashes n up) = refl
well-shape d past one all i c (restarts n up) =
    well-restart d past n (flag_at (is_compacting past n) (node d past n).doubt c.finds) c.opens
well-shape d past one all i c (begins s is new up quiet) = well-outs d (next_number past) s.home c.keeps (begin_outs s.home (participant (view d past s.home)) s (floor_at d past s)) (well-advance d s.home (begun_at s (first_at d past s)) 0)
well-shape d past one all i c (delivers m e is up) = well-outs d (next_number past) e.to c.keeps (answer e.to (view d past e.to) e.from e.message) (well-answer d past e.to e.from e.message (sent-ends d past one all m e is))
well-shape d past one all i c (again n os up is) = well-outs d (next_number past) n c.keeps os (well-again d past n os all is)

-- ---- the kinds of events

-- a message that is got and the row behind it; an opening or its failure; or none of these
pub data IsKind (d : DocumentData) (past acts : List Act) : Type 0 where
  plain : list_all is_middle acts ≡ true → IsKind d past acts
  got_first : (m : ℕ) (e : Envelope) (b : Bool) (rest : List Act) → sent_at m (sent past) ≡ Some e
      → (node d past e.to).up ≡ true
      → rest ≡ numbered (next_number past) e.to (kept b e.to (answer e.to (view d past e.to) e.from e.message))
      → acts ≡ act.Got m ∷ rest → list_all is_middle rest ≡ true → IsKind d past acts
  opened : (n : NodeId) (f : Flag) → (node d past n).up ≡ false → acts ≡ opened_row d past n f → IsKind d past acts
  failed : (n : NodeId) → (node d past n).up ≡ false → acts ≡ act.StillDown n ∷ [] → IsKind d past acts

middle-outs : (d : DocumentData) (m : ℕ) (n : NodeId) (b : Bool) (os : List Out) → AreWell d n os
    → list_all is_middle (numbered m n (kept b n os)) ≡ true
middle-outs d m n b os h = middle-numbered d m n (kept b n os) (well-kept d n b os h)

kind-restart : (d : DocumentData) (past : List Act) (n : NodeId) (f : Flag) (opens : Bool) → (node d past n).up ≡ false
    → IsKind d past (if opens then opened_row d past n f else act.StillDown n ∷ [])
kind-restart d past n f true up = opened n f up refl
kind-restart d past n f false up = failed n up refl

shape-kind : (d : DocumentData) (past : List Act) → IsOne d → AllDue d past
    → (i : Item) (c : Choice) (s : Shape d past i)
    → IsKind d past (acts_by d past i c s)
shape-kind d past one all i c (idle acts is) = plain (idle-pass is_middle (λ code. refl) (λ m. refl) (λ m. refl) acts is)
shape-kind d past one all i c (arms n k how is) = plain refl
shape-kind d past one all i c (crashes n up) = plain refl
shape-kind d past one all i c (restarts n up) =
    kind-restart d past n (flag_at (is_compacting past n) (node d past n).doubt c.finds) c.opens up
shape-kind d past one all i c (begins s is new up quiet) = plain (middle-outs d (next_number past) s.home c.keeps (begin_outs s.home (participant (view d past s.home)) s (floor_at d past s)) (well-advance d s.home (begun_at s (first_at d past s)) 0))
shape-kind d past one all i c (delivers m e is up) = got_first m e c.keeps (numbered (next_number past) e.to (kept c.keeps e.to (answer e.to (view d past e.to) e.from e.message))) is up refl refl (middle-outs d (next_number past) e.to c.keeps (answer e.to (view d past e.to) e.from e.message) (well-answer d past e.to e.from e.message (sent-ends d past one all m e is)))
shape-kind d past one all i c (again n os up is) = plain (middle-outs d (next_number past) n c.keeps os (well-again d past n os all is))

pub event-kind : (d : DocumentData) (past acts : List Act) → IsOne d → AllDue d past → IsEvent d past acts
    → IsKind d past acts
event-kind d past acts one all event = of-event d past acts (IsKind d past) (shape-kind d past one all) event

-- each act of a run
pub run-well : (d : DocumentData) (h : List Act) → IsOne d → IsRun d d.items h
    → list_all (is_well_act d) (after [] h) ≡ true
run-well d h one run =
    run-holds d (λ past. list_all (is_well_act d) past ≡ true)
    (λ ups. behind-start (λ z. list_all (is_well_act d) z ≡ true) d ups (record { opens = λ past n h. h; fails = λ past n h. h }) refl)
    (λ past acts event all. well-after d past acts all (of-event d past acts (λ z. list_all (is_well_act d) z ≡ true) (well-shape d past one event.before) event.is))
    h one run
