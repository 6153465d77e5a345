-- The events of a run, one by one: what is left true by each event holds at the end.
use Rattle.grid_laws.proofs.DueActs.{due-before}
use Rattle.grid_laws.proofs.UntakingActs.{untaking-starts}
use Rattle.grid_laws.proofs.Answered.{AllTold, untaking-all}
use Rattle.grid_laws.proofs.AnsweredRuns.{told-row}
use Rattle.grid_laws.proofs.Causes.{AllDue}
use Rattle.grid_laws.proofs.DeliveredFit.{delivered-fit}
use Rattle.grid_model.proofs.EventShapes.{after-append}
use Rattle.grid_laws.proofs.RunsDue.{due-run}
use Rattle.grid_model.proofs.EventShapes.{Shape, acts_by, row-shaped}
use Rattle.grid_model.specs.Acts.{EachBehind}
use Rattle.grid_model.specs.Documents.{DocumentData, IsOne}
use Rattle.grid_model.specs.Facts.{AllFit, GotIsFit}
use Rattle.grid_model.specs.Histories.{after}
use Rattle.grid_model.specs.Runs.{IsRun, Rows}
use Rattle.grid_model.specs.Schedules.{Choice, events_in, row, start_row}
use Rattle.grid_model.specs.Stories.{told}
use Rattle.grid_model.specs.declared.acts.Act.{Act}
use Rattle.grid_model.specs.declared.items.Item.{Item}
use Rattle.score_base.specs.declared.ids.NodeId.{NodeId}
use Rattle.std.proofs.Common.{Bool, List, [], refl, subst, sym, ◌∷◌, ◌≡◌}
use Rattle.std.specs.List.{flat_map, range_with_len}

-- these acts are those of an item behind this past: by what the disks choose, of one of the seven shapes
pub record IsEvent (d : DocumentData) (past acts : List Act) : Type 0 where
  pub item : Item
  pub choice : Choice
  pub shape : Shape d past item
  pub same : acts ≡ acts_by d past item choice shape

row-event : (d : DocumentData) (past : List Act) (e : Item) (c : Choice) → IsEvent d past (row d past e c)
row-event d past e c =
    let is = row-shaped d past e in record { item = e; choice = c; shape = is.shape; same = is.same c }

-- what holds of the acts of each shape holds of the acts of an event
pub of-event : (d : DocumentData) (past acts : List Act) (P : List Act → Type 0)
    → ((i : Item) (c : Choice) (s : Shape d past i) → P (acts_by d past i c s)) → IsEvent d past acts → P acts
of-event d past acts P each e = subst P (sym e.same) (each e.item e.choice e.shape)

-- ---- what each event leaves true

-- what is known of an event: each act so far was due, and each message that was got was fit
pub record Event (d : DocumentData) (past acts : List Act) : Type 0 where
  pub before : AllDue d past
  pub due : AllDue d (after past acts)
  pub fit : AllFit d (after past acts)
  pub told : AllTold d past
  pub answered : AllTold d (after past acts)
  pub is : IsEvent d past acts

-- what holds of each act of a past held of each act before
pub fit-before : (P : Act → List Act → Type 0) (past acts : List Act) → EachBehind P (after past acts)
    → EachBehind P past
fit-before P past [] h = h
fit-before P past (a ∷ acts) h = (fit-before P (a ∷ past) acts h).1

rows-hold : (d : DocumentData) (B : List Act → Type 0)
    → ((past acts : List Act) → Event d past acts → B past → B (after past acts))
    → (past : List Act) (es : List Item) (h : List Act) → AllDue d (after past h) → AllTold d past → B past
    → AllFit d (after past h) → Rows d past es h → B (after past h)
unfolding Rows
rows-hold d B step past [] h due told here fit rows = rw rows here
rows-hold d B step past (e ∷ es) h due told here fit rows =
    let acts : List Act = row d past e rows.0 in
    let P : List Act → Type 0 = λ p. AllFit d p in
    let F : List Act → Type 0 = λ x. AllFit d (after past x) in
    let all : AllFit d (after (after past acts) rows.1) = subst P (after-append past acts rows.1) (subst F rows.2 fit) in
    let D : List Act → Type 0 = λ p. AllDue d p in
    let G : List Act → Type 0 = λ x. AllDue d (after past x) in
    let every : AllDue d (after (after past acts) rows.1) = subst D (after-append past acts rows.1) (subst G rows.2 due) in
    let now : AllDue d (after past acts) = due-before d (after past acts) rows.1 every in
    let event : Event d past acts = record { before = due-before d past acts now; due = now; fit = fit-before (GotIsFit d) (after past acts) rows.1 all; told = told; answered = told-row d past e rows.0 told; is = row-event d past e rows.0 } in
    let more : B (after (after past acts) rows.1) = rows-hold d B step (after past acts) es rows.1 every (told-row d past e rows.0 told) (step past acts event here) all rows.3 in
    rw rows.2 (subst B (sym (after-append past acts rows.1)) more)

-- what holds behind each start, and is left true by each event
pub run-holds : (d : DocumentData) (B : List Act → Type 0)
    → ((ups : NodeId → Bool) → B (after [] (start_row d.cluster.nodes ups)))
    → ((past acts : List Act) → Event d past acts → B past → B (after past acts)) → (h : List Act) → IsOne d
    → IsRun d d.items h → B (after [] h)
run-holds d B start step h one run =
    let first : List Act = start_row d.cluster.nodes run.opens in
    let told : AllTold d (after [] first) = untaking-all d [] first (untaking-starts run.opens (range_with_len 1 d.cluster.nodes)) (λ t s e. refl) in
    let P : List Act → Type 0 = λ p. AllFit d p in
    let F : List Act → Type 0 = λ x. AllFit d (after [] x) in
    let D : List Act → Type 0 = λ p. AllDue d p in
    let G : List Act → Type 0 = λ x. AllDue d (after [] x) in
    let due : AllDue d (after (after [] first) run.rest) = subst D (after-append [] first run.rest) (subst G run.start (due-run d d.items h run)) in
    let fit : AllFit d (after (after [] first) run.rest) = subst P (after-append [] first run.rest) (subst F run.start (delivered-fit d h one run)) in
    let more : B (after (after [] first) run.rest) = rows-hold d B step (after [] first) (flat_map events_in d.items) run.rest due told (start run.opens) fit run.rows in
    rw run.start (subst B (sym (after-append [] first run.rest)) more)
