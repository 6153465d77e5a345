-- How many proposals a run has: at most one for each event.
use Rattle.std.proofs.Common.{◌≡◌, ◌+◌, ◌≤◌, Bool, true, false, List, [], ◌∷◌, ◌++◌, length, refl, arith}
use Rattle.std.specs.Prelude.{if◌then◌else◌, sum_by}
use Rattle.std.specs.List.{flat_map, range_with_len}
use Rattle.std.proofs.lemmas.List.{length-append, length-replicate}
use Rattle.std.proofs.lemmas.List.Sums.{sum_by-cons}
use Rattle.score_base.specs.declared.ids.TxId.{TxId}
use Rattle.score_base.specs.declared.ids.NodeId.{NodeId}
use Rattle.grid_model.specs.declared.acts.Act.{Act}
use Rattle.grid_model.specs.declared.acts.Act.TheVariants as act
use Rattle.grid_model.specs.declared.acts.Flag.{Flag}
use Rattle.grid_model.specs.declared.events.Out.{Out}
use Rattle.grid_model.specs.declared.items.Item.{Item}
use Rattle.grid_model.specs.declared.items.Item.TheVariants as item
use Rattle.grid_model.specs.Sessions.{floor_at}
use Rattle.grid_model.specs.Documents.{DocumentData, events_of, number_order, script_numbers}
use Rattle.grid_model.specs.Histories.{after}
use Rattle.grid_model.specs.Nodes.{node}
use Rattle.grid_model.specs.Views.{view, participant}
use Rattle.grid_model.specs.Rows.{answer, begin_outs}
use Rattle.grid_model.specs.Disks.{is_compacting}
use Rattle.grid_model.specs.Schedules.{Choice, acts_of, events_in, flag_at, next_number, opened_row, row, start_row}
use Rattle.grid_model.specs.Runs.{Rows, IsRun}
use Rattle.grid_model.proofs.EventShapes.{Shape, idle, arms, crashes, restarts, begins, delivers, again, acts_by, by-shape}
use Rattle.grid_laws.proofs.ActsLow.{weight, proposals}
use Rattle.grid_laws.proofs.OutProposals.{outs_weight, weight-acts, none-again, none-idle, none-losses, none-starts, none-begin, from-none, one-answer}

-- ---- an event proposes at most once

one-acts : (past : List Act) (c : Choice) (n : NodeId) (os : List Out) → outs_weight os ≤ 1
    → proposals (acts_of past c n os) ≤ 1
one-acts past c n os h = omega (arith, weight-acts (next_number past) n c.keeps os, h)

proposals-append : (xs ys : List Act) → proposals (xs ++ ys) ≡ proposals xs + proposals ys
proposals-append [] ys = omega arith
proposals-append (x ∷ xs) ys = omega (arith, proposals-append xs ys)

one-opened_row : (d : DocumentData) (past : List Act) (n : NodeId) (f : Flag) → proposals (opened_row d past n f) ≤ 1
one-opened_row d past n f =
    let ts : List TxId = number_order (script_numbers d.scripts) in
    omega (arith, none-losses d (act.Up n f ∷ past) n ts)

one-restart : (d : DocumentData) (past : List Act) (n : NodeId) (f : Flag) (opens : Bool)
    → proposals (if opens then opened_row d past n f else act.StillDown n ∷ []) ≤ 1
one-restart d past n f true = one-opened_row d past n f
one-restart d past n f false = omega arith

one-behind : (a : Act) (xs : List Act) → weight a ≡ 0 → proposals xs ≤ 1 → proposals (a ∷ xs) ≤ 1
one-behind a xs h k = omega (arith, h, k)

one-shape : (d : DocumentData) (past : List Act) (i : Item) (c : Choice) (s : Shape d past i)
    → proposals (acts_by d past i c s) ≤ 1
one-shape d past i c (idle acts is) = omega (arith, none-idle acts is)
one-shape d past i c (arms n k how is) = omega arith
one-shape d past i c (crashes n up) = omega arith
one-shape d past i c (restarts n up) =
    one-restart d past n (flag_at (is_compacting past n) (node d past n).doubt c.finds) c.opens
one-shape d past i c (begins s is new up quiet) =
    let os : List Out = begin_outs s.home (participant (view d past s.home)) s (floor_at d past s) in
    one-acts past c s.home os (from-none os (none-begin s.home (view d past s.home) s (floor_at d past s)))
one-shape d past i c (delivers m e is up) =
    let os : List Out = answer e.to (view d past e.to) e.from e.message in
    one-behind (act.Got m) (acts_of past c e.to os) refl (one-acts past c e.to os (one-answer e.to (view d past e.to) e.from e.message))
one-shape d past i c (again n os up is) = one-acts past c n os (from-none os (none-again d past n os is))

-- an event proposes at most once
pub one-row : (d : DocumentData) (past : List Act) (e : Item) (c : Choice) → proposals (row d past e c) ≤ 1
one-row d past e c = by-shape d past e c (λ acts. proposals acts ≤ 1) (one-shape d past e c)

-- ---- a run proposes at most once for each event

one-each : (d : DocumentData) (past : List Act) (es : List Item) (h : List Act) → Rows d past es h
    → proposals h ≤ length es
unfolding Rows
one-each d past [] h rows = rw rows (omega arith)
one-each d past (e ∷ es) h rows =
    let acts : List Act = row d past e rows.0 in
    let more : proposals rows.1 ≤ length es = one-each d (after past acts) es rows.1 rows.3 in
    rw rows.2 (omega (arith, proposals-append acts rows.1, one-row d past e rows.0, more))

proposals-after : (past h : List Act) → proposals (after past h) ≡ proposals h + proposals past
proposals-after past [] = omega arith
proposals-after past (a ∷ h) = omega (arith, proposals-after (a ∷ past) h)

-- how many events an item is
pub length-events_in : (i : Item) → length (events_in i) ≡ events_of i
length-events_in (item.Next c) = length-replicate c (item.Next 1)
length-events_in i = refl

-- the events of the items are as many as their count says
pub length-events : (items : List Item) → length (flat_map events_in items) ≡ sum_by events_of items
length-events [] = refl
length-events (i ∷ items) = omega (arith, length-append (events_in i) (flat_map events_in items), length-events_in i, length-events items, sum_by-cons events_of i items)

-- a run proposes at most once for each event
pub few-proposals : (d : DocumentData) (items : List Item) (h : List Act) → IsRun d items h
    → proposals (after [] h) ≤ sum_by events_of items
few-proposals d items h run =
    let first : List Act = start_row d.cluster.nodes run.opens in
    let rest : proposals run.rest ≤ length (flat_map events_in items) = one-each d (after [] first) (flat_map events_in items) run.rest run.rows in
    let whole : proposals h ≡ proposals first + proposals run.rest = rw run.start (proposals-append first run.rest) in
    omega (arith, rest, whole, none-starts run.opens (range_with_len 1 d.cluster.nodes), length-events items, proposals-after [] h)
