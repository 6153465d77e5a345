-- Few messages are sent and few reads are held behind the first events of a run.
use Rattle.std.proofs.Common.{◌≡◌, ℕ, zero, suc, ◌+◌, ◌≤◌, Bool, true, false, List, [], ◌∷◌, length, map, refl, arith, if◌then◌else◌}
use Rattle.std.specs.Prelude.{take}
use Rattle.std.specs.List.{flat_map, range_with_len}
use Rattle.grid_model.specs.declared.acts.Act.{Act}
use Rattle.grid_model.specs.declared.acts.Act.TheVariants as act
use Rattle.grid_model.specs.declared.acts.Flag.TheVariants as flag
use Rattle.grid_model.specs.declared.items.Item.{Item}
use Rattle.grid_model.specs.Cuts.{cut, events, IsCutRun}
use Rattle.grid_model.specs.Documents.{DocumentData}
use Rattle.grid_model.specs.Histories.{after}
use Rattle.grid_model.specs.Runs.{Rows}
use Rattle.grid_model.specs.Schedules.{row, start_row, start_act, events_in}
use Rattle.grid_model.proofs.EventShapes.{after-append}
use Rattle.grid_laws.proofs.CutRuns.{cut-events}
use Rattle.count_laws.specs.Few.{IsFew}
use Rattle.count_laws.proofs.Posts.{posts, holdings, sent-after, held-after}
use Rattle.count_laws.proofs.Events.{few-row}

-- ---- the start

posts-opened : (b : Bool) (n : ℕ) (acts : List Act) → posts acts ≡ 0
    → posts ((if b then act.Up n flag.Untouched else act.StillDown n) ∷ acts) ≡ 0
posts-opened true n acts rest = rest
posts-opened false n acts rest = rest

posts-start : (opens : ℕ → Bool) (ns : List ℕ) → posts (map (start_act opens) ns) ≡ 0
posts-start opens [] = refl
posts-start opens (n ∷ ns) = posts-opened (opens n) n (map (start_act opens) ns) (posts-start opens ns)

holdings-opened : (b : Bool) (n : ℕ) (acts : List Act) → holdings acts ≡ 0
    → holdings ((if b then act.Up n flag.Untouched else act.StillDown n) ∷ acts) ≡ 0
holdings-opened true n acts rest = rest
holdings-opened false n acts rest = rest

holdings-start : (opens : ℕ → Bool) (ns : List ℕ) → holdings (map (start_act opens) ns) ≡ 0
holdings-start opens [] = refl
holdings-start opens (n ∷ ns) = holdings-opened (opens n) n (map (start_act opens) ns) (holdings-start opens ns)

-- nothing is sent and nothing is held at the start
few-start : (d : DocumentData) (opens : ℕ → Bool) → IsFew d (after [] (start_row d.cluster.nodes opens)) 0
few-start d opens =
    let ns : List ℕ = range_with_len 1 d.cluster.nodes in
    let start : List Act = start_row d.cluster.nodes opens in
    record {
      sent_few = omega (arith, sent-after [] start, posts-start opens ns);
      held_few = λ n. omega (arith, held-after d [] start n, holdings-start opens ns);
    }

-- ---- the events

-- few more behind more events
few-more : (d : DocumentData) (past : List Act) (k j : ℕ) → k ≤ j → IsFew d past k → IsFew d past j
few-more d past k j h f = record {
  sent_few = omega (arith, f.sent_few, h);
  held_few = λ n. omega (arith, f.held_few n, h);
}

few-rows : (d : DocumentData) (past : List Act) (k : ℕ) (es : List Item) (h : List Act) → k + length es ≤ 50000
    → IsFew d past k → Rows d past es h → IsFew d (after past h) (k + length es)
unfolding Rows
few-rows d past k [] h room f rows = rw rows (few-more d past k (k + 0) (omega arith) f)
few-rows d past k (e ∷ es) h room f (c, rest, is, rows) =
    let here : List Act = row d past e c in
    let behind : IsFew d (after (after past here) rest) (k + 1 + length es) =
    few-rows d (after past here) (k + 1) es rest (omega (arith, room)) (few-row d past k e c (omega (arith, room)) f) rows in
    rw (is, after-append past here rest) (few-more d (after (after past here) rest) (k + 1 + length es) (k + length (e ∷ es)) (omega arith) behind)

take-few : (e : ℕ) (xs : List Item) → length (take e xs) ≤ e
take-few zero xs = omega arith
take-few (suc e) [] = omega arith
take-few (suc e) (x ∷ xs) = omega (arith, take-few e xs)

-- behind the first e events of a run
pub run-few : (d : DocumentData) (e : ℕ) (h : List Act) → e ≤ 50000 → IsCutRun d e h → IsFew d (after [] h) e
run-few d e h room run =
    let start : List Act = start_row d.cluster.nodes run.opens in
    let es : List Item = flat_map events_in (cut e d).items in
    let short : length es ≤ e = rw (cut-events d e) (take-few e (events d)) in
    let c : IsFew (cut e d) (after (after [] start) run.rest) (0 + length es) =
    few-rows (cut e d) (after [] start) 0 es run.rest (omega (arith, short, room)) (few-start (cut e d) run.opens) run.rows in
    let few : IsFew (cut e d) (after [] h) e = rw (run.start, after-append [] start run.rest)
    (few-more (cut e d) (after (after [] start) run.rest) (0 + length es) e (omega (arith, short)) c) in
    record { sent_few = few.sent_few; held_few = few.held_few }
