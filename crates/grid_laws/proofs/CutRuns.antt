-- A document that is cut behind an event is one, and its runs are the fronts of the document's. No word over a
-- past reads the schedule, so the rows of the cut document are those of the document by computing alone.
use Rattle.std.proofs.Common.{◌≡◌, ◌≢◌, ◌≤◌, ℕ, ◌+◌, zero, suc, Bool, true, ◌&&◌, not, IsTrue, List, [], ◌∷◌, ◌++◌, take, drop, length, replicate, refl, sym, ap, subst, ◌∙◌, arith, append_assoc, nat_le}
use Rattle.std.specs.Prelude.{sum_by}
use Rattle.std.specs.List.{flat_map, list_all}
use Rattle.std.proofs.lemmas.Bool.{and_parts, and_from}
use Rattle.std.proofs.lemmas.List.{append-nil, length-append, length-replicate, length-take, take_all, take-append-drop}
use Rattle.std.proofs.lemmas.List.Folds.{list_all-append}
use Rattle.std.proofs.lemmas.List.Sums.{sum_by-cons}
use Rattle.score_base.specs.declared.ids.TxId.{TxId}
use Rattle.score_base.specs.declared.ids.NodeId.{NodeId}
use Rattle.grid_model.specs.declared.acts.Act.{Act}
use Rattle.grid_model.specs.declared.items.Item.{Item}
use Rattle.grid_model.specs.declared.items.Item.TheVariants as item
use Rattle.grid_model.specs.Documents.{DocumentData, IsDocument, IsOne, events_of, is_item, script_numbers}
use Rattle.grid_model.specs.Histories.{after}
use Rattle.grid_model.specs.Schedules.{Choice, row, start_row, events_in}
use Rattle.grid_model.specs.Runs.{Rows, IsRun, Lawful, Explains, is_let, are_let, is_stop, is_by_fuse, as_number, stops, faults}
use Rattle.grid_model.proofs.EventShapes.{after-append}
use Rattle.grid_model.proofs.Unarmed.{faults-stops}
use Rattle.grid_model.specs.Cuts.{events, cut, IsCutRun, IsCutFront, AreRowsOf}

-- ---- the events of events

-- each of these items is one event, and it is that event
abbrev AreEvents : List Item → Type 0
AreEvents [] = Unit {0}
AreEvents (i ∷ is) = (events_in i ≡ i ∷ []) × AreEvents is

events-next : (c : ℕ) → AreEvents (replicate c (item.Next 1))
events-next zero = tt
events-next (suc c) = (refl, events-next c)

events-one : (i : Item) → AreEvents (events_in i)
events-one (item.Next c) = events-next c
events-one i = (refl, tt)

events-append : (xs ys : List Item) → AreEvents xs → AreEvents ys → AreEvents (xs ++ ys)
events-append [] ys p q = q
events-append (x ∷ xs) ys p q = (p.0, events-append xs ys p.1 q)

events-all : (is : List Item) → AreEvents (flat_map events_in is)
events-all [] = tt
events-all (i ∷ is) = events-append (events_in i) (flat_map events_in is) (events-one i) (events-all is)

events-take : (e : ℕ) (xs : List Item) → AreEvents xs → AreEvents (take e xs)
events-take zero xs p = tt
events-take (suc e) [] p = tt
events-take (suc e) (x ∷ xs) p = (p.0, events-take e xs p.1)

spread : (xs : List Item) → AreEvents xs → flat_map events_in xs ≡ xs
spread [] p = refl
spread (x ∷ xs) p = rw (p.0, spread xs p.1) refl

-- the events of the cut document are the first e events
pub cut-events : (d : DocumentData) (e : ℕ) → events (cut e d) ≡ take e (events d)
cut-events d e = spread (take e (events d)) (events-take e (events d) (events-all d.items))

-- ---- the cut document is one

ranged-next : (nodes : ℕ) (ts : List TxId) (c : ℕ) → list_all (is_item nodes ts) (replicate c (item.Next 1)) ≡ true
ranged-next nodes ts zero = refl
ranged-next nodes ts (suc c) = ranged-next nodes ts c

ranged-one : (nodes : ℕ) (ts : List TxId) (i : Item) → is_item nodes ts i ≡ true →
    list_all (is_item nodes ts) (events_in i) ≡ true
ranged-one nodes ts (item.Next c) h = ranged-next nodes ts c
ranged-one nodes ts i h = and_from (is_item nodes ts i) true h refl

ranged-all : (nodes : ℕ) (ts : List TxId) (is : List Item) → list_all (is_item nodes ts) is ≡ true →
    list_all (is_item nodes ts) (flat_map events_in is) ≡ true
ranged-all nodes ts [] h = refl
ranged-all nodes ts (i ∷ is) h =
    let both = and_parts (is_item nodes ts i) (list_all (is_item nodes ts) is) h in
    list_all-append (is_item nodes ts) (events_in i) (flat_map events_in is)
    ∙ and_from (list_all (is_item nodes ts) (events_in i)) (list_all (is_item nodes ts) (flat_map events_in is))
    (ranged-one nodes ts i both.0) (ranged-all nodes ts is both.1)

all-take : (p : Item → Bool) (e : ℕ) (xs : List Item) → list_all p xs ≡ true → list_all p (take e xs) ≡ true
all-take p zero xs h = refl
all-take p (suc e) [] h = refl
all-take p (suc e) (x ∷ xs) h =
    let both = and_parts (p x) (list_all p xs) h in
    and_from (p x) (list_all p (take e xs)) both.0 (all-take p e xs both.1)

length-one : (i : Item) → length (events_in i) ≡ events_of i
length-one (item.Next c) = length-replicate c (item.Next 1)
length-one i = refl

-- a schedule has as many events as its items together
pub count-events : (is : List Item) → sum_by events_of is ≡ length (flat_map events_in is)
count-events [] = refl
count-events (i ∷ is) = sum_by-cons events_of i is ∙ rw (length-append, length-one i, count-events is) refl

fewer : (e : ℕ) (xs : List Item) → length (take e xs) ≤ length xs
fewer e xs = rw (length-take e xs) (omega arith)

cut-count : (d : DocumentData) (e : ℕ) → sum_by events_of (cut e d).items ≤ sum_by events_of d.items
cut-count d e = rw (count-events (cut e d).items, cut-events d e, count-events d.items) (fewer e (events d))

pub cut-one : (d : DocumentData) (e : ℕ) → IsOne d → IsOne (cut e d)
cut-one d e one =
    let is : IsDocument d = one.document in
    let range = is_item d.cluster.nodes (script_numbers d.scripts) in
    record {
      document = record {
        cluster = is.cluster;
        count = is.count;
        numbers = is.numbers;
        homes = is.homes;
        keys = is.keys;
        items = all-take range e (events d) (ranged-all d.cluster.nodes (script_numbers d.scripts) d.items is.items);
        events = omega (arith, cut-count d e, is.events);
      };
      bodies = one.bodies;
      nodes = one.nodes;
    }

-- ---- rows, in two parts

-- the rows of some events in two parts: of the first e of them, and of the others
record InTwo (d : DocumentData) (past : List Act) (e : ℕ) (es : List Item) (h : List Act) : Type 0 where
  first : List Act
  later : List Act
  whole : h ≡ first ++ later
  begun : Rows d past (take e es) first
  rows : Rows d (after past first) (drop e es) later

rows-in_two : (d : DocumentData) (past : List Act) (e : ℕ) (es : List Item) (h : List Act) → Rows d past es h →
    InTwo d past e es h
unfolding Rows
rows-in_two d past zero es h is = record { first = []; later = h; whole = refl; begun = refl; rows = is }
rows-in_two d past (suc e) [] h is = record { first = []; later = h; whole = refl; begun = refl; rows = is }
rows-in_two d past (suc e) (x ∷ es) h (c, rest, same, more) =
    let parts : InTwo d (after past (row d past x c)) e es rest =
    rows-in_two d (after past (row d past x c)) e es rest more in
    record {
      first = row d past x c ++ parts.first;
      later = parts.later;
      whole = same ∙ ap (λ z. row d past x c ++ z) parts.whole
          ∙ sym (append_assoc (row d past x c) parts.first parts.later);
      begun = (c, parts.first, refl, parts.begun);
      rows = rw (after-append past (row d past x c) parts.first) parts.rows;
    }

rows-append : (d : DocumentData) (past : List Act) (xs ys : List Item) (h h' : List Act) → Rows d past xs h →
    Rows d (after past h) ys h' → Rows d past (xs ++ ys) (h ++ h')
unfolding Rows
rows-append d past [] ys h h' is more = rw is (subst (λ z. Rows d (after past z) ys h') is more)
rows-append d past (x ∷ xs) ys h h' (c, rest, same, rows) more =
    let p : List Act = after past (row d past x c) in
    let behind : Rows d (after p rest) ys h' =
    subst (λ z. Rows d z ys h') (after-append past (row d past x c) rest)
    (subst (λ z. Rows d (after past z) ys h') same more) in (
      c,
      rest ++ h',
      ap (λ z. z ++ h') same ∙ append_assoc
          (row d past x c) rest h',
      rows-append d p xs ys rest h' rows behind,
    )

rows-one : (d : DocumentData) (past : List Act) (x : Item) (c : Choice) → Rows d past (x ∷ []) (row d past x c)
unfolding Rows
rows-one d past x c = (c, [], sym (append-nil (row d past x c)), refl)

-- the document's rows are those of the cut document
rows-cut : (d : DocumentData) (k : ℕ) (past : List Act) (es : List Item) (h : List Act) → Rows d past es h →
    Rows (cut k d) past es h
unfolding Rows
rows-cut d k past es h is = is

rows-uncut : (d : DocumentData) (k : ℕ) (past : List Act) (es : List Item) (h : List Act) →
    Rows (cut k d) past es h → Rows d past es h
unfolding Rows
rows-uncut d k past es h is = is

-- ---- a run, cut

-- a run of the document with these items, in the words of the cut document
cut-run : (d : DocumentData) (e : ℕ) (opens : NodeId → Bool) (h rest : List Act) →
    h ≡ start_row d.cluster.nodes opens ++ rest →
    Rows d (after [] (start_row d.cluster.nodes opens)) (take e (events d)) rest → IsCutRun d e h
cut-run d e opens h rest start rows = record {
  opens = opens;
  rest = rest;
  start = start;
  rows = rows-cut d e (after [] (start_row d.cluster.nodes opens)) (flat_map events_in (cut e d).items) rest
      (rw (cut-events d e) rows);
}

-- the rows of a run of the cut document are those of the first e events
cut-rows : (d : DocumentData) (e : ℕ) (h : List Act) (r : IsCutRun d e h) →
    Rows d (after [] (start_row d.cluster.nodes r.opens)) (take e (events d)) r.rest
cut-rows d e h r = subst (λ es. Rows d (after [] (start_row d.cluster.nodes r.opens)) es r.rest) (cut-events d e)
    (rows-uncut d e (after [] (start_row d.cluster.nodes r.opens)) (flat_map events_in (cut e d).items) r.rest r.rows)

-- the start row alone is a run of the document cut behind no event
pub cut-start : (d : DocumentData) (opens : NodeId → Bool) → IsCutRun d 0 (start_row d.cluster.nodes opens)
unfolding Rows
cut-start d opens = cut-run d 0 opens (start_row d.cluster.nodes opens) []
    (sym (append-nil (start_row d.cluster.nodes opens))) refl

take-next : (e : ℕ) (xs : List Item) (x : Item) (more : List Item) → drop e xs ≡ x ∷ more →
    take (suc e) xs ≡ take e xs ++ x ∷ []
take-next zero [] x more at = grind arith
take-next zero (y ∷ xs) x more at = grind arith
take-next (suc e) [] x more at = grind arith
take-next (suc e) (y ∷ xs) x more at = ap (λ z. y ∷ z) (take-next e xs x more at)

one-more : (e : ℕ) → suc e ≡ e + 1
one-more e = omega arith

-- one event more: its row goes behind a run of the document cut before it
pub cut-more : (d : DocumentData) (e : ℕ) (h : List Act) (x : Item) (more : List Item) (c : Choice) →
    IsCutRun d e h → drop e (events d) ≡ x ∷ more → IsCutRun d (e + 1) (h ++ row d (after [] h) x c)
cut-more d e h x more c r at =
    let start : List Act = start_row d.cluster.nodes r.opens in
    let now : after [] h ≡ after (after [] start) r.rest = ap (after []) r.start ∙ after-append [] start r.rest in
    let one : Rows d (after (after [] start) r.rest) (x ∷ []) (row d (after [] h) x c) =
    subst (λ p. Rows d p (x ∷ []) (row d (after [] h) x c)) now (rows-one d (after [] h) x c) in
    let rows : Rows d (after [] start) (take e (events d) ++ x ∷ []) (r.rest ++ row d (after [] h) x c) =
    rows-append d (after [] start) (take e (events d)) (x ∷ []) r.rest (row d (after [] h) x c)
    (cut-rows d e h r) one in
    let first : take (e + 1) (events d) ≡ take e (events d) ++ x ∷ [] =
    subst (λ k. take k (events d) ≡ take e (events d) ++ x ∷ []) (one-more e) (take-next e (events d) x more at) in
    cut-run d (e + 1) r.opens (h ++ row d (after [] h) x c) (r.rest ++ row d (after [] h) x c)
    (ap (λ z. z ++ row d (after [] h) x c) r.start ∙ append_assoc start r.rest (row d (after [] h) x c))
    (rw first rows)

-- each run begins with a run of the document cut behind e events
pub run-front : (d : DocumentData) (e : ℕ) (h : List Act) → IsRun d d.items h →
    (acts : List Act) × IsCutFront d e acts h
run-front d e h r =
    let start : List Act = start_row d.cluster.nodes r.opens in
    let parts : InTwo d (after [] start) e (events d) r.rest =
    rows-in_two d (after [] start) e (events d) r.rest r.rows in
    let acts : List Act = start ++ parts.first in (
      acts,
      record {
        run = cut-run d e r.opens acts parts.first refl parts.begun;
        later = parts.later;
        whole = r.start ∙ ap (λ z. start ++ z) parts.whole ∙ sym (append_assoc start parts.first parts.later);
        rows = rw (after-append [] start parts.first) parts.rows;
      },
    )

-- a document cut behind its last event has the runs of the document
pub cut-whole : (d : DocumentData) (e : ℕ) (h : List Act) → sum_by events_of d.items ≤ e → IsCutRun d e h →
    IsRun d d.items h
cut-whole d e h last r =
    let all : take e (events d) ≡ events d = take_all e (events d) (rw (← count-events d.items) last) in
    record {
      opens = r.opens;
      rest = r.rest;
      start = r.start;
      rows = subst
          (λ es. Rows d (after [] (start_row d.cluster.nodes r.opens)) es r.rest) all (cut-rows d e h r);
    }

pub whole-cut : (d : DocumentData) (e : ℕ) (h : List Act) → sum_by events_of d.items ≤ e → IsRun d d.items h →
    IsCutRun d e h
whole-cut d e h last r =
    let all : take e (events d) ≡ events d = take_all e (events d) (rw (← count-events d.items) last) in
    cut-run d e r.opens h r.rest r.start (rw all r.rows)

-- ---- a lawful run, cut

let-front : (d : DocumentData) (past acts : List Act) (n : NodeId) → are_let d (after past acts) n ≡ true →
    are_let d past n ≡ true
let-front d past [] n h = h
let-front d past (a ∷ acts) n h = (and_parts (is_let d past a n) (are_let d past n) (let-front d (a ∷ past) acts n h)).1

faults-front : (d : DocumentData) (past acts : List Act) (n : NodeId) → faults d past n ≤ faults d (after past acts) n
faults-front d past [] n = omega arith
faults-front d past (a ∷ acts) n = omega (arith, faults-front d (a ∷ past) acts n)

-- the fuses allow the first acts of what they allow, and the stops among these are explained by any count
-- that explains them
pub lawful-front : (d : DocumentData) (e : ℕ) (acts h : List Act) (rise now : NodeId → ℕ) → Lawful d h rise →
    IsCutFront d e acts h → ((n : NodeId) → Explains (cut e d) (after [] acts) n (now n)) → Lawful (cut e d) acts now
lawful-front d e acts h rise now l f explained = record {
  run = f.run;
  fuses = λ n. let-front d (after [] acts) f.later n
      (subst (λ p. are_let d p n ≡ true) (ap (after []) f.whole ∙ after-append [] acts f.later) (l.fuses n));
  stops = explained;
}

-- the faults of the first acts explain their stops, and are no more than those of all
pub faults-explain : (d : DocumentData) (past : List Act) (n : NodeId) → Explains d past n (faults d past n)
faults-explain d past n = record {
  most = omega arith;
  some = λ risen none. risen
      (omega (arith, faults-stops d past n, none));
}

pub faults-no_more : (d : DocumentData) (e : ℕ) (acts h : List Act) (rise : NodeId → ℕ) → Lawful d h rise →
    IsCutFront d e acts h → (n : NodeId) → faults d (after [] acts) n ≤ rise n
faults-no_more d e acts h rise l f n =
    let all : faults d (after [] acts) n ≤ faults d (after [] h) n =
    rw (f.whole, after-append [] acts f.later) (faults-front d (after [] acts) f.later n) in
    omega (arith, all, (l.stops n).most)

-- the same by those counts
pub lawful-least : (d : DocumentData) (e : ℕ) (acts h : List Act) (rise : NodeId → ℕ) → Lawful d h rise →
    IsCutFront d e acts h → Lawful (cut e d) acts (faults d (after [] acts)) ×
    ((n : NodeId) → faults d (after [] acts) n ≤ rise n)
lawful-least d e acts h rise l f = (lawful-front d e acts h rise (faults d (after [] acts)) l f (faults-explain (cut e d) (after [] acts)), faults-no_more d e acts h rise l f)

-- where no disk failed, none failed up to the cut
pub lawful-faultless : (d : DocumentData) (e : ℕ) (acts h : List Act) → Lawful d h (λ n. 0) → IsCutFront d e acts h →
    Lawful (cut e d) acts (λ n. 0)
lawful-faultless d e acts h l f = lawful-front d e acts h (λ n. 0) (λ n. 0) l f
    (λ n. record { most = faults-no_more d e acts h (λ m. 0) l f n; some = λ risen. absurd (risen refl) })

-- behind the last event lawful of the one is lawful of the other
pub lawful-whole : (d : DocumentData) (e : ℕ) (h : List Act) (rise : NodeId → ℕ) → sum_by events_of d.items ≤ e →
    Lawful (cut e d) h rise → Lawful d h rise
lawful-whole d e h rise last l = record {
  run = cut-whole d e h last l.run;
  fuses = l.fuses;
  stops = λ n. record { most = (l.stops n).most; some = (l.stops n).some };
}

-- ---- each run of the cut document goes on

rows-of : (d : DocumentData) (past : List Act) (es : List Item) → (h : List Act) × Rows d past es h
unfolding Rows
rows-of d past [] = ([], refl)
rows-of d past (x ∷ es) =
    let c : Choice = record { keeps = true; opens = true; finds = true } in
    let rest = rows-of d (after past (row d past x c)) es in
    (row d past x c ++ rest.0, (c, rest.0, refl, rest.1))

pub cut-front : (d : DocumentData) (e : ℕ) (acts : List Act) → IsCutRun d e acts →
    (h : List Act) × IsRun d d.items h × IsCutFront d e acts h
cut-front d e acts r =
    let start : List Act = start_row d.cluster.nodes r.opens in
    let later = rows-of d (after [] acts) (drop e (events d)) in
    let now : after [] acts ≡ after (after [] start) r.rest = ap (after []) r.start ∙ after-append [] start r.rest in
    let rows : Rows d (after [] start) (take e (events d) ++ drop e (events d)) (r.rest ++ later.0) =
    rows-append d (after [] start) (take e (events d)) (drop e (events d)) r.rest later.0 (cut-rows d e acts r)
    (subst (λ p. Rows d p (drop e (events d)) later.0) now later.1) in (
      acts ++ later.0,
      record {
        opens = r.opens;
        rest = r.rest ++ later.0;
        start = ap (λ z. z ++ later.0) r.start ∙ append_assoc start r.rest later.0;
        rows = subst (λ es. Rows d (after [] start) es (r.rest ++ later.0)) (take-append-drop e (events d)) rows;
      },
      record { run = r; later = later.0; whole = refl; rows = later.1 },
    )

-- ---- a run, row by row

-- the acts of some events as a list of rows
record RowList (d : DocumentData) (past : List Act) (es : List Item) (h : List Act) : Type 0 where
  list : List (List Act)
  joined : h ≡ flat_map (λ r. r) list
  count : length list ≡ length es
  fronts : (e : ℕ) → Rows d past (take e es) (flat_map (λ r. r) (take e list))

fronts-more : (d : DocumentData) (past : List Act) (x : Item) (c : Choice) (es : List Item) (rs : List (List Act)) →
    ((e : ℕ) → Rows d (after past (row d past x c)) (take e es) (flat_map (λ r. r) (take e rs))) → (e : ℕ) →
    Rows d past (take e (x ∷ es)) (flat_map (λ r. r) (take e (row d past x c ∷ rs)))
unfolding Rows
fronts-more d past x c es rs fronts zero = refl
fronts-more d past x c es rs fronts (suc e) = (c, flat_map (λ r. r) (take e rs), refl, fronts e)

fronts-none : (d : DocumentData) (past : List Act) (e : ℕ) → Rows d past (take e []) (flat_map (λ r. r) (take e []))
unfolding Rows
fronts-none d past zero = refl
fronts-none d past (suc e) = refl

row-list : (d : DocumentData) (past : List Act) (es : List Item) (h : List Act) → Rows d past es h → RowList d past es h
unfolding Rows
row-list d past [] h is = record { list = []; joined = is; count = refl; fronts = fronts-none d past }
row-list d past (x ∷ es) h (c, rest, same, more) =
    let r : RowList d (after past (row d past x c)) es rest = row-list d (after past (row d past x c)) es rest more in
    record {
      list = row d past x c ∷ r.list;
      joined = same ∙ ap (λ z. row d past x c ++ z) r.joined;
      count = omega (arith, r.count);
      fronts = fronts-more d past x c es r.list r.fronts;
    }

-- each run is the start row and a row for each event
pub run-rows : (d : DocumentData) (h : List Act) → IsRun d d.items h → (rows : List (List Act)) × AreRowsOf d h rows
run-rows d h r =
    let start : List Act = start_row d.cluster.nodes r.opens in
    let l : RowList d (after [] start) (events d) r.rest = row-list d (after [] start) (events d) r.rest r.rows in (
      start ∷ l.list,
      record {
        joined = r.start ∙ ap (λ z. start ++ z) l.joined;
        count = omega (arith, l.count);
        fronts = λ e. cut-run d e r.opens _ (flat_map (λ x. x) (take e l.list))
            (subst (λ k. flat_map (λ x. x) (take k (start ∷ l.list)) ≡ start ++ flat_map (λ x. x) (take e l.list))
            (one-more e) refl) (l.fronts e);
      },
    )
