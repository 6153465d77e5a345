-- Where no disk fails the acts of the rows are a run, and a lawful one where no fuse is set; and a document whose
-- schedule sets no fuse has no other lawful run without a fault.
use Rattle.std.proofs.Common.{◌≡◌, ℕ, ◌+◌, ◌≤◌, ◌&&◌, ◌==◌, not, Bool, true, false, List, [], ◌∷◌, ◌++◌, refl, sym, ap, ◌∙◌, subst, Option, Some, None, arith, if◌then◌else◌, map, replicate, zero, suc, inl, inr}
use Rattle.std.specs.List.{flat_map, list_all, range_with_len}
use Rattle.std.proofs.lemmas.Bool.{cases_Bool, and_parts, and_from, or_right}
use Rattle.std.proofs.lemmas.Bool.Decides.{nat_tests}
use Rattle.score_base.specs.declared.ids.NodeId.{NodeId}
use Rattle.score_base.specs.declared.records.Record.{Record}
use Rattle.grid_model.specs.declared.acts.Act.{Act}
use Rattle.grid_model.specs.declared.acts.Act.TheVariants as act
use Rattle.grid_model.specs.declared.acts.Flag.{Flag}
use Rattle.grid_model.specs.declared.acts.Flag.TheVariants as flag
use Rattle.grid_model.specs.declared.acts.Head.{Head}
use Rattle.grid_model.specs.declared.acts.Head.TheVariants as head
use Rattle.grid_model.specs.declared.events.Out.{Out}
use Rattle.grid_model.specs.declared.events.Out.TheVariants as out
use Rattle.grid_model.specs.declared.items.Item.{Item}
use Rattle.grid_model.specs.declared.items.Item.TheVariants as item
use Rattle.grid_model.specs.declared.messages.Envelope.{Envelope}
use Rattle.grid_model.specs.declared.messages.Message.{Message}
use Rattle.grid_model.specs.Sessions.{floor_at}
use Rattle.grid_model.specs.Documents.{DocumentData, number_order, script_numbers}
use Rattle.grid_model.specs.Histories.{after}
use Rattle.grid_model.specs.Nodes.{Node, node, got, journal, change, changed}
use Rattle.grid_model.specs.Disks.{is_compacting, compacting_behind}
use Rattle.grid_model.specs.Views.{view, participant}
use Rattle.grid_model.specs.Rows.{answer, begin_outs}
use Rattle.grid_model.specs.Schedules.{Choice, numbered, head_of, stopped, broken, kept, next_number, acts_of, row, start_row, start_act, events_in, flag_at, opened_row}
use Rattle.grid_model.specs.Runs.{Rows, IsRun, Lawful, Explains, is_let, are_let, is_stop, is_by_fuse, as_number, faults}
use Rattle.grid_model.specs.Fuses.{Fuse, fuse, fuse_at_stop, is_record_at, lets_compaction, lets_found, lets_record, stops_in, stops_opening}
use Rattle.grid_model.proofs.EventShapes.{Shape, idle, arms, crashes, restarts, begins, delivers, again, acts_by, by-shape, row-shaped, idle-pass}
use Rattle.grid_laws.specs.CalmRuns.{calm, calm_run, is_unfused, AreUnfused, played, plays}
use Rattle.grid_laws.proofs.RowOuts.{Pass, is_of_row, pass-acts, pass-again, pass-answer, pass-begin, pass-losses, pass-numbered, pass-starts}
use Rattle.grid_laws.proofs.EachActs.{tests-after, tests-append, tests-more, tests-parts, tests-timed}

-- ---- acts that arm no fuse, and at which no disk fails

-- an act that arms no fuse
abbrev is_unarming : Act → Bool
is_unarming (act.Armed n k how) = false
is_unarming a = true

-- an act that arms no fuse and at which no disk fails
abbrev is_unfailing : Act → Bool
is_unfailing (act.Armed n k how) = false
is_unfailing (act.StillDown n) = false
is_unfailing (act.Down n (Some h)) = false
is_unfailing a = true

abbrev are_unarming : List Act → Bool
are_unarming acts = list_all is_unarming acts

abbrev are_unfailing : List Act → Bool
are_unfailing acts = list_all is_unfailing acts

row-unarming : (n : NodeId) (said : Message) (a : Act) → is_of_row n said a ≡ true → is_unarming a ≡ true
row-unarming n said (act.Armed m k how) h = h
row-unarming n said a h = refl

row-unfailing : (n : NodeId) (said : Message) (a : Act) → is_of_row n said a ≡ true → is_unfailing a ≡ true
row-unfailing n said (act.Armed m k how) h = h
row-unfailing n said (act.StillDown m) h = h
row-unfailing n said (act.Down m (Some x)) h = h
row-unfailing n said a h = refl

-- ---- an event

-- an item that arms a fuse sets one
armed : (i : Item) (n : NodeId) (k how : ℕ) → i ≡ item.Fuse n k how → is_unfused i ≡ true → false ≡ true
armed i n k how is e = subst (λ j. is_unfused j ≡ true) is e

unarming-acts : (past : List Act) (c : Choice) (n : NodeId) (os : List Out)
    → Pass is_unarming os → are_unarming (acts_of past c n os) ≡ true
unarming-acts past c n os h = pass-acts is_unarming n (λ k y said. refl) (λ x. refl) (next_number past) c.keeps os h

unarming-opened : (d : DocumentData) (past : List Act) (n : NodeId) (f : Flag) (opens : Bool)
    → are_unarming (if opens then opened_row d past n f else act.StillDown n ∷ []) ≡ true
unarming-opened d past n f true =
    pass-losses is_unarming d (act.Up n f ∷ past) n (number_order (script_numbers d.scripts)) (λ t. refl)
unarming-opened d past n f false = refl

shape-unarming : (d : DocumentData) (past : List Act) (i : Item) (c : Choice) → is_unfused i ≡ true
    → (s : Shape d past i)
    → are_unarming (acts_by d past i c s) ≡ true
shape-unarming d past i c e (idle acts is) = idle-pass is_unarming (λ code. refl) (λ m. refl) (λ m. refl) acts is
shape-unarming d past i c e (arms n k how is) = armed i n k how is e
shape-unarming d past i c e (crashes n up) = refl
shape-unarming d past i c e (restarts n up) =
    unarming-opened d past n (flag_at (is_compacting past n) (node d past n).doubt c.finds) c.opens
shape-unarming d past i c e (begins s is new up quiet) =
    unarming-acts past c s.home (begin_outs s.home (participant (view d past s.home)) s (floor_at d past s))
    (pass-begin is_unarming (λ t n sid0. refl) (λ t j v. refl) (λ t. refl) s.home (participant (view d past s.home)) s (floor_at d past s))
shape-unarming d past i c e (delivers m x is up) =
    unarming-acts past c x.to (answer x.to (view d past x.to) x.from x.message)
    (pass-answer is_unarming x.to (view d past x.to) x.from x.message (row-unarming x.to x.message))
shape-unarming d past i c e (again n os up is) =
    unarming-acts past c n os (pass-again is_unarming (λ m. refl) d past n os is)

unfailing-acts : (past : List Act) (n : NodeId) (os : List Out) → Pass is_unfailing os
    → are_unfailing (acts_of past calm n os) ≡ true
unfailing-acts past n os h = pass-numbered is_unfailing n (λ k y said. refl) (next_number past) os h

shape-unfailing : (d : DocumentData) (past : List Act) (i : Item) → is_unfused i ≡ true → (s : Shape d past i)
    → are_unfailing (acts_by d past i calm s) ≡ true
shape-unfailing d past i e (idle acts is) = idle-pass is_unfailing (λ code. refl) (λ m. refl) (λ m. refl) acts is
shape-unfailing d past i e (arms n k how is) = armed i n k how is e
shape-unfailing d past i e (crashes n up) = refl
shape-unfailing d past i e (restarts n up) =
    pass-losses is_unfailing d (act.Up n (flag_at (is_compacting past n) (node d past n).doubt false) ∷ past) n
    (number_order (script_numbers d.scripts)) (λ t. refl)
shape-unfailing d past i e (begins s is new up quiet) =
    unfailing-acts past s.home (begin_outs s.home (participant (view d past s.home)) s (floor_at d past s))
    (pass-begin is_unfailing (λ t n sid0. refl) (λ t j v. refl) (λ t. refl) s.home (participant (view d past s.home)) s (floor_at d past s))
shape-unfailing d past i e (delivers m x is up) =
    unfailing-acts past x.to (answer x.to (view d past x.to) x.from x.message)
    (pass-answer is_unfailing x.to (view d past x.to) x.from x.message (row-unfailing x.to x.message))
shape-unfailing d past i e (again n os up is) =
    unfailing-acts past n os (pass-again is_unfailing (λ m. refl) d past n os is)

-- a row, by its shape
row-unarming_all : (d : DocumentData) (past : List Act) (i : Item) (c : Choice) → is_unfused i ≡ true
    → are_unarming (row d past i c) ≡ true
row-unarming_all d past i c e = by-shape d past i c (λ acts. are_unarming acts ≡ true) (shape-unarming d past i c e)

played-unfailing : (d : DocumentData) (past : List Act) (i : Item) → is_unfused i ≡ true
    → are_unfailing (played d past i) ≡ true
played-unfailing d past i e = by-shape d past i calm (λ acts. are_unfailing acts ≡ true) (shape-unfailing d past i e)

-- ---- a disk that fails shows

-- where the acts of outs are unfailing, the disk kept each record
same-stopped : (m : ℕ) (n : NodeId) (o : Option Head) (a : Act) (os : List Out)
    → (are_unfailing (numbered m n (broken n os)) ≡ true → broken n os ≡ os)
    → are_unfailing (numbered m n (stopped n o (out.Act a) (broken n os))) ≡ true
    → stopped n o (out.Act a) (broken n os) ≡ out.Act a ∷ os
same-stopped m n None a os same e =
    ap (λ z. out.Act a ∷ z) (same (and_parts (is_unfailing a) (are_unfailing (numbered m n (broken n os))) e).1)
same-stopped m n (Some h) a os same e = cc

same-broken : (m : ℕ) (n : NodeId) (os : List Out) → are_unfailing (numbered m n (broken n os)) ≡ true
    → broken n os ≡ os
same-broken m n [] e = refl
same-broken m n (out.Act a ∷ os) e = same-stopped m n (head_of a) a os (same-broken m n os) e
same-broken m n (out.Send to said ∷ os) e = ap (λ z. out.Send to said ∷ z) (same-broken (m + 1) n os e)

same-kept : (b : Bool) (m : ℕ) (n : NodeId) (os : List Out) → are_unfailing (numbered m n (kept b n os)) ≡ true
    → numbered m n (kept b n os) ≡ numbered m n os
same-kept true m n os e = refl
same-kept false m n os e = ap (numbered m n) (same-broken m n os e)

-- where no disk failed no record is in doubt
undoubted-one : (d : DocumentData) (e : Option Envelope) (a : Act) (n : NodeId) (x : Node) → is_unfailing a ≡ true
    → x.doubt ≡ None
    → (changed (change d e a n) x).doubt ≡ None
undoubted-one d e a n x q none = grind (arith, q, none)

undoubted : (d : DocumentData) (past : List Act) (n : NodeId) → are_unfailing past ≡ true → (node d past n).doubt ≡ None
undoubted d [] n q = refl
undoubted d (a ∷ past) n q =
    let both = and_parts (is_unfailing a) (are_unfailing past) q in
    undoubted-one d (got past) a n (node d past n) both.0 (undoubted d past n both.1)

-- nor a compaction
uncompacting-one : (a : Act) (n : NodeId) (b : Bool) → is_unfailing a ≡ true → b ≡ false
    → compacting_behind a n b ≡ false
uncompacting-one (act.Down m None) n b q none = grind (arith, none)
uncompacting-one (act.Down m (Some h)) n b q none = cc
uncompacting-one (act.Up m f) n b q none = grind (arith, none)
uncompacting-one a n b q none = none

uncompacting : (past : List Act) (n : NodeId) → are_unfailing past ≡ true → is_compacting past n ≡ false
uncompacting [] n q = refl
uncompacting (a ∷ past) n q =
    let both = and_parts (is_unfailing a) (are_unfailing past) q in
    uncompacting-one a n (is_compacting past n) both.0 (uncompacting past n both.1)

same-flag : (b : Bool) (o : Option Record) (finds : Bool) → b ≡ false → o ≡ None → flag_at b o finds ≡ flag_at b o false
same-flag true o finds e none = cc
same-flag false None finds e none = refl
same-flag false (Some x) finds e none = cc

same-opened : (d : DocumentData) (past : List Act) (n : NodeId) (opens finds : Bool) → are_unfailing past ≡ true
    → are_unfailing
    (if opens then opened_row d past n (flag_at (is_compacting past n) (node d past n).doubt finds)
    else act.StillDown n ∷ []) ≡ true
    → (if opens then opened_row d past n (flag_at (is_compacting past n) (node d past n).doubt finds)
    else act.StillDown n ∷ [])
    ≡ opened_row d past n (flag_at (is_compacting past n) (node d past n).doubt false)
same-opened d past n true finds before e =
    ap (opened_row d past n)
    (same-flag (is_compacting past n) (node d past n).doubt finds (uncompacting past n before)
    (undoubted d past n before))
same-opened d past n false finds before e = cc

shape-same : (d : DocumentData) (past : List Act) (i : Item) (c : Choice) → are_unfailing past ≡ true
    → (s : Shape d past i)
    → are_unfailing (acts_by d past i c s) ≡ true → acts_by d past i c s ≡ acts_by d past i calm s
shape-same d past i c before (idle acts is) e = refl
shape-same d past i c before (arms n k how is) e = refl
shape-same d past i c before (crashes n up) e = refl
shape-same d past i c before (restarts n up) e = same-opened d past n c.opens c.finds before e
shape-same d past i c before (begins s is new up quiet) e =
    same-kept c.keeps (next_number past) s.home (begin_outs s.home (participant (view d past s.home)) s (floor_at d past s)) e
shape-same d past i c before (delivers m x is up) e =
    ap (λ z. act.Got m ∷ z)
    (same-kept c.keeps (next_number past) x.to (answer x.to (view d past x.to) x.from x.message) e)
shape-same d past i c before (again n os up is) e = same-kept c.keeps (next_number past) n os e

-- a row at which no disk fails is the calm row
row-same : (d : DocumentData) (past : List Act) (i : Item) (c : Choice) → are_unfailing past ≡ true
    → are_unfailing (row d past i c) ≡ true → row d past i c ≡ played d past i
row-same d past i c before e =
    let is = row-shaped d past i in
    is.same c ∙ shape-same d past i c before is.shape (subst (λ z. are_unfailing z ≡ true) (is.same c) e) ∙ sym
    (is.same calm)

-- ---- fuses and faults

none-if : (b : Bool) (o o' : Option Fuse) → o ≡ None → o' ≡ None → (if b then o else o') ≡ None
none-if true o o' e e' = e
none-if false o o' e e' = e'

unarming-past : (a : Act) (past : List Act) → are_unarming (a ∷ past) ≡ true → are_unarming past ≡ true
unarming-past a past e = (and_parts (is_unarming a) (are_unarming past) e).1

-- where no fuse is armed
fuseless : (d : DocumentData) (past : List Act) (n : NodeId) → are_unarming past ≡ true → fuse d past n ≡ None
fuseless d [] n e = refl
fuseless d (act.Armed m k how ∷ past) n e = cc
fuseless d (act.StillDown m ∷ past) n e = none-if (m == n) None (fuse d past n) refl (fuseless d past n e)
fuseless d (act.Down m h ∷ past) n e = none-if (m == n) None (fuse d past n) refl (fuseless d past n e)
fuseless d (act.Compacted m ∷ past) n e = none-if (m == n) None (fuse d past n) refl (fuseless d past n e)
fuseless d (act.Up m f ∷ past) n e = rw (fuseless d past n e) refl
fuseless d (a ∷ past) n e = rw (fuseless d past n (unarming-past a past e)) refl

fuseless-at_stop : (d : DocumentData) (past : List Act) (n : NodeId) → are_unarming past ≡ true
    → fuse_at_stop d past n ≡ None
fuseless-at_stop d [] n e = refl
fuseless-at_stop d (act.Down m h ∷ past) n e =
    none-if (m == n) (fuse d past n) (fuse_at_stop d past n) (fuseless d past n e) (fuseless-at_stop d past n e)
fuseless-at_stop d (a ∷ past) n e = fuseless-at_stop d past n (unarming-past a past e)

lets-all : (b : Bool) → lets_found b None ≡ true
lets-all true = refl
lets-all false = refl

let-one : (d : DocumentData) (past : List Act) (a : Act) (n : NodeId) → are_unarming past ≡ true
    → is_let d past a n ≡ true
let-one d past (act.Up m flag.Kept) n e =
    or_right (not (m == n)) _
    (ap (lets_found (is_compacting past n)) (fuseless-at_stop d past n e) ∙ lets-all (is_compacting past n))
let-one d past (act.Compacted m) n e = or_right (not (m == n)) _ (ap lets_compaction (fuseless d past n e))
let-one d past a n e = or_right (not (is_record_at d a n)) _ (ap lets_record (fuseless d past n e))

let-all : (d : DocumentData) (past : List Act) (n : NodeId) → are_unarming past ≡ true → are_let d past n ≡ true
let-all d [] n e = refl
let-all d (a ∷ past) n e =
    let rest : are_unarming past ≡ true = unarming-past a past e in
    and_from (is_let d past a n) (are_let d past n) (let-one d past a n rest) (let-all d past n rest)

-- what does not fail arms nothing and is no fault
unfailing-unarming : (a : Act) → is_unfailing a ≡ true → is_unarming a ≡ true
unfailing-unarming (act.Armed n k how) e = e
unfailing-unarming a e = refl

unfailing-stop : (a : Act) (n : NodeId) → is_unfailing a ≡ true → is_stop a n ≡ false
unfailing-stop (act.Down m (Some h)) n e = cc
unfailing-stop (act.StillDown m) n e = cc
unfailing-stop a n e = refl

none-counted : (b c : Bool) (k : ℕ) → b ≡ false → k ≡ 0 → as_number (b && c) + k ≡ 0
none-counted b c k e f = rw (e, f) refl

faultless : (d : DocumentData) (past : List Act) (n : NodeId) → are_unfailing past ≡ true → faults d past n ≡ 0
faultless d [] n e = refl
faultless d (a ∷ past) n e =
    let both = and_parts (is_unfailing a) (are_unfailing past) e in
    none-counted (is_stop a n) _ (faults d past n) (unfailing-stop a n both.0) (faultless d past n both.1)

explained : (d : DocumentData) (past : List Act) (n : NodeId) → are_unfailing past ≡ true → Explains d past n 0
explained d past n e = record { most = omega (arith, faultless d past n e); some = λ wrong. grind (arith, wrong) }

-- the node that stops at an act at which a disk fails
faulty : (a : Act) → is_unarming a ≡ true → is_unfailing a ≡ false → (n : NodeId) × (is_stop a n ≡ true)
faulty (act.StillDown m) u e = (m, grind (arith, nat_tests))
faulty (act.Down m (Some h)) u e = (m, grind (arith, nat_tests))
faulty (act.Down m None) u e = cc
faulty (act.Armed n k how) u e = cc
faulty a u e = cc

none-stops : (h : Head) → stops_in h None ≡ false
none-stops head.Compact = refl
none-stops h = refl

not-fused : (d : DocumentData) (past : List Act) (a : Act) (n : NodeId) → fuse d past n ≡ None
    → is_by_fuse d past a n ≡ false
not-fused d past (act.Down m (Some h)) n e = ap (stops_in h) e ∙ none-stops h
not-fused d past (act.StillDown m) n e = ap (λ x. stops_opening x (journal d past n)) e
not-fused d past a n e = refl

counted : (b c : Bool) (k : ℕ) → b ≡ true → c ≡ false → 1 ≤ as_number (b && not c) + k
counted b c k e f = rw (e, f) (omega arith)

-- no stop without a fault
unfailing-one : (d : DocumentData) (a : Act) (past : List Act) → are_unarming (a ∷ past) ≡ true
    → ((n : NodeId) → faults d (a ∷ past) n ≤ 0) → is_unfailing a ≡ true
unfailing-one d a past u f = elim (cases_Bool (is_unfailing a)) [
  | inl quiet ↦ quiet
  | inr loud ↦
      let both = and_parts (is_unarming a) (are_unarming past) u in
      let stop = faulty a both.0 loud in
      let more : 1 ≤ faults d (a ∷ past) stop.0 = counted (is_stop a stop.0) (is_by_fuse d past a stop.0) (faults d past stop.0) stop.1 (not-fused d past a stop.0 (fuseless d past stop.0 both.1)) in
      let none : faults d (a ∷ past) stop.0 ≤ 0 = f stop.0 in
      grind (arith, more, none)
]

unfailing-past : (d : DocumentData) (past : List Act) → are_unarming past ≡ true → ((n : NodeId) → faults d past n ≤ 0)
    → are_unfailing past ≡ true
unfailing-past d [] u f = refl
unfailing-past d (a ∷ past) u f =
    rw (unfailing-one d a past u f) (unfailing-past d past (unarming-past a past u) (λ n. omega (arith, f n, rest n)))
  where
    rest : (n : NodeId) → faults d past n ≤ faults d (a ∷ past) n
    rest n = omega arith

-- ---- the events

unfused-next : (c : ℕ) → list_all is_unfused (replicate c (item.Next 1)) ≡ true
unfused-next zero = refl
unfused-next (suc c) = unfused-next c

unfused-events : (i : Item) → is_unfused i ≡ true → list_all is_unfused (events_in i) ≡ true
unfused-events (item.Next c) e = unfused-next c
unfused-events i e = and_from (is_unfused i) true e refl

unfused-all : (is : List Item) → list_all is_unfused is ≡ true → list_all is_unfused (flat_map events_in is) ≡ true
unfused-all [] e = refl
unfused-all (i ∷ is) e =
    let both = and_parts (is_unfused i) (list_all is_unfused is) e in
    tests-append is_unfused (events_in i) (flat_map events_in is) (unfused-events i both.0) (unfused-all is both.1)

plays-unfailing : (d : DocumentData) (past : List Act) (es : List Item) → list_all is_unfused es ≡ true
    → are_unfailing (plays d past es) ≡ true
plays-unfailing d past [] q = refl
plays-unfailing d past (e ∷ es) q =
    let both = and_parts (is_unfused e) (list_all is_unfused es) q in
    tests-append is_unfailing (played d past e) (plays d (after past (played d past e)) es)
    (played-unfailing d past e both.0) (plays-unfailing d (after past (played d past e)) es both.1)

plays-rows : (d : DocumentData) (past : List Act) (es : List Item) → Rows d past es (plays d past es)
unfolding Rows
plays-rows d past [] = refl
plays-rows d past (x ∷ es) =
    (calm, plays d (after past (played d past x)) es, refl, plays-rows d (after past (played d past x)) es)

rows-unarming : (d : DocumentData) (past : List Act) (es : List Item) (h : List Act) → list_all is_unfused es ≡ true
    → Rows d past es h → are_unarming h ≡ true
unfolding Rows
rows-unarming d past [] h e r = rw r refl
rows-unarming d past (x ∷ es) h e (c, rest, is, more) =
    let both = and_parts (is_unfused x) (list_all is_unfused es) e in
    rw is
    (tests-append is_unarming (row d past x c) rest (row-unarming_all d past x c both.0) (rows-unarming d (after past (row d past x c)) es rest both.1 more))

rows-same : (d : DocumentData) (past : List Act) (es : List Item) (h : List Act) → Rows d past es h
    → are_unfailing past ≡ true → are_unfailing h ≡ true → h ≡ plays d past es
unfolding Rows
rows-same d past [] h r before quiet = r
rows-same d past (x ∷ es) h (c, rest, is, more) before quiet =
    let both = tests-parts is_unfailing (row d past x c) rest (subst (λ z. are_unfailing z ≡ true) is quiet) in
    let here : row d past x c ≡ played d past x = row-same d past x c before both.0 in
    let behind : rest ≡ plays d (after past (row d past x c)) es = rows-same d (after past (row d past x c)) es rest more (tests-after is_unfailing past (row d past x c) before both.0) both.1 in
    is ∙ ap (λ z. row d past x c ++ z) behind ∙ ap (λ z. z ++ plays d (after past z) es) here

-- ---- the start

first-same : (b : Bool) (n : NodeId) (xs ys : List Act) → (are_unfailing xs ≡ true → xs ≡ ys)
    → are_unfailing ((if b then act.Up n flag.Untouched else act.StillDown n) ∷ xs) ≡ true
    → (if b then act.Up n flag.Untouched else act.StillDown n) ∷ xs ≡ act.Up n flag.Untouched ∷ ys
first-same true n xs ys same e = ap (λ z. act.Up n flag.Untouched ∷ z) (same e)
first-same false n xs ys same e = cc

start-same : (opens : NodeId → Bool) (ns : List NodeId) → are_unfailing (map (start_act opens) ns) ≡ true
    → map (start_act opens) ns ≡ map (start_act (λ n. true)) ns
start-same opens [] e = refl
start-same opens (n ∷ ns) e =
    first-same (opens n) n (map (start_act opens) ns) (map (start_act (λ m. true)) ns) (start-same opens ns) e

start-unfailing : (ns : List NodeId) → are_unfailing (map (start_act (λ n. true)) ns) ≡ true
start-unfailing [] = refl
start-unfailing (n ∷ ns) = start-unfailing ns

-- ---- the laws

pub calm-run : (d : DocumentData) → IsRun d d.items (calm_run d)
calm-run d =
    let start : List Act = start_row d.cluster.nodes (λ n. true) in
    record { opens = λ n. true; rest = plays d (after [] start) (flat_map events_in d.items); start = refl; rows = plays-rows d (after [] start) (flat_map events_in d.items) }

pub calm-lawful : (d : DocumentData) → AreUnfused d.items → Lawful d (calm_run d) (λ n. 0)
calm-lawful d unfused =
    let start : List Act = start_row d.cluster.nodes (λ n. true) in
    let played_all : List Act = plays d (after [] start) (flat_map events_in d.items) in
    let acts : are_unfailing (start ++ played_all) ≡ true = tests-append is_unfailing start played_all (start-unfailing (range_with_len 1 d.cluster.nodes)) (plays-unfailing d (after [] start) (flat_map events_in d.items) (unfused-all d.items unfused)) in
    let quiet : are_unfailing (after [] (calm_run d)) ≡ true = tests-after is_unfailing [] (calm_run d) refl acts in
    let unarmed : are_unarming (after [] (calm_run d)) ≡ true = tests-more is_unfailing is_unarming unfailing-unarming (after [] (calm_run d)) quiet in
    record {
      run = calm-run d;
      fuses = λ n. let-all d (after [] (calm_run d)) n unarmed;
      stops = λ n. explained d (after [] (calm_run d)) n quiet;
    }

is-calm_run : (d : DocumentData) (h : List Act) → AreUnfused d.items → Lawful d h (λ n. 0) → h ≡ calm_run d
is-calm_run d h unfused l =
    let start : List Act = start_row d.cluster.nodes l.run.opens in
    let events : list_all is_unfused (flat_map events_in d.items) ≡ true = unfused-all d.items unfused in
    let rows : are_unarming l.run.rest ≡ true = rows-unarming d (after [] start) (flat_map events_in d.items) l.run.rest events l.run.rows in
    let starts : are_unarming start ≡ true = pass-starts is_unarming l.run.opens (range_with_len 1 d.cluster.nodes) (λ n. refl) (λ n. refl) in
    let unarmed : are_unarming h ≡ true = rw l.run.start (tests-append is_unarming start l.run.rest starts rows) in
    let quiet : are_unfailing h ≡ true = tests-timed is_unfailing [] h (unfailing-past d (after [] h) (tests-after is_unarming [] h refl unarmed) (λ n. (l.stops n).most)) in
    let both = tests-parts is_unfailing start l.run.rest (subst (λ z. are_unfailing z ≡ true) l.run.start quiet) in
    let opened : start ≡ start_row d.cluster.nodes (λ n. true) = start-same l.run.opens (range_with_len 1 d.cluster.nodes) both.0 in
    let rest : l.run.rest ≡ plays d (after [] start) (flat_map events_in d.items) = rows-same d (after [] start) (flat_map events_in d.items) l.run.rest l.run.rows (tests-after is_unfailing [] start refl both.0) both.1 in
    l.run.start ∙ ap (λ z. start ++ z) rest ∙ ap (λ z. z ++ plays d (after [] z) (flat_map events_in d.items)) opened

pub one-run : (d : DocumentData) (h h' : List Act) → AreUnfused d.items → Lawful d h (λ n. 0) → Lawful d h' (λ n. 0)
    → h ≡ h'
one-run d h h' unfused l l' = is-calm_run d h unfused l ∙ sym (is-calm_run d h' unfused l')
