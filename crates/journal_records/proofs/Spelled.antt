-- The lists of a record as they stand in scratch, and how long a record is.
use Rattle.std.proofs.Common.{◌≡◌, ℕ, ◌≤◌, Result, Ok, Err, OnErr, OnOk, All, List, [], ◌∷◌, ◌++◌, length, ap, arith, length-append}
use Rattle.std.specs.List.{AllByRecursion}
use Rattle.std.proofs.lemmas.List.Elements.{All-from_recursion}
use Rattle.score_base.specs.declared.causes.Outcome.{Outcome}
use Rattle.score_base.specs.declared.records.Record.{Record}
use Rattle.score_base.specs.declared.records.Record.TheVariants.{Ended, Ceiling, Decided, Closed}
use Rattle.score_fields.specs.Spelling.{two_bytes, eight_bytes, AreNodes, nodes_bytes, AreKeys, keys_bytes, AreWrites, writes_bytes, outcome_bytes}
use Rattle.score_fields.proofs.Bounds.{nodes_small, keys_small, writes_small, outcome_small}
use Rattle.score_fields.proofs.Lengths.{length-two_bytes, length-eight_bytes}
use Rattle.score_fields.specs.declared.fields.Datum.{Datum}
use Rattle.score_fields.specs.declared.fields.Datum.TheVariants as datum
use Rattle.score_fields.specs.Fields.{IsWithin}
use Rattle.journal_records.specs.Records.{record_bytes, IsRecord}
use Rattle.journal_records.proofs.RecordCodec.{record_small}

-- ---- how long

pub ended_short : (t : ℕ) (o : Outcome) → length (record_bytes (Ended t o)) ≤ 12
unfolding record_bytes
ended_short t o = omega (arith, length-append (two_bytes t) (outcome_bytes o ++ []), length-append (outcome_bytes o) [], length-two_bytes t, outcome_small o)

pub ceiling_short : (c : ℕ) → length (record_bytes (Ceiling c)) ≤ 9
unfolding record_bytes
ceiling_short c = omega (arith, length-append (eight_bytes c) [], length-eight_bytes c)

pub decided_short : (t f : ℕ) (parts : List ℕ) → length parts ≤ 16 → length (record_bytes (Decided t f parts)) ≤ 28
unfolding record_bytes
decided_short t f parts most = omega (arith, most, length-append (two_bytes t) (eight_bytes f ++ (nodes_bytes parts ++ [])), length-append (eight_bytes f) (nodes_bytes parts ++ []), length-append parts [], length-two_bytes t, length-eight_bytes f)

pub closed_short : (t : ℕ) → length (record_bytes (Closed t)) ≤ 3
unfolding record_bytes
closed_short t = omega (arith, length-append (two_bytes t) [], length-two_bytes t)

pub ruleset short = (ended_short, ceiling_short, decided_short, closed_short, nodes_small, keys_small, writes_small, outcome_small)

-- ---- what holds at an error

pub on_err : {A E : Type 0} (r : Result A E) (P Q : Type 0) → OnErr r P → (P → Q) → OnErr r Q
on_err (Ok x) P Q h f = tt
on_err (Err e) P Q h f = f h

pub at_err : {A E : Type 0} (r : Result A E) (P : Type 0) → P → OnErr r P
at_err (Ok x) P p = tt
at_err (Err e) P p = p

pub at_ok : {A E : Type 0} (r : Result A E) (P : Type 0) → P → OnOk r P
at_ok (Ok x) P p = p
at_ok (Err e) P p = tt

pub small_from : {A E : Type 0} (rec : Record) (r : Result A E) → OnOk r (IsRecord rec)
    → OnOk r (length (record_bytes rec) ≤ 2407)
small_from rec (Ok x) is = record_small rec is
small_from rec (Err e) is = tt

-- ---- a Prepared

-- its spans lie in the bytes
pub prepared_within : (t home sid p : ℕ) (bytes : List ℕ) (reads_at writes_at end : ℕ) → reads_at ≤ writes_at
    → writes_at ≤ length bytes → end ≡ length bytes
    → All (IsWithin bytes) (datum.Number t ∷ datum.Number home ∷ datum.Span 0 reads_at ∷ datum.Number sid
    ∷ datum.Number p ∷ datum.Span reads_at writes_at ∷ datum.Span writes_at end ∷ [])
prepared_within t home sid p bytes reads_at writes_at end order within e =
    let values : List Datum = datum.Number t ∷ datum.Number home ∷ datum.Span 0 reads_at ∷ datum.Number sid ∷ datum.Number p ∷ datum.Span reads_at writes_at ∷ datum.Span writes_at end ∷ [] in
    let each : AllByRecursion (IsWithin bytes) values = (tt, (tt, ((omega arith, omega arith), (tt, (tt, ((order, within), ((omega arith, omega arith), tt))))))) in
    All-from_recursion (IsWithin bytes) values each

pub prepared_short : (t home sid p : ℕ) (parts : List ℕ) (reads : List (List ℕ)) (writes : List (List ℕ × ℕ))
    (a b c : List ℕ) → AreNodes parts → AreKeys reads → AreWrites writes
    → a ≡ nodes_bytes parts → b ≡ keys_bytes reads → c ≡ writes_bytes writes
    → length (1 ∷ (two_bytes t ++ ((home ∷ []) ++ (a ++ (eight_bytes sid ++ (eight_bytes p ++ (b ++ (c ++ []))))))))
    ≤ 2407
prepared_short t home sid p parts reads writes a b c are-parts are-reads are-writes a-is b-is c-is =
    let text7 : List ℕ = c ++ [] in
    let text6 : List ℕ = b ++ text7 in
    let text5 : List ℕ = eight_bytes p ++ text6 in
    let text4 : List ℕ = eight_bytes sid ++ text5 in
    let text3 : List ℕ = a ++ text4 in
    let text2 : List ℕ = (home ∷ []) ++ text3 in
    let seven : length text7 ≤ 1313 = omega (arith, length-append c [], ap length c-is, writes_small writes are-writes) in
    let six : length text6 ≤ 2370 = omega (arith, length-append b text7, ap length b-is, keys_small reads are-reads, seven) in
    let five : length text5 ≤ 2378 = omega (arith, length-append (eight_bytes p) text6, length-eight_bytes p, six) in
    let four : length text4 ≤ 2386 = omega (arith, length-append (eight_bytes sid) text5, length-eight_bytes sid, five) in
    let three : length text3 ≤ 2403 = omega (arith, length-append a text4, ap length a-is, nodes_small parts are-parts, four) in
    let two : length text2 ≤ 2404 = omega (arith, three) in
    omega (arith, length-append (two_bytes t) text2, length-two_bytes t, two)
