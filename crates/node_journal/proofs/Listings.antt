-- The log of a pair in memory: how it is read, and what one record more makes of it.
use Prim.Native.Nat.{zero, suc}
use Rattle.std.proofs.Common.{◌≡◌, ◌≢◌, ℕ, ◌+◌, ◌-◌, ◌<◌, ◌≤◌, List, [], ◌∷◌, ◌++◌, length, take, drop, refl, sym, ap, subst, ◌∙◌, arith, get_or, add-one, append-nil, length-append, length-take-le, length-drop, take_all, Ok, Err}
use Rattle.std.proofs.lemmas.List.{drop_all, drop-drop}
use Rattle.score_base.specs.declared.records.Record.{Record}
use Rattle.journal_records.specs.Records.{record_bytes, IsRecord}
use Rattle.node_journal.specs.declared.reading.Gate.TheVariants.{Open}
use Rattle.node_journal.specs.Log.{log, records_of, framed, Spells, IsLog, HasGateAt, first_gate, block_at}
use Rattle.node_journal.specs.Gates.{IsGate, IsFault}
use Rattle.node_journal.specs.Torn.{opened_at}
use Rattle.node_journal.specs.Pairs.{IsListed, listed_in}
use Rattle.node_journal.proofs.Frames.{record_block}
use Rattle.node_journal.proofs.Gates.{next_at}
use Rattle.node_journal.proofs.Versions.{gate_least, version_second}
use Rattle.node_journal.proofs.Logs.{at_gate, log_is, log_bad, log_opened, opened_is}

-- ---- places behind the version

pub past_version : (bytes : List ℕ) (at : ℕ) → drop (at + 1) (2 ∷ bytes) ≡ drop at bytes
past_version bytes at = rw add-one refl

taken_version : (bytes : List ℕ) (at : ℕ) → take (at + 1) (2 ∷ bytes) ≡ 2 ∷ take at bytes
taken_version bytes at = rw add-one refl

byte_past : (bytes : List ℕ) (at : ℕ) → at < length bytes → get_or (2 ∷ bytes) (at + 1) 0 ≡ get_or (drop at bytes) 0 0
byte_past bytes at h =
    sym (ap (λ xs. get_or xs 0 0) (at_gate (2 ∷ bytes) (at + 1) (omega (arith, h))))
    ∙ ap (λ xs. get_or xs 0 0) (past_version bytes at)

nine : (bytes : List ℕ) (at : ℕ) → 8 ≤ at → at < length bytes → HasGateAt (2 ∷ bytes) 9
nine bytes at low high = version_second (2 ∷ bytes) (omega (arith, low, high)) refl

from_nine : (bytes : List ℕ) (rs : List Record) (at : ℕ) → 8 ≤ at → at < length bytes →
    Spells (drop 9 (take (at + 1) (2 ∷ bytes))) rs → Spells
    (drop (first_gate (2 ∷ bytes)) (take (at + 1) (2 ∷ bytes))) rs
from_nine bytes rs at low high s =
    subst (λ n. Spells (drop n (take (at + 1) (2 ∷ bytes))) rs) (sym (nine bytes at low high).gate) s

-- ---- reading

-- the bytes from a place on, as a slice has them
pub rest_is : (bytes : List ℕ) (at : ℕ) → take (length bytes - at) (drop at bytes) ≡ drop at bytes
rest_is bytes at = take_all (length bytes - at) (drop at bytes) (omega (arith, length-drop at bytes))

-- at a closed gate all records were read
pub listed_ends : (bytes : List ℕ) (rs : List Record) (at : ℕ) → 8 ≤ at → at < length bytes →
    Spells (drop 9 (take (at + 1) (2 ∷ bytes))) rs → get_or (drop at bytes) 0 0 ≢ 1 → rs ≡ listed_in bytes
listed_ends bytes rs at low high s closed =
    let v = nine bytes at low high in
    let is : IsLog (2 ∷ bytes) rs (at + 1) = record {
      version = v.version;
      place = omega (arith, v.gate, low);
      within = omega (arith, high);
      closed = λ e. closed (sym (byte_past bytes at high) ∙ e);
      spelled = from_nine bytes rs at low high s;
    } in
    sym (ap records_of (log_is (2 ∷ bytes) rs (at + 1) is))

-- one record more was read
pub listed_next : (bytes : List ℕ) (rs : List Record) (r : Record) (at n : ℕ) → 8 ≤ at → at < length bytes →
    Spells (drop 9 (take (at + 1) (2 ∷ bytes))) rs → IsGate (drop at bytes) (Open r n) →
    Spells (drop 9 (take (at + (1 + n) + 1) (2 ∷ bytes))) (rs ++ r ∷ [])
listed_next bytes rs r at n low high s gate =
    let place : at + 1 + (1 + n) ≡ at + (1 + n) + 1 = omega arith in
    subst (λ k. Spells (drop 9 (take k (2 ∷ bytes))) (rs ++ r ∷ [])) place
    (next_at (2 ∷ bytes) rs r 9 (at + 1) n (omega (arith, low)) (omega (arith, high)) s
    (subst (λ xs. IsGate xs (Open r n)) (sym (past_version bytes at)) gate))

-- there is no fault
pub listed_whole : (bytes : List ℕ) (rs : List Record) (at : ℕ) → IsListed bytes → 8 ≤ at → at < length bytes →
    Spells (drop 9 (take (at + 1) (2 ∷ bytes))) rs → IsFault (drop at bytes) → ⊥
listed_whole bytes rs at l low high s f =
    let v = nine bytes at low high in
    let next : drop (at + 1 + 1) (2 ∷ bytes) ≡ drop 1 (drop at bytes) =
    past_version bytes (at + 1) ∙ sym (drop-drop 1 at bytes) in
    let bad : log (2 ∷ bytes) ≡ Err (at + 1) =
    log_bad (2 ∷ bytes) rs (at + 1) (omega (arith, low, high)) v.version (omega (arith, v.gate, low))
    (omega (arith, high)) (from_nine bytes rs at low high s) (byte_past bytes at high ∙ f.gate)
    (ap block_at next ∙ f.block) in
    let good : log (2 ∷ bytes) ≡ Ok (listed_in bytes) = log_is (2 ∷ bytes) (listed_in bytes) (length bytes) l in
    let no : Err (at + 1) ≡ Ok (listed_in bytes) = sym bad ∙ good in
    cc

-- ---- one record more

first_taken : (b : ℕ) (bytes : List ℕ) (n : ℕ) → 1 ≤ n → take n (b ∷ bytes) ≡ b ∷ take (n - 1) bytes
first_taken b bytes zero h = absurd (omega (arith, h))
first_taken b bytes (suc n) h = let less : suc n - 1 ≡ n = omega arith in rw less refl

-- the closed gate is opened, and the frame of the record put behind it
pub listed_more : (old new frame : List ℕ) (rs : List Record) (r : Record) → IsLog (2 ∷ old) rs (length old)
    → IsRecord r →
    frame ≡ framed (record_bytes r) ++ 0 ∷ [] → new ≡ take (length old - 1) old ++ 1 ∷ frame →
    IsLog (2 ∷ new) (rs ++ r ∷ []) (length new)
listed_more old new frame rs r l is f e =
    let some : 0 < length old = omega (arith, l.place, gate_least (2 ∷ old)) in
    let opened = opened_at (2 ∷ old) (length old) (framed (record_bytes r) ++ 0 ∷ []) in
    let whole : opened ≡ 2 ∷ new =
    opened_is (2 ∷ old) (framed (record_bytes r) ++ 0 ∷ []) (length old) l.within
    ∙ ap (λ xs. take (length old) (2 ∷ old) ++ (1 ∷ ((framed (record_bytes r) ++ 0 ∷ []) ++ xs)))
    (drop_all (length old + 1 + length (framed (record_bytes r) ++ 0 ∷ [])) (2 ∷ old) (omega arith))
    ∙ ap (λ xs. take (length old) (2 ∷ old) ++ (1 ∷ xs)) (append-nil (framed (record_bytes r) ++ 0 ∷ []))
    ∙ ap (λ xs. xs ++ (1 ∷ (framed (record_bytes r) ++ 0 ∷ []))) (first_taken 2 old (length old) (omega (arith, some)))
    ∙ ap (λ xs. 2 ∷ (take (length old - 1) old ++ (1 ∷ xs))) (sym f)
    ∙ ap (λ xs. 2 ∷ xs) (sym e) in
    let place : length old + (1 + length (framed (record_bytes r))) ≡ length new =
    omega (
      arith,
      ap length e,
      length-append (take (length old - 1) old) (1 ∷ frame),
      ap length f,
      length-append (framed (record_bytes r)) (0 ∷ []),
      length-take-le (length old - 1) old (omega arith),
      some,
    ) in
    subst (λ xs. IsLog xs (rs ++ r ∷ []) (length new)) whole
    (subst (IsLog opened (rs ++ r ∷ [])) place
    (log_opened (2 ∷ old) (framed (record_bytes r)) rs r (length old) l (record_block r is)))

-- a log behind a version 2 is the list of its records
pub listed_is : (bytes : List ℕ) (rs : List Record) → IsLog (2 ∷ bytes) rs (length bytes) → listed_in bytes ≡ rs
listed_is bytes rs l = ap records_of (log_is (2 ∷ bytes) rs (length bytes) l)

pub listed_own : (bytes : List ℕ) (rs : List Record) → IsLog (2 ∷ bytes) rs (length bytes) → IsListed bytes
listed_own bytes rs l = subst (λ xs. IsLog (2 ∷ bytes) xs (length bytes)) (sym (listed_is bytes rs l)) l
