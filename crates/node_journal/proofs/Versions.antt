-- What the first bytes of a file tell: its version, its generation, the place of its first gate.
use Rattle.std.proofs.Common.{◌≡◌, ◌≢◌, ◌⊎◌, ℕ, ◌<◌, ◌≤◌, ◌&&◌, ◌||◌, nat_le, Bool, true, false, List, length, take, drop, refl, sym, ap, ◌∙◌, inl, inr, arith, get_or, get_or-take, take-take, Some, None}
use Rattle.std.specs.Prelude.{if◌then◌else◌, ◌==◌}
use Rattle.std.specs.Int.{w64, from_be_bytes}
use Rattle.std.proofs.lemmas.Bool.Decides.{eqb_tells}
use Rattle.std.proofs.lemmas.Grind.{common_steps}
use Rattle.std.proofs.lemmas.List.{drop-take}
use Rattle.node_journal.specs.Log.{has_generation, generation, has_version, first_gate, HasGateAt}

tells : (b : Bool) → (b ≡ true) ⊎ (b ≡ false)
tells true = inl refl
tells false = inr refl

and_parts : (a b : Bool) → (a && b) ≡ true → (a ≡ true) × (b ≡ true)
and_parts true b e = (refl, e)
and_parts false b e = cc

and_true : (a b : Bool) → a ≡ true → b ≡ true → (a && b) ≡ true
and_true true b p q = q
and_true false b p q = p

not_both : (a b : Bool) → b ≡ false → (a && b) ≡ false
not_both true b e = e
not_both false b e = refl

or_second : (a b : Bool) → b ≡ true → (a || b) ≡ true
or_second true b e = refl
or_second false b e = e

or_first : (a b : Bool) → a ≡ true → (a || b) ≡ true
or_first true b e = refl
or_first false b e = cc

or_other : (a b : Bool) → (a || b) ≡ true → a ≡ false → b ≡ true
or_other true b e f = cc
or_other false b e f = e

le_true : (m n : ℕ) → m ≤ n → nat_le m n ≡ true
le_true m n h = grind (arith, common_steps)

is_number : (a b : ℕ) → (a == b) ≡ true → a ≡ b
is_number a b e = elim (eqb_tells a b) [ inl h ↦ h.1 | inr h ↦ absurd (let no : true ≡ false = sym e ∙ h.0 in cc) ]

gate_nine : (bytes : List ℕ) → has_generation bytes ≡ true → first_gate bytes ≡ 9
unfolding first_gate
gate_nine bytes e = rw e refl

gate_one : (bytes : List ℕ) → has_generation bytes ≡ false → first_gate bytes ≡ 1
unfolding first_gate
gate_one bytes e = rw e refl

pub gate_least : (bytes : List ℕ) → 1 ≤ first_gate bytes
gate_least bytes =
    elim (tells (has_generation bytes)) [
      | inl e ↦ omega (arith, gate_nine bytes e)
      | inr e ↦ omega (
        arith,
        gate_one bytes e,
      )
    ]

generation_some : (bytes : List ℕ) → has_generation bytes ≡ true →
    generation bytes ≡ Some (from_be_bytes w64 (take 8 (drop 1 bytes)))
unfolding generation
generation_some bytes e = rw e refl

generation_none : (bytes : List ℕ) → has_generation bytes ≡ false → generation bytes ≡ None
unfolding generation
generation_none bytes e = rw e refl

pub version_first : (bytes : List ℕ) → get_or bytes 0 0 ≡ 1 → HasGateAt bytes 1
version_first bytes e = record {
  version = or_second (has_generation bytes) _ (ap (λ n. n == 1) e);
  gate = gate_one bytes (not_both (nat_le 10 (length bytes)) _ (ap (λ n. n == 2) e));
}

pub version_second : (bytes : List ℕ) → 10 ≤ length bytes → get_or bytes 0 0 ≡ 2 → HasGateAt bytes 9
version_second bytes h e =
    let has : has_generation bytes ≡ true =
    and_true (nat_le 10 (length bytes)) _ (le_true 10 (length bytes) h) (ap (λ n. n == 2) e) in
    record { version = or_first (has_generation bytes) _ has; gate = gate_nine bytes has }

-- another first byte, or a 2 in a file of less than ten bytes
pub version_none : (bytes : List ℕ) → get_or bytes 0 0 ≢ 1 → (get_or bytes 0 0 ≢ 2) ⊎ (length bytes ≤ 9) →
    has_version bytes ≡ false
version_none bytes one two =
    let first : (get_or bytes 0 0 == 1) ≡ false =
    elim (eqb_tells (get_or bytes 0 0) 1) [ inl e ↦ absurd (one e.1) | inr e ↦ e.0 ] in
    none (has_generation bytes) _ (no_generation two) first
  where
    none : (a b : Bool) → a ≡ false → b ≡ false → (a || b) ≡ false
    none true b e f = e
    none false b e f = f

    no_generation : (get_or bytes 0 0 ≢ 2) ⊎ (length bytes ≤ 9) → has_generation bytes ≡ false
    no_generation (inl h) =
        not_both (nat_le 10 (length bytes)) _
        (elim (eqb_tells (get_or bytes 0 0) 2) [ inl e ↦ absurd (h e.1) | inr e ↦ e.0 ])
    no_generation (inr h) = let short : nat_le 10 (length bytes) ≡ false = grind (arith, common_steps) in rw short refl

-- b has the version, the generation and the first gate of a
pub record SameVersion (a b : List ℕ) : Type 0 where
  pub number : generation b ≡ generation a
  pub gate : first_gate b ≡ first_gate a
  pub version : has_version b ≡ true

-- the bytes before a gate tell the version
pub same_version : (old c : List ℕ) (gate : ℕ) → has_version old ≡ true → first_gate old ≤ gate → gate < length c →
    take gate c ≡ take gate old → SameVersion old c
same_version old c gate v low high same =
    let some : 0 < gate = omega (arith, gate_least old, low) in
    let head : get_or c 0 0 ≡ get_or old 0 0 =
    sym (get_or-take gate c 0 0 some) ∙ ap (λ l. get_or l 0 0) same ∙ get_or-take gate old 0 0 some in
    elim (tells (has_generation old)) [
      | inl e ↦
          let nine : 9 ≤ gate = omega (arith, gate_nine old e, low) in
          let is : has_generation c ≡ true =
          and_true (nat_le 10 (length c)) _ (le_true 10 (length c) (omega (
            arith,
            nine,
            high,
          ))) (ap (λ n. n == 2) head ∙ (and_parts (nat_le 10 (length old)) _ e).1) in
          let front : take 9 c ≡ take 9 old =
          sym (take-take 9 gate c nine) ∙ ap (take 9) same ∙ take-take 9 gate old nine in
          let number : take 8 (drop 1 c) ≡ take 8 (drop 1 old) =
          sym (drop-take 1 8 c) ∙ ap (drop 1) front ∙ drop-take 1 8 old in
          record {
            number = generation_some c is ∙ ap (λ l. Some (from_be_bytes w64 l)) number ∙ sym (generation_some old e);
            gate = gate_nine c is ∙ sym (gate_nine old e);
            version = or_first (has_generation c) _ is;
          }
      | inr e ↦
          let one : get_or old 0 0 ≡ 1 = is_number (get_or old 0 0) 1 (or_other (has_generation old) _ v e) in
          let is : HasGateAt c 1 = version_first c (head ∙ one) in
          let not : has_generation c ≡ false = not_both (nat_le 10 (length c)) _ (ap (λ n. n == 2) (head ∙ one)) in
          record {
            number = generation_none c not ∙ sym (generation_none old e);
            gate = is.gate ∙ sym (gate_one old e);
            version = is.version;
          }
    ]

-- a file of less than ten bytes has no generation
pub generation_short : (bytes : List ℕ) → length bytes < 10 → generation bytes ≡ None
generation_short bytes h =
    let short : nat_le 10 (length bytes) ≡ false = grind (arith, common_steps) in generation_none bytes (rw short refl)

-- nine bytes of a file of at least ten tell its generation
pub generation_read : (bytes head : List ℕ) → 10 ≤ length bytes → head ≡ take 9 bytes →
    (if get_or head 0 0 == 2 then Some (from_be_bytes w64 (drop 1 head)) else None) ≡ generation bytes
generation_read bytes head h e =
    let same : get_or head 0 0 ≡ get_or bytes 0 0 = ap (λ l. get_or l 0 0) e ∙ get_or-take 9 bytes 0 0 (omega arith) in
    let number : drop 1 head ≡ take 8 (drop 1 bytes) = ap (drop 1) e ∙ drop-take 1 8 bytes in
    elim (tells (get_or bytes 0 0 == 2)) [
      | inl two ↦
          let has : has_generation bytes ≡ true =
          and_true (nat_le 10 (length bytes)) _ (le_true 10 (length bytes) h) two in
          let is : (get_or head 0 0 == 2) ≡ true = ap (λ n. n == 2) same ∙ two in
          rw is (ap (λ l. Some (from_be_bytes w64 l)) number ∙ sym (generation_some bytes has))
      | inr other ↦
          let is : (get_or head 0 0 == 2) ≡ false = ap (λ n. n == 2) same ∙ other in
          rw is (sym (generation_none bytes (not_both (nat_le 10 (length bytes)) _ other)))
    ]
