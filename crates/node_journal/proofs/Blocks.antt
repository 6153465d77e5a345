-- How a log is read block by block.
use Rattle.std.proofs.Common.{◌≡◌, ◌≢◌, ◌⊎◌, ℕ, suc, ◌+◌, ◌<◌, ◌≤◌, ◌&&◌, nat_le, nat_lt, min, Bool, true, false, List, [], ◌∷◌, ◌++◌, length, take, drop, refl, sym, ap, ◌∙◌, inl, inr, arith, append_assoc, length-append, length-take-le, add-zero, Option, Some, None, Result, Ok, Err}
use Rattle.std.specs.Prelude.{if◌then◌else◌}
use Rattle.std.specs.Int.{w16, to_be_bytes, from_be_bytes}
use Rattle.std.proofs.lemmas.Grind.{common_steps, elements}
use Rattle.std.proofs.lemmas.Bool.Decides.{eqb_tells}
use Rattle.std.proofs.lemmas.List.{take-append-le, drop-take, length-take}
use Rattle.std.proofs.Math.Seq.{take-append_seam}
use Rattle.std.proofs.lemmas.Nat.{from_be_bytes-to_be_bytes_2}
use Rattle.score_base.specs.declared.records.Record.{Record}
use Rattle.journal_records.specs.Records.{decode_of}
use Rattle.node_journal.specs.Log.{log_from, block_at, body_length, has_body, sized, with_front, opened, framed, Spells}

same_place : (p q n : ℕ) (rest : List ℕ) → p ≡ q → log_from p n rest ≡ log_from q n rest
same_place p q n rest e = ap (λ k. log_from k n rest) e

pub log_skip : (place : ℕ) (xs ys : List ℕ) → log_from place (length xs) (xs ++ ys) ≡ log_from (place + length xs) 0 ys
unfolding log_from
log_skip place [] ys = same_place place (place + 0) 0 ys (sym (add-zero place))
log_skip place (x ∷ xs) ys = log_skip (place + 1) xs ys ∙ same_place (place + 1 + length xs) (place + suc (length xs)) 0 ys (omega arith)

-- a closed gate ends the log
pub log_closed : (place gate : ℕ) (rest : List ℕ) → gate ≢ 1 → log_from place 0 (gate ∷ rest) ≡ Ok []
unfolding log_from
log_closed place gate rest h = elim (eqb_tells gate 1) [ inl e ↦ absurd (h e.1) | inr e ↦ rw e.0 refl ]

-- an open gate that no block follows is at fault
pub log_fault : (place : ℕ) (rest : List ℕ) → block_at rest ≡ None → log_from place 0 (1 ∷ rest) ≡ Err place
unfolding log_from
log_fault place rest e = ap (λ o. opened place o (λ n. log_from (place + 1) n rest)) e

-- an open gate with a block behind it
log_open : (place : ℕ) (block rest : List ℕ) (r : Record) → block_at (block ++ rest) ≡ Some (r, length block)
    → log_from place 0 (1 ∷ (block ++ rest)) ≡ with_front (r ∷ []) (log_from (place + 1 + length block) 0 rest)
unfolding log_from
log_open place block rest r e = ap (λ o. opened place o (λ n. log_from (place + 1) n (block ++ rest))) e ∙ ap (with_front (r ∷ [])) (log_skip (place + 1) block rest)

behind-nil : (x : Result (List Record) ℕ) → x ≡ with_front [] x
behind-nil (Ok rs) = refl
behind-nil (Err p) = refl

pub behind-behind : (a b : List Record) (x : Result (List Record) ℕ)
    → with_front a (with_front b x) ≡ with_front (a ++ b) x
behind-behind a b (Ok rs) = ap Ok (sym (append_assoc a b rs))
behind-behind a b (Err p) = refl

pub spells_nil : Spells [] []
spells_nil = record { read = λ place rest h. behind-nil (log_from place 0 rest) ∙ ap (λ p. with_front [] (log_from p 0 rest)) (sym (add-zero place)) }

-- Before any rest, this is the block of this record.
pub record IsBlock (block : List ℕ) (r : Record) : Type 0 where
  pub found : (rest : List ℕ) → 0 < length rest → block_at (block ++ rest) ≡ Some (r, length block)

pub spells_more : (front block : List ℕ) (rs : List Record) (r : Record) → Spells front rs → IsBlock block r
    → Spells (front ++ (1 ∷ block)) (rs ++ r ∷ [])
spells_more front block rs r s b = record {
  read = λ place rest h.
      let whole : (front ++ (1 ∷ block)) ++ rest ≡ front ++ (1 ∷ (block ++ rest)) = append_assoc front (1 ∷ block) rest in
      let long : length (front ++ (1 ∷ block)) ≡ length front + length (1 ∷ block) = length-append front (1 ∷ block) in
      ap (log_from place 0) whole
      ∙ s.read place (1 ∷ (block ++ rest)) (omega arith)
      ∙ ap (with_front rs) (log_open (place + length front) block rest r (b.found rest h))
      ∙ behind-behind rs (r ∷ []) _
      ∙ ap (λ p. with_front (rs ++ r ∷ []) (log_from p 0 rest)) (omega (arith, long));
}

chosen : (b : Bool) (n m : ℕ) (o : Option Record) (r : Record) → (if b then sized n o else None) ≡ Some (r, m)
    → (b ≡ true) × (o ≡ Some r) × (n ≡ m)
chosen true n m None r e = cc
chosen true n m (Some x) r e = let pair : (x, n) ≡ (r, m) = cc in (refl, ap (λ (p : Record × ℕ). Some p.0) pair, ap (λ (p : Record × ℕ). p.1) pair)
chosen false n m o r e = cc

-- a length that is allowed, a body of it and a next gate
record Fits (n long : ℕ) : Type 0 where
  least : 1 ≤ n
  most : n ≤ 4096
  next : n + 2 < long

tested : (n long : ℕ) → (nat_le 1 n && nat_le n 4096 && nat_lt (n + 2) long) ≡ true → Fits n long
tested n long e = record { least = grind (arith, common_steps); most = grind (arith, common_steps); next = grind (arith, common_steps) }

passes : (n long : ℕ) → Fits n long → (nat_le 1 n && nat_le n 4096 && nat_lt (n + 2) long) ≡ true
passes n long f =
    let low : 1 ≤ n = f.least in
    let high : n ≤ 4096 = f.most in
    let next : n + 2 < long = f.next in
    grind (arith, common_steps)

same_length : (xs ys : List ℕ) → take 2 xs ≡ take 2 ys → body_length xs ≡ body_length ys
unfolding body_length
same_length xs ys e = ap (from_be_bytes w16) e

-- what block_at says, apart
record Found (xs : List ℕ) (r : Record) (n : ℕ) : Type 0 where
  fits : Fits (body_length xs) (length xs)
  is : decode_of (take (body_length xs) (drop 2 xs)) ≡ Some r
  size : body_length xs + 2 ≡ n

found_of : (xs : List ℕ) (r : Record) (n : ℕ) → block_at xs ≡ Some (r, n) → Found xs r n
unfolding block_at
found_of xs r n e =
    let parts = chosen (has_body xs) (body_length xs + 2) n (decode_of (take (body_length xs) (drop 2 xs))) r e in
    record { fits = tested (body_length xs) (length xs) parts.0; is = parts.1; size = parts.2 }

block_of : (xs : List ℕ) (r : Record) (n : ℕ) → Found xs r n → block_at xs ≡ Some (r, n)
unfolding block_at
block_of xs r n f = rw (passes (body_length xs) (length xs) f.fits, f.is, f.size) refl

take_less : (k n : ℕ) (xs : List ℕ) → k ≤ n → take k (take n xs) ≡ take k xs
take_less k n xs h = grind (arith, common_steps)

first_same : (k n : ℕ) (xs ys : List ℕ) → k ≤ n → take n xs ≡ take n ys → take k xs ≡ take k ys
first_same k n xs ys h e = sym (take_less k n xs h) ∙ ap (take k) e ∙ take_less k n ys h

-- the same block, whatever stands behind its next gate
found_again : (xs ys : List ℕ) (r : Record) (n : ℕ) → Found xs r n → take n xs ≡ take n ys → n < length ys
    → Found ys r n
found_again xs ys r n f same next =
    let size : 2 + body_length xs ≡ n = omega (arith, f.size) in
    let first : take 2 xs ≡ take 2 ys = first_same 2 n xs ys (omega arith) same in
    let long : body_length xs ≡ body_length ys = same_length xs ys first in
    let body : take (body_length xs) (drop 2 xs) ≡ take (body_length xs) (drop 2 ys) = sym (drop-take 2 (body_length xs) xs) ∙ ap (λ k. drop 2 (take k xs)) size ∙ ap (drop 2) same ∙ ap (λ k. drop 2 (take k ys)) (sym size) ∙ drop-take 2 (body_length xs) ys in
    record {
      fits = record { least = omega (arith, f.fits.least, long); most = omega (arith, f.fits.most, long); next = omega (arith, long, size, next) };
      is = ap (λ k. decode_of (take k (drop 2 ys))) (sym long) ∙ ap decode_of (sym body) ∙ f.is;
      size = omega (arith, long, size);
    }

-- what was found behind a gate is a block
pub taken_block : (xs : List ℕ) (r : Record) (n : ℕ) → block_at xs ≡ Some (r, n)
    → (n < length xs) × IsBlock (take n xs) r
taken_block xs r n e =
    let f = found_of xs r n e in
    let next : n < length xs = omega (arith, f.fits.next, f.size) in
    let long : length (take n xs) ≡ n = length-take-le n xs (omega arith) in (
      next,
      record {
        found = λ rest h.
            let front : take n (take n xs ++ rest) ≡ take n (take n xs) = take-append-le n (take n xs) rest (omega (arith, long)) in
            let all : length (take n xs ++ rest) ≡ length (take n xs) + length rest = length-append (take n xs) rest in
            block_of (take n xs ++ rest) r n (found_again xs (take n xs ++ rest) r n f (sym (front ∙ take_less n n xs (omega arith))) (omega (arith, all, long, h))) ∙ ap (λ k. Some (r, k)) (sym long);
      },
    )

two_bytes : (n : ℕ) → length (to_be_bytes w16 n) ≡ 2
two_bytes n = refl

-- a frame is the block of its record
pub frame_block : (body : List ℕ) (r : Record) → decode_of body ≡ Some r → 1 ≤ length body → length body ≤ 4096
    → IsBlock (framed body) r
unfolding framed body_length
frame_block body r e low high = record {
  found = λ rest h.
      let n = length body in
      let whole : (to_be_bytes w16 n ++ body) ++ rest ≡ to_be_bytes w16 n ++ (body ++ rest) = append_assoc (to_be_bytes w16 n) body rest in
      let stated : body_length ((to_be_bytes w16 n ++ body) ++ rest) ≡ n = from_be_bytes-to_be_bytes_2 n (omega arith) in
      let long : length ((to_be_bytes w16 n ++ body) ++ rest) ≡ 2 + (n + length rest) = grind (arith, elements) in
      let rest_is : drop 2 ((to_be_bytes w16 n ++ body) ++ rest) ≡ body ++ rest = refl in
      let size : length (to_be_bytes w16 n ++ body) ≡ n + 2 = grind (arith, elements) in
      let is : decode_of (take n (body ++ rest)) ≡ Some r = ap decode_of (take-append_seam body rest) ∙ e in
      block_of ((to_be_bytes w16 n ++ body) ++ rest) r (length (to_be_bytes w16 n ++ body)) (record {
        fits = record { least = omega (arith, stated, low); most = omega (arith, stated, high); next = omega (arith, stated, long, h) };
        is = ap (λ k. decode_of (take k (body ++ rest))) stated ∙ is;
        size = omega (arith, stated, size);
      });
}

known : {X : Type 0} (o : Option X) → (o ≡ None) ⊎ ((x : X) × (o ≡ Some x))
known None = inl refl
known (Some x) = inr (x, refl)

-- the longest block and a next gate tell what block stands first
pub block_front : (k : ℕ) (xs : List ℕ) → 4099 ≤ k → block_at (take k xs) ≡ block_at xs
block_front k xs h = elim (known (block_at xs)) [
  | inr (x, e) ↦
      let f = found_of xs x.0 x.1 e in
      let long : length (take k xs) ≡ min k (length xs) = length-take k xs in
      block_of (take k xs) x.0 x.1 (found_again xs (take k xs) x.0 x.1 f (sym (take_less x.1 k xs (omega (arith, f.size, f.fits.most, h)))) (omega (arith, long, f.size, f.fits.most, f.fits.next, h))) ∙ sym e
  | inl e ↦ elim (known (block_at (take k xs))) [
    | inl none ↦ none ∙ sym e
    | inr (x, found) ↦
        let f = found_of (take k xs) x.0 x.1 found in
        let long : length (take k xs) ≡ min k (length xs) = length-take k xs in
        let there : block_at xs ≡ Some (x.0, x.1) = block_of xs x.0 x.1 (found_again (take k xs) xs x.0 x.1 f (take_less x.1 k xs (omega (arith, f.size, f.fits.most, h))) (omega (arith, long, f.size, f.fits.next))) in
        let bad : None ≡ Some (x.0, x.1) = sym e ∙ there in
        cc
  ]
]
