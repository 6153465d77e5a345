-- Where the pieces of a text lie.
use Rattle.std.proofs.Common.{◌≡◌, ℕ, ◌+◌, ◌-◌, ◌<◌, ◌≤◌, ◌==◌, cond, List, [], ◌∷◌, ◌++◌, length, take, drop, map, refl, sym, ap, subst, ◌∙◌, add-zero, append_assoc, length-append, arith, inl, inr}
use Rattle.std.specs.Prelude.{All}
use Rattle.std.specs.List.{slice_range, onto_first, join_with_byte}
use Rattle.std.proofs.lemmas.List.{same_from_push, take_at, drop_at, take_all, drop_all}
use Rattle.std.proofs.lemmas.List.Elements.{All-cons, All-nil}
use Rattle.std.proofs.lemmas.List.Splits.{length-slice_split, join_with_byte-slice_split}
use Rattle.std.proofs.lemmas.Bool.{eq-eqb, ne_eqb}
use Rattle.std.proofs.lemmas.Bool.Decides.{eqb_tells}
use Rattle.score_base.specs.declared.spans.Span.{Span}
use Rattle.score_base.specs.Pieces.{pieces, but_empty_last, lines, places, LieInOrder}

-- the spans that a walk finds from a place on, in a piece that began at an earlier one
abbrev pub walk : ℕ → ℕ → ℕ → List ℕ → List Span
walk separator start at [] = record { start = start; end = at } ∷ []
walk separator start at (b ∷ bs) =
    cond (b == separator) (record { start = start; end = at } ∷ walk separator (at + 1) (at + 1) bs)
    (walk separator start (at + 1) bs)

-- the places of pieces, the first of which began earlier
abbrev begun : ℕ → ℕ → List (List ℕ) → List Span
begun start at [] = record { start = start; end = at } ∷ []
begun start at (piece ∷ rest) = record { start = start; end = at + length piece } ∷ places (at + length piece + 1) rest

begun_here : (at : ℕ) (ps : List (List ℕ)) → 0 < length ps → begun at at ps ≡ places at ps
begun_here at [] h = absurd (omega arith)
begun_here at (piece ∷ rest) h = refl

begun_more : (start at b : ℕ) (ps : List (List ℕ)) → begun start (at + 1) ps ≡ begun start at (onto_first b ps)
begun_more start at b [] = refl
begun_more start at b (piece ∷ rest) =
    let e : at + 1 + length piece ≡ at + length (b ∷ piece) = omega arith in
    ap (λ (n : ℕ). record { start = start; end = n } ∷ places (n + 1) rest) e

walk_begun : (separator start at : ℕ) (bs : List ℕ) → walk separator start at bs ≡ begun start at (pieces separator bs)
walk_begun separator start at [] = ap (λ (n : ℕ). record { start = start; end = n } ∷ []) (sym (add-zero at))
walk_begun separator start at (b ∷ bs) = elim (eqb_tells b separator) [
  | inl p ↦ rw (p.0, add-zero) (ap (λ l. record { start = start; end = at } ∷ l) (walk_begun separator (at + 1) (at + 1) bs ∙ begun_here (at + 1) (pieces separator bs) (omega (arith, length-slice_split (λ c. c == separator) bs))))
  | inr p ↦ rw p.0 (walk_begun separator start (at + 1) bs ∙ begun_more start at b (pieces separator bs))
]

pub walk_places : (separator : ℕ) (bs : List ℕ) → walk separator 0 0 bs ≡ places 0 (pieces separator bs)
walk_places separator bs = walk_begun separator 0 0 bs ∙ begun_here 0 (pieces separator bs) (omega (arith, length-slice_split (λ c. c == separator) bs))

pub walk_ends : (separator start at : ℕ) (text : List ℕ) (spans : List Span) → at ≡ length text
    → spans ++ walk separator start at (drop at text) ≡ walk separator 0 0 text
    → spans ++ (record { start = start; end = length text }) ∷ [] ≡ places 0 (pieces separator text)
walk_ends separator start at text spans e found =
    let none : drop at text ≡ [] = drop_all at text (omega arith) in
    rw (none, e) at found ∙ walk_places separator text

-- a last piece that isn't empty stays
pub last_stays : (at s e : ℕ) (xs : List Span) (ps : List (List ℕ)) → s < e
    → xs ++ (record { start = s; end = e }) ∷ [] ≡ places at ps → but_empty_last ps ≡ ps
last_stays at s e xs [] h p = refl
last_stays at s e xs (piece ∷ []) h p =
    let same = same_from_push xs [] (record { start = s; end = e }) (record { start = at; end = at + length piece }) p in
    let begins : s ≡ at = ap (λ (x : Span). x.start) same.1 in
    let ends : e ≡ at + length piece = ap (λ (x : Span). x.end) same.1 in
    rw (ne_eqb (length piece) 0 (λ z. omega arith)) refl
last_stays at s e [] (piece ∷ next ∷ rest) h p = cc
last_stays at s e (x ∷ xs) (piece ∷ next ∷ rest) h p =
    let tail : xs ++ (record { start = s; end = e }) ∷ [] ≡ places (at + length piece + 1) (next ∷ rest) = cc in
    ap (λ l. piece ∷ l) (last_stays (at + length piece + 1) s e xs (next ∷ rest) h tail)

-- an empty last piece goes
pub last_goes : (at s e : ℕ) (xs : List Span) (ps : List (List ℕ)) → e ≤ s
    → xs ++ (record { start = s; end = e }) ∷ [] ≡ places at ps → xs ≡ places at (but_empty_last ps)
last_goes at s e [] [] h p = refl
last_goes at s e (x ∷ xs) [] h p = cc
last_goes at s e xs (piece ∷ []) h p =
    let same = same_from_push xs [] (record { start = s; end = e }) (record { start = at; end = at + length piece }) p in
    let begins : s ≡ at = ap (λ (x : Span). x.start) same.1 in
    let ends : e ≡ at + length piece = ap (λ (x : Span). x.end) same.1 in
    rw (eq-eqb (length piece) 0 (omega arith)) same.0
last_goes at s e [] (piece ∷ next ∷ rest) h p = cc
last_goes at s e (x ∷ xs) (piece ∷ next ∷ rest) h p =
    let head : x ≡ record { start = at; end = at + length piece } = cc in
    let tail : xs ++ (record { start = s; end = e }) ∷ [] ≡ places (at + length piece + 1) (next ∷ rest) = cc in
    let below = last_goes (at + length piece + 1) s e xs (next ∷ rest) h tail in
    cc

-- pieces stand in a text from a place on
abbrev pub Stand : List ℕ → ℕ → List (List ℕ) → Type 0
Stand text at [] = Unit {0}
Stand text at (piece ∷ rest) =
    (take (length piece) (drop at text) ≡ piece) × (at + length piece ≤ length text)
    × Stand text (at + length piece + 1) rest

stand_joined : (c : ℕ) (front : List ℕ) (ps : List (List ℕ)) (at : ℕ) → length front ≡ at
    → Stand (front ++ join_with_byte c ps) at ps
stand_joined c front [] at h = tt
stand_joined c front (piece ∷ []) at h =
    let here : take (length piece) piece ≡ piece = take_all (length piece) piece (omega arith) in
    (rw (drop_at front piece at h) here, omega (arith, length-append front piece), tt)
stand_joined c front (piece ∷ next ∷ rest) at h =
    let more : List ℕ = c ∷ join_with_byte c (next ∷ rest) in
    let longer : (front ++ piece ++ c ∷ []) ++ join_with_byte c (next ∷ rest) ≡ front ++ (piece ++ c ∷ join_with_byte c (next ∷ rest)) = simp append_assoc in
    let long : length (front ++ piece ++ c ∷ []) ≡ at + length piece + 1 = rw (length-append, length-append) (omega arith) in
    let below = stand_joined c (front ++ piece ++ c ∷ []) (next ∷ rest) (at + length piece + 1) long in (
      rw (drop_at front (piece ++ c ∷ join_with_byte c (next ∷ rest)) at h) (take_at piece (c ∷ join_with_byte c (next ∷ rest)) (length piece) refl),
      rw (length-append, length-append) (omega arith),
      subst (λ (t : List ℕ). Stand t (at + length piece + 1) (next ∷ rest)) longer below,
    )

pub stand_pieces : (separator : ℕ) (text : List ℕ) → Stand text 0 (pieces separator text)
stand_pieces separator text = subst (λ (t : List ℕ). Stand t 0 (pieces separator text)) (join_with_byte-slice_split separator text) (stand_joined separator [] (pieces separator text) 0 refl)

stand_but : (text : List ℕ) (at : ℕ) (ps : List (List ℕ)) → Stand text at ps → Stand text at (but_empty_last ps)
stand_but text at [] h = tt
stand_but text at (piece ∷ []) h = elim (eqb_tells (length piece) 0) [
  | inl p ↦ rw p.0 tt
  | inr p ↦ rw p.0 h
]
stand_but text at (piece ∷ next ∷ rest) h = (h.0, h.1, stand_but text (at + length piece + 1) (next ∷ rest) h.2)

pub stand_lines : (text : List ℕ) → Stand text 0 (lines text)
stand_lines text = stand_but text 0 (pieces 10 text) (stand_pieces 10 text)

pub stand_slices : (text : List ℕ) (at : ℕ) (ps : List (List ℕ)) → Stand text at ps
    → map (λ (s : Span). slice_range text s.start s.end) (places at ps) ≡ ps
stand_slices text at [] h = refl
stand_slices text at (piece ∷ rest) h =
    let long : at + length piece - at ≡ length piece = omega arith in
    let here : slice_range text at (at + length piece) ≡ piece = rw long h.0 in
    let below = stand_slices text (at + length piece + 1) rest h.2 in
    cc

pub stand_within : (text : List ℕ) (at : ℕ) (ps : List (List ℕ)) → Stand text at ps
    → All (λ (s : Span). (s.start ≤ s.end) × (s.end ≤ length text)) (places at ps)
stand_within text at [] h = All-nil _
stand_within text at (piece ∷ rest) h =
    let here : (at ≤ at + length piece) × (at + length piece ≤ length text) = (omega arith, h.1) in
    All-cons (λ (s : Span). (s.start ≤ s.end) × (s.end ≤ length text)) (record { start = at; end = at + length piece }) _ here (stand_within text (at + length piece + 1) rest h.2)

pub stand_order : (text : List ℕ) (at : ℕ) (ps : List (List ℕ)) → Stand text at ps
    → LieInOrder at (length text) (places at ps)
stand_order text at [] h = tt
stand_order text at (piece ∷ rest) h = (omega arith, omega arith, h.1, stand_order text (at + length piece + 1) rest h.2)
