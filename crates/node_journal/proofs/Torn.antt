-- What the images are when one of the four calls of an append fails.
use Rattle.std.proofs.Common.{◌≡◌, ◌≢◌, ◌⊎◌, ℕ, ◌+◌, ◌<◌, ◌≤◌, max, List, [], ◌∷◌, length, take, refl, sym, ap, ◌∙◌, inl, inr, arith, get_or, length-take-le, get_or-take}
use Rattle.std.proofs.lemmas.Bool.Decides.{eqb_tells}
use Rattle.std.proofs.lemmas.Bool.{cases_lt}
use Rattle.std.proofs.lemmas.Grind.{elements, same_number_lists}
use Rattle.score_disk.specs.Files.{File, IsImage, IsSettled, put_at, written, synced}
use Rattle.score_disk.proofs.Places.{length-put_at, get_or-put_at, take-put_at}
use Rattle.node_journal.specs.Torn.{Near, LeavesOneOf}

pub settled_synced : (f : File) → IsSettled (synced f)
settled_synced f = record { touched = λ i. refl; least = refl; greatest = refl }

-- an image has what f has outside of these places
image_near : (f g : File) (at n : ℕ) (c : List ℕ) → Near f at n g → IsImage g c → (i : ℕ) → i < length c
    → (i < at) ⊎ (at + n ≤ i) → get_or c i 0 ≡ get_or f.seen i 0
image_near f g at n c a m i h e = m.same i h (a.touched i e) ∙ a.same i e

no_shorter : (f g : File) (at n : ℕ) (c : List ℕ) → Near f at n g → IsImage g c → length f.seen ≤ length c
no_shorter f g at n c a m = omega (arith, a.least, m.no_shorter)

take_near : (f g : File) (at n k : ℕ) (c : List ℕ) → Near f at n g → IsImage g c → k ≤ at → k ≤ length f.seen
    → take k c ≡ take k f.seen
take_near f g at n k c a m low h =
    let long : length f.seen ≤ length c = no_shorter f g at n c a m in
    let here : length (take k c) ≡ k = length-take-le k c (omega arith) in
    let there : length (take k f.seen) ≡ k = length-take-le k f.seen h in
    same_number_lists (take k c) (take k f.seen) (here ∙ sym there) (λ i e.
    let below : i < k = omega (arith, here) in
    get_or-take k c i 0 below ∙ image_near f g at n c a m i (omega arith) (inl (omega arith)) ∙ sym (get_or-take k f.seen i 0 below))

apart : (i gate : ℕ) → i ≢ gate → (i < gate) ⊎ (gate + 1 ≤ i)
apart i gate h = elim (cases_lt i gate) [ inl e ↦ inl e | inr e ↦ inr (omega (arith, h)) ]

at_gate : (xs : List ℕ) (gate : ℕ) → gate < length xs → get_or (put_at xs gate (1 ∷ [])) gate 0 ≡ 1
at_gate xs gate h = grind (arith, elements)

at_place : (xs c : List ℕ) (gate i : ℕ) → gate < length xs → get_or c gate 0 ≡ 1
    → ((i < gate) ⊎ (gate + 1 ≤ i) → get_or c i 0 ≡ get_or xs i 0) → get_or c i 0 ≡ get_or (put_at xs gate (1 ∷ [])) i 0
at_place xs c gate i h one same = elim (eqb_tells i gate) [
  | inl e ↦ ap (λ n. get_or c n 0) e.1 ∙ one ∙ sym (at_gate xs gate h) ∙ ap (λ n. get_or (put_at xs gate (1 ∷ [])) n 0) (sym e.1)
  | inr e ↦ same (apart i gate e.1) ∙ sym (get_or-put_at xs gate (1 ∷ []) i (omega arith) (apart i gate e.1))
]

-- the one byte at the gate, and all others as in f
put_near : (f g : File) (gate : ℕ) (c : List ℕ) → gate < length f.seen → Near f gate 1 g → IsImage g c
    → get_or c gate 0 ≡ 1 → c ≡ put_at f.seen gate (1 ∷ [])
put_near f g gate c h a m one =
    let least : length f.seen ≤ length c = no_shorter f g gate 1 c a m in
    let most : length c ≤ length f.seen = omega (arith, a.greatest, m.no_longer) in
    let long : length (put_at f.seen gate (1 ∷ [])) ≡ max (length f.seen) (gate + 1) = length-put_at f.seen gate (1 ∷ []) (omega arith) in
    same_number_lists c _ (omega (arith, long)) (λ i e. at_place f.seen c gate i h one (image_near f g gate 1 c a m i e))

pub opened_near : (f g : File) (gate : ℕ) (frame : List ℕ) → gate < length f.seen
    → Near (synced (written (gate + 1) frame f)) gate 1 g → LeavesOneOf f.seen gate frame g
opened_near f g gate frame h a c m =
    let f2 = synced (written (gate + 1) frame f) in
    let long : length f.seen ≤ length f2.seen = grind (arith, elements) in
    let most : length f2.seen ≤ length c = no_shorter f2 g gate 1 c a m in
    elim (eqb_tells (get_or c gate 0) 1) [
      | inl e ↦ inr (put_near f2 g gate c (omega arith) a m e.1)
      | inr e ↦ inl (record {
        front = take_near f2 g gate 1 gate c a m (omega arith) (omega arith) ∙ take-put_at f.seen (gate + 1) gate frame (omega arith) (omega arith);
        place = omega arith;
        closed = e.1;
      })
    ]
