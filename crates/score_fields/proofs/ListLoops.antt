-- Lists that a loop goes through, member by member.
use Rattle.std.proofs.Common.{◌≡◌, ℕ, suc, ◌+◌, ◌<◌, ◌≤◌, List, [], ◌∷◌, ◌++◌, Option, Some, None, length, get_or, drop, refl, sym, ap, subst, ◌∙◌, append_assoc, arith, length-append}
use Rattle.std.specs.List.{flat_map, AllByRecursion}
use Rattle.std.proofs.lemmas.List.Concat.{flat_map-cons}
use Rattle.std.proofs.lemmas.List.{append-nil}
use Rattle.std.proofs.Math.Seq.{drop-cons}
use Rattle.score_fields.specs.Spelling.{key_bytes, write_bytes}
use Rattle.score_fields.specs.Reading.{first_key, first_write}
use Rattle.score_fields.proofs.Lengths.{length-write_bytes}
use Rattle.score_fields.proofs.Codecs.{IsCodec}

-- the members from this one on
pub flat_map_rest : {A : Type 0} (f : A → List ℕ) (xs : List A) (i : ℕ) (x : A) → i < length xs → x ≡ get_or xs i x
    → flat_map f (drop i xs) ≡ f x ++ flat_map f (drop (i + 1) xs)
flat_map_rest {A} f xs i x lt is =
    let next : suc i ≡ i + 1 = omega arith in
    ap (flat_map f) (drop-cons xs i x lt) ∙ flat_map-cons f (get_or xs i x) (drop (suc i) xs) ∙ ap (λ (y : A). f y ++ flat_map f (drop (suc i) xs)) (sym is) ∙ ap (λ (j : ℕ). f x ++ flat_map f (drop j xs)) next

-- ---- writing what is left, into room for all of it

pub room_for : (out rest old total : List ℕ) (cap : ℕ) → out ++ rest ≡ old ++ total → length old + length total ≤ cap
    → length out + length rest ≤ cap
room_for out rest old total cap e room = omega (arith, room, length-append out rest, length-append old total, ap length e)

pub room_more : {A : Type 0} (f : A → List ℕ) (xs : List A) (i : ℕ) (x : A) (out old total : List ℕ) (cap : ℕ)
    → i < length xs → x ≡ get_or xs i x
    → out ++ flat_map f (drop i xs) ≡ old ++ total → length old + length total ≤ cap → length out + length (f x) ≤ cap
room_more f xs i x out old total cap lt is e room =
    let here = ap length (flat_map_rest f xs i x lt is) in
    omega (arith, room_for out (flat_map f (drop i xs)) old total cap e room, here, length-append (f x) (flat_map f (drop (i + 1) xs)))

-- ---- reading what is left

-- the rest spells what is still to come of a list
pub record Left {A : Type 0} (Is : A → Type 0) (Are : List A → Type 0) (f : A → List ℕ) (list : List A)
    (rest bytes : List ℕ) : Type 0 where
  pub left : List A
  pub each : AllByRecursion Is left
  pub spelled : rest ≡ flat_map f left
  pub whole : bytes ≡ length (list ++ left) ∷ flat_map f (list ++ left)
  pub are : Are (list ++ left)

-- a member that was read is the next
next_is : {A : Type 0} (Is : A → Type 0) (f : A → List ℕ) (first : List ℕ → Option (A × List ℕ)) → IsCodec Is f first
    → first [] ≡ None
    → (left : List A) (rest : List ℕ) (x : A) (after : List ℕ) → AllByRecursion Is left → rest ≡ flat_map f left
    → Some (x, after) ≡ first rest
    → (others : List A) × (left ≡ x ∷ others) × (after ≡ flat_map f others)
next_is Is f first codec none [] rest x after each e read = absurd (let bad : Some (x, after) ≡ None = read ∙ ap first e ∙ none in cc)
next_is {A} Is f first codec none (y ∷ ys) rest x after each e read =
    let again : Some (x, after) ≡ Some (y, flat_map f ys) = read ∙ ap first (e ∙ flat_map-cons f y ys) ∙ codec.again y (flat_map f ys) each.0 in
    let pair : (x, after) ≡ (y, flat_map f ys) = cc in
    let same : x ≡ y = ap (λ (p : A × List ℕ). p.0) pair in
    (ys, ap (λ (z : A). z ∷ ys) (sym same), ap (λ (p : A × List ℕ). p.1) pair)

pub left_next : {A : Type 0} (Is : A → Type 0) (Are : List A → Type 0) (f : A → List ℕ)
    (first : List ℕ → Option (A × List ℕ)) → IsCodec Is f first → first [] ≡ None
    → (list : List A) (rest bytes : List ℕ) (x : A) (after : List ℕ) → Left Is Are f list rest bytes
    → Some (x, after) ≡ first rest → Left Is Are f (list ++ x ∷ []) after bytes
left_next {A} Is Are f first codec none list rest bytes x after l read =
    let n = next_is Is f first codec none l.left rest x after l.each l.spelled read in
    let others = n.0 in
    let regroup : list ++ l.left ≡ (list ++ x ∷ []) ++ others = ap (λ (y : List A). list ++ y) n.1 ∙ sym (append_assoc list (x ∷ []) others) in
    let each : AllByRecursion Is (x ∷ others) = subst (AllByRecursion Is) n.1 l.each in
    record {
      left = others;
      each = each.1;
      spelled = n.2;
      whole = subst (λ (y : List A). bytes ≡ length y ∷ flat_map f y) regroup l.whole;
      are = subst Are regroup l.are;
    }

-- the rest gets shorter
pub left_shorter : {A : Type 0} (Is : A → Type 0) (Are : List A → Type 0) (f : A → List ℕ)
    (first : List ℕ → Option (A × List ℕ)) → IsCodec Is f first → first [] ≡ None → ((a : A) → 0 < length (f a))
    → (list : List A) (rest bytes : List ℕ) (x : A) (after : List ℕ) → Left Is Are f list rest bytes
    → Some (x, after) ≡ first rest → length after < length rest
left_shorter {A} Is Are f first codec none some list rest bytes x after l read =
    let n = next_is Is f first codec none l.left rest x after l.each l.spelled read in
    let others = n.0 in
    let whole : rest ≡ f x ++ after = l.spelled ∙ ap (flat_map f) n.1 ∙ flat_map-cons f x others ∙ ap (λ (y : List ℕ). f x ++ y) (sym n.2) in
    omega (arith, ap length whole, length-append (f x) after, some x)

pub left_end : {A : Type 0} (Is : A → Type 0) (Are : List A → Type 0) (f : A → List ℕ)
    (first : List ℕ → Option (A × List ℕ)) → IsCodec Is f first
    → (list : List A) (rest bytes : List ℕ) → Left Is Are f list rest bytes → None ≡ first rest
    → Are list × (bytes ≡ length list ∷ flat_map f list)
left_end {A} Is Are f first codec list rest bytes l read =
    let nothing : l.left ≡ [] = empty l.left l.each l.spelled in
    let same : list ++ l.left ≡ list = ap (λ (y : List A). list ++ y) nothing ∙ append-nil list in
    (subst Are same l.are, subst (λ (y : List A). bytes ≡ length y ∷ flat_map f y) same l.whole) where
      empty : (left : List A) → AllByRecursion Is left → rest ≡ flat_map f left → left ≡ []
      empty [] each e = refl
      empty (y ∷ ys) each e =
          let bad : ◌≡◌ {A = Option (A × List ℕ)} None (Some (y, flat_map f ys)) = read ∙ ap first (e ∙ flat_map-cons f y ys) ∙ codec.again y (flat_map f ys) each.0 in
          absurd cc

pub no_key : first_key [] ≡ None
unfolding first_key
no_key = refl

pub no_write : first_write [] ≡ None
unfolding first_write first_key
no_write = refl

pub key_takes_some : (key : List ℕ) → 0 < length (key_bytes key)
key_takes_some key = omega arith

pub write_takes_some : (write : List ℕ × ℕ) → 0 < length (write_bytes write)
write_takes_some write = omega (arith, length-write_bytes write.0 write.1)
