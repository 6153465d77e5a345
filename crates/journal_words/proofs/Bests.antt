-- Which version is the best of those that a list of commits wrote, and when do two lists have the same?
use Rattle.std.proofs.Common.{◌≤◌, ◌<◌, ◌≡◌, ◌⊎◌, inl, inr, Bool, true, false, ◌&&◌, List, [], ◌∷◌, Option, Some, None, refl, sym, ◌∙◌, arith, if◌then◌else◌}
use Rattle.std.proofs.lemmas.Bool.{or_cases, or_right}
use Rattle.std.proofs.lemmas.Bool.Decides.{nat_tests}
use Rattle.std.specs.Prelude.{◌==◌}
use Rattle.score_base.specs.declared.ids.TxId.{TxId}
use Rattle.score_base.specs.declared.ids.Ident.{Ident}
use Rattle.score_base.specs.declared.ids.Value.{Value}
use Rattle.score_base.specs.declared.keys.Key.{Key}
use Rattle.score_base.specs.declared.records.Record.{Record}
use Rattle.journal_words.specs.declared.versions.Version.{Version}
use Rattle.journal_words.specs.Journals.{prepared_of, wrote_in, is_behind, later, best}
use Rattle.journal_words.proofs.Pairs.{has_pair}

-- ---- the best of a list of commits, by what each wrote

-- the version with the greatest pair of those that wrote, or the initial value
abbrev pub best_of : (TxId → Option Value) → Value → List (TxId × Ident) → Version
best_of w start [] = record { ident = 0; of = 0; value = start }
best_of w start (x ∷ xs) = later x.1 x.0 (w x.0) (best_of w start xs)

-- what each transaction wrote to a key at a node
abbrev pub writer : List Record → Key → TxId → Option Value
writer r k = λ u. wrote_in (prepared_of u r) k

pub best-is : (r : List Record) (k : Key) (start : Value) (xs : List (TxId × Ident))
    → best r k start xs ≡ best_of (writer r k) start xs
best-is r k start [] = refl
best-is r k start (x ∷ xs) = rw (best-is r k start xs)

-- the pair is at most that of the version
abbrev pub IsAtMost : Ident → TxId → Version → Type 0
IsAtMost f u b = (f < b.ident) ⊎ ((f ≡ b.ident) × (u ≤ b.of))

later-most : (e f : Ident) (v u : TxId) (o : Option Value) (b : Version) → IsAtMost f u b → IsAtMost f u (later e v o b)
later-most e f v u None b h = h
later-most e f v u (Some x) b h = grind (arith, nat_tests, h)

later-self : (f : Ident) (u : TxId) (x : Value) (b : Version) → IsAtMost f u (later f u (Some x) b)
later-self f u x b = grind (arith, nat_tests)

-- each that wrote is at most the best
pub best-bound : (w : TxId → Option Value) (start : Value) (u : TxId) (f : Ident) (v : Value) (xs : List (TxId × Ident))
    → has_pair u f xs ≡ true → w u ≡ Some v → IsAtMost f u (best_of w start xs)
best-bound w start u f v [] h e = absurd (grind (arith, h))
best-bound w start u f v (x ∷ xs) h e = elim (or_cases (x.0 == u && x.1 == f) (has_pair u f xs) h) [
  | inl here ↦
      let u' : x.0 ≡ u = grind (arith, nat_tests, here) in
      let f' : x.1 ≡ f = grind (arith, nat_tests, here) in
      rw (u', f', e) (later-self f u v (best_of w start xs))
  | inr more ↦ later-most x.1 f x.0 u (w x.0) (best_of w start xs) (best-bound w start u f v xs more e)
]

-- the best is one that wrote, or the initial value
pub data IsOneOf (w : TxId → Option Value) (start : Value) (xs : List (TxId × Ident)) (b : Version) : Type 0 where
  initial : b ≡ record { ident = 0; of = 0; value = start } → IsOneOf w start xs b
  written : (u : TxId) (f : Ident) (v : Value) → has_pair u f xs ≡ true → w u ≡ Some v
      → b ≡ record { ident = f; of = u; value = v } → IsOneOf w start xs b

one-more : (w : TxId → Option Value) (start : Value) (x : TxId × Ident) (xs : List (TxId × Ident)) (b : Version)
    → IsOneOf w start xs b → IsOneOf w start (x ∷ xs) b
one-more w start x xs b (initial e) = initial e
one-more w start x xs b (written u f v h e is) = written u f v (or_right (x.0 == u && x.1 == f) (has_pair u f xs) h) e is

pub best-one : (w : TxId → Option Value) (start : Value) (xs : List (TxId × Ident))
    → IsOneOf w start xs (best_of w start xs)
best-one w start [] = initial refl
best-one w start (x ∷ xs) = go (w x.0) refl (best-one w start xs)
  where
    choose : (v : Value) (b : Bool) → w x.0 ≡ Some v → IsOneOf w start xs (best_of w start xs)
        → IsOneOf w start (x ∷ xs) (if b then record { ident = x.1; of = x.0; value = v } else best_of w start xs)
    choose v true e h = written x.0 x.1 v (grind (arith, nat_tests)) e refl
    choose v false e h = one-more w start x xs _ h

    go : (o : Option Value) → w x.0 ≡ o → IsOneOf w start xs (best_of w start xs)
        → IsOneOf w start (x ∷ xs) (later x.1 x.0 o (best_of w start xs))
    go None e h = one-more w start x xs _ h
    go (Some v) e h = choose v (is_behind x.1 x.0 (best_of w start xs)) e h

-- ---- lists with the same writers have the same best

-- each of the first list that wrote is in the second, and wrote the same there, at an identifier from 1 on
abbrev pub IsWithin : (w w' : TxId → Option Value) (xs ys : List (TxId × Ident)) → Type 0
IsWithin w w' xs ys =
    (u : TxId) (f : Ident) (v : Value) → has_pair u f xs ≡ true → w u ≡ Some v
    → (has_pair u f ys ≡ true) × (w' u ≡ Some v) × (1 ≤ f)

same-best : (w w' : TxId → Option Value) (start : Value) (xs ys : List (TxId × Ident)) → IsWithin w w' xs ys
    → IsWithin w' w ys xs → (a b : Version) → a ≡ best_of w start xs → b ≡ best_of w' start ys → IsOneOf w start xs a
    → IsOneOf w' start ys b → a ≡ b
same-best w w' start xs ys to from a b ea eb (initial e) (initial e') = e ∙ sym e'
same-best w w' start xs ys to from a b ea eb (initial e) (written u f x h k is) = absurd (
    let there = from u f x h k in
    let most : IsAtMost f u a = rw (← ea) at (best-bound w start u f x xs there.0 there.1) in
    let most' = rw e at most in
    grind (arith, most', there.2))
same-best w w' start xs ys to from a b ea eb (written u f x h k is) (initial e) = absurd (
    let there = to u f x h k in
    let most : IsAtMost f u b = rw (← eb) at (best-bound w' start u f x ys there.0 there.1) in
    let most' = rw e at most in
    grind (arith, most', there.2))
same-best w w' start xs ys to from a b ea eb (written u f x h k is) (written v e y h' k' is') =
    let there = to u f x h k in
    let back = from v e y h' k' in
    let most : IsAtMost f u b = rw (← eb) at (best-bound w' start u f x ys there.0 there.1) in
    let most' : IsAtMost e v a = rw (← ea) at (best-bound w start v e y xs back.0 back.1) in
    is ∙ same-version u v f e x y (rw is' at most) (rw is at most') k back.1 ∙ sym is'
  where
    same-version : (u v : TxId) (f e : Ident) (x y : Value) → IsAtMost f u (record { ident = e; of = v; value = y }) → IsAtMost e v (record { ident = f; of = u; value = x }) → w u ≡ Some x → w v ≡ Some y → (let a : Version = record { ident = f; of = u; value = x } in let b : Version = record { ident = e; of = v; value = y } in a ≡ b)
    same-version u v f e x y m m' k k' = grind (arith, m, m', k, k')

pub best-same : (w w' : TxId → Option Value) (start : Value) (xs ys : List (TxId × Ident)) → IsWithin w w' xs ys
    → IsWithin w' w ys xs → best_of w start xs ≡ best_of w' start ys
best-same w w' start xs ys to from = same-best w w' start xs ys to from (best_of w start xs) (best_of w' start ys) refl refl (best-one w start xs) (best-one w' start ys)
