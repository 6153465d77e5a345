-- What is written one by one.
use Rattle.std.proofs.Common.{◌≡◌, ◌≤◌, ◌++◌, ℕ, inl, inr, Bool, true, false, not, List, [], ◌∷◌, Option, Some, None, is_some, refl, sym, subst, ◌∙◌, arith, if◌then◌else◌}
use Rattle.std.proofs.lemmas.Bool.{cases_Bool, and_parts}
use Rattle.score_base.specs.declared.ids.Ident.{Ident}
use Rattle.score_base.specs.declared.ids.Value.{Value}
use Rattle.score_base.specs.declared.keys.Key.{Key}
use Rattle.score_base.specs.Keys.{same_key}
use Rattle.script_lang.specs.Reads.{is_key_among}
use Rattle.script_lang.proofs.KeyLists.{same_key-is, same_key-self, same_key-turned}
use Rattle.version_chain.specs.Kept.{Kept, versions_of, spare_of, StartsBy}
use Rattle.journal_words.specs.Journals.{written_value, keys_of_writes, are_distinct_keys}
use Rattle.journal_words.proofs.KeyLists.{written-among}
use Rattle.grid_store.specs.Chained.{CanPut, CanPutAll, IsPut, version_for}
use Rattle.grid_store.proofs.ChainSteps.{can-put-same, keep-nil}

-- ---- one write

-- a key that is not among the others is not written by them
unwritten : (k : Key) (xs : List (Key × Value)) → is_key_among k (keys_of_writes xs) ≡ false → written_value k xs ≡ None
unwritten k xs h = go (written_value k xs) (sym (written-among k xs) ∙ h)
  where
    go : (o : Option Value) → is_some o ≡ false → o ≡ None
    go None e = refl
    go (Some v) e = cc

-- what a put leaves
pub record IsOnePut (key : Key) (f : Ident) (v : Value) (old new : Kept) : Type 0 where
  pub versions : (k : Key)
      → versions_of k new ≡ (if same_key k key then versions_of k old ++ (f, v) ∷ [] else versions_of k old)
  pub room : (k : Key) → same_key k key ≡ false → spare_of k old ≤ spare_of k new
  pub places : new.places ≡ old.places
  pub initial : (init : Key → Value) → StartsBy init old → StartsBy init new

pub can-first : (x : Key × Value) (xs : List (Key × Value)) (f : Ident) (kept : Kept) → CanPutAll (x ∷ xs) f kept
    → CanPut x.0 f kept
can-first x xs f kept can = (let self : same_key x.0 x.0 ≡ true = same_key-self x.0 in can.each x.0 x.1 (rw self refl))

module _ (x : Key × Value) (xs : List (Key × Value)) (f : Ident) (old new : Kept) (can : CanPutAll (x ∷ xs) f old) (put : IsOnePut x.0 f x.1 old new) where
  others : is_key_among x.0 (keys_of_writes xs) ≡ false
  others = (let h = (and_parts (not (is_key_among x.0 (keys_of_writes xs))) (are_distinct_keys (keys_of_writes xs)) can.distinct).0 in grind (arith, h))

  -- a key that the others write is another
  is-other : (k : Key) (v : Value) → written_value k xs ≡ Some v → same_key k x.0 ≡ false
  is-other k v w = elim (cases_Bool (same_key k x.0)) [
    | inl same ↦ absurd (
        let none : written_value k xs ≡ None = subst (λ (l : Key). written_value l xs ≡ None) (sym (same_key-is k x.0 same)) (unwritten x.0 xs others) in
        let bad : Some v ≡ None = sym w ∙ none in
        cc)
    | inr other ↦ other
  ]

  pub can-rest : CanPutAll xs f new
  can-rest = record {
    distinct = (and_parts (not (is_key_among x.0 (keys_of_writes xs))) (are_distinct_keys (keys_of_writes xs)) can.distinct).1;
    each = λ k v w.
        (let other = is-other k v w in
        let turned : same_key x.0 k ≡ false = same_key-turned x.0 k ∙ other in
        can-put-same k f old new (put.versions k ∙ rw other refl) (put.room k other) (can.each k v (rw turned w)));
  }

  pub put-rest : (last : Kept) → IsPut xs f new last → IsPut (x ∷ xs) f old last
  put-rest last rest = record {
    versions = λ k. versions k;
    room = λ k w. room k (same_key x.0 k) refl w;
    places = rest.places ∙ put.places;
    initial = λ init starts. rest.initial init (put.initial init starts);
  }
    where
      joined : (vs : List (ℕ × ℕ)) → (vs ++ (f, x.1) ∷ []) ++ [] ≡ vs ++ (f, x.1) ∷ []
      joined vs = keep-nil (vs ++ (f, x.1) ∷ [])

      versions : (k : Key) → versions_of k last ≡ versions_of k old ++ version_for f (written_value k (x ∷ xs))
      versions k = elim (cases_Bool (same_key x.0 k)) [
        | inl same ↦
            let turned : same_key k x.0 ≡ true = same_key-turned k x.0 ∙ same in
            let none : written_value k xs ≡ None = subst (λ (l : Key). written_value l xs ≡ None) (same_key-is x.0 k same) (unwritten x.0 xs others) in
            let now : versions_of k new ≡ versions_of k old ++ (f, x.1) ∷ [] = put.versions k ∙ rw turned refl in
            rest.versions k ∙ rw (none, same) (keep-nil (versions_of k new) ∙ now)
        | inr other ↦
            let turned : same_key k x.0 ≡ false = same_key-turned k x.0 ∙ other in
            let now : versions_of k new ≡ versions_of k old = put.versions k ∙ rw turned refl in
            rest.versions k ∙ rw (other, now) refl
      ]

      room : (k : Key) (b : Bool) → same_key x.0 k ≡ b → (if b then Some x.1 else written_value k xs) ≡ None
          → spare_of k old ≤ spare_of k last
      room k true e w = cc
      room k false e w =
          let turned : same_key k x.0 ≡ false = same_key-turned k x.0 ∙ e in
          let first = put.room k turned in
          let more = rest.room k w in
          omega (arith, first, more)

pub put-none : (f : Ident) (kept : Kept) → IsPut [] f kept kept
put-none f kept = record {
  versions = λ k. sym (keep-nil (versions_of k kept));
  room = λ k w. omega arith;
  places = refl;
  initial = λ init starts. starts;
}
