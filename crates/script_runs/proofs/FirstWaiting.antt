-- The operation that a transaction waits for, by the operations before it.
use Rattle.std.proofs.Common.{◌≡◌, ℕ, ◌+◌, ◌<◌, Bool, true, false, not, ◌&&◌, ◌||◌, is_some, List, [], ◌∷◌, ◌++◌, length, take, drop, get_or, Option, Some, None, ap, sym, refl, subst, ◌∙◌, inl, inr}
use Rattle.std.proofs.lemmas.Bool.{cases_Bool}
use Rattle.std.proofs.lemmas.Cmp.{nat_list_eq_equiv}
use Rattle.std.proofs.lemmas.List.{take_more, drop_more}
use Rattle.std.proofs.lemmas.List.Folds.{list_any-append}
use Rattle.std.proofs.lemmas.Map.Steps.{list_any_congr}
use Rattle.std.specs.List.{list_any}
use Rattle.score_base.specs.declared.keys.Key.{Key}
use Rattle.score_base.specs.declared.ids.Value.{Value}
use Rattle.score_base.specs.Keys.{same_key}
use Rattle.script_lang.specs.declared.scripts.Op.{Op}
use Rattle.script_lang.specs.declared.scripts.Op.TheVariants as op
use Rattle.script_lang.specs.Reads.{is_key_among, keys_named, key_of}
use Rattle.script_runs.specs.Waits.{waiting, waiting_from, value_taken, first_open, is_waiting}

-- a list names the keys that these operations name
abbrev pub Names : List Key → List Op → Type 0
Names seen ops = (k : Key) → is_key_among k seen ≡ is_key_among k (keys_named ops)

-- none of the first i operations waits
pub record Walked (ops : List Op) (rs : List (ℕ × Value)) (i : ℕ) : Type 0 where
  pub seen : List Key
  pub names : Names seen (take i ops)
  pub rest : waiting_from (i + 1) seen rs (drop i ops) ≡ waiting ops rs

named-append : (xs : List Op) (o : Op) → keys_named (xs ++ o ∷ []) ≡ keys_named xs ++ key_of o ∷ []
named-append [] o = refl
named-append (x ∷ xs) o = ap (λ ks. key_of x ∷ ks) (named-append xs o)

or-turned : (a b : Bool) → (a || b) ≡ (b || (a || false))
or-turned true true = refl
or-turned true false = refl
or-turned false true = refl
or-turned false false = refl

or-false : (a : Bool) → (a || false) ≡ a
or-false true = refl
or-false false = refl

-- a key is named up to an operation
among-append : (k : Key) (xs : List Op) (o : Op)
    → is_key_among k (keys_named (xs ++ o ∷ [])) ≡ (is_key_among k (keys_named xs) || (same_key k (key_of o) || false))
among-append k xs o = ap (list_any (same_key k)) (named-append xs o) ∙ list_any-append (same_key k) (keys_named xs) (key_of o ∷ [])

-- a key more
names-more : (seen : List Key) (xs : List Op) (o : Op) → Names seen xs → Names (key_of o ∷ seen) (xs ++ o ∷ [])
names-more seen xs o names k = ap (λ b. same_key k (key_of o) || b) (names k) ∙ or-turned (same_key k (key_of o)) (is_key_among k (keys_named xs)) ∙ sym (among-append k xs o)

-- a key that is there already
names-same : (seen : List Key) (xs : List Op) (o : Op) → Names seen xs → is_key_among (key_of o) seen ≡ true
    → Names seen (xs ++ o ∷ [])
names-same seen xs o names there k = elim (cases_Bool (same_key k (key_of o))) [
  | inl same ↦
      let here : is_key_among k seen ≡ true = list_any_congr nat_list_eq_equiv k (key_of o) seen same ∙ there in
      here ∙ sym (among-append k xs o ∙ ap (λ b. b || (same_key k (key_of o) || false)) (sym (names k) ∙ here))
  | inr other ↦ names k ∙ sym (among-append k xs o ∙ ap (λ b. is_key_among k (keys_named xs) || (b || false)) other ∙ or-false (is_key_among k (keys_named xs)))
]

-- ---- one operation

is_taken : (b : Bool) (v : Option Value) → b ≡ false → (not b && not (is_some v)) ≡ false → is_some v ≡ true
is_taken true v f e = cc
is_taken false (Some v) f e = refl
is_taken false None f e = cc

first_open-taken : (v : Option Value) (j : ℕ) (rest : Option ℕ) → is_some v ≡ true → first_open v j rest ≡ rest
first_open-taken (Some v) j rest e = refl
first_open-taken None j rest e = cc

-- what stands behind an operation that does not wait
record Passed (j : ℕ) (rs : List (ℕ × Value)) (before : List Op) (o : Op) (seen : List Key) (ys : List Op) : Type 0
  where
    pub seen' : List Key
    pub names : Names seen' (before ++ o ∷ [])
    pub rest : waiting_from (j + 1) seen' rs ys ≡ waiting_from j seen rs (o ∷ ys)

passes : (j : ℕ) (rs : List (ℕ × Value)) (before : List Op) (o : Op) (seen : List Key) (ys : List Op)
    → Names seen before → is_waiting rs j before o ≡ false → Passed j rs before o seen ys
passes j rs before (op.Read k) seen ys names w = elim (cases_Bool (is_key_among k seen)) [
  | inl there ↦ record { seen' = seen; names = names-same seen before (op.Read k) names there; rest = rw there refl }
  | inr new ↦
      let taken : is_some (value_taken j rs) ≡ true = is_taken (is_key_among k (keys_named before)) (value_taken j rs) (sym (names k) ∙ new) w in
      record { seen' = k ∷ seen; names = names-more seen before (op.Read k) names; rest = rw new (sym (first_open-taken (value_taken j rs) j (waiting_from (j + 1) (k ∷ seen) rs ys) taken)) }
]
passes j rs before (op.Write k e) seen ys names w = record { seen' = k ∷ seen; names = names-more seen before (op.Write k e) names; rest = refl }

-- ---- the walk

pub Walked-more : (ops : List Op) (rs : List (ℕ × Value)) (i : ℕ) (o : Op) → i < length ops → o ≡ get_or ops i o
    → Walked ops rs i → is_waiting rs (i + 1) (take i ops) o ≡ false → Walked ops rs (i + 1)
Walked-more ops rs i o h at walked w =
    let p = passes (i + 1) rs (take i ops) o walked.seen (drop (i + 1) ops) walked.names w in
    record {
      seen = p.seen';
      names = subst (Names p.seen') (ap (λ b. take i ops ++ b ∷ []) at ∙ sym (take_more ops i o h)) p.names;
      rest = p.rest ∙ ap (λ b. waiting_from (i + 1) walked.seen rs (b ∷ drop (i + 1) ops)) at ∙ ap (waiting_from (i + 1) walked.seen rs) (sym (drop_more ops i o h)) ∙ walked.rest;
    }
