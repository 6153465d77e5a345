-- How many versions does the chain of a key have, and how many keys have a chain?
use Rattle.std.proofs.Common.{◌≡◌, ◌≢◌, ◌≤◌, ◌+◌, ℕ, suc, inl, inr, Bool, true, false, ◌&&◌, ◌||◌, ◌⊎◌, List, [], ◌∷◌, Some, None, is_some, length, cond, refl, sym, ap, subst, ◌∙◌, arith, if◌then◌else◌}
use Rattle.std.proofs.lemmas.Bool.{cases_Bool, or_cases, or_left, or_right}
use Rattle.std.proofs.lemmas.Bool.Decides.{nat_tests}
use Rattle.std.proofs.lemmas.List.Folds.{list_any-append}
use Rattle.std.specs.Prelude.{◌==◌}
use Rattle.std.specs.Ordering.{nat_cmp, eq_by_cmp, is_eq}
use Rattle.std.specs.Cmp.Lexicographic.{slice_cmp, nat_list_cmp_total, texts_ties}
use Rattle.score_base.specs.declared.ids.TxId.{TxId}
use Rattle.score_base.specs.declared.ids.NodeId.{NodeId}
use Rattle.score_base.specs.declared.ids.Ident.{Ident}
use Rattle.score_base.specs.declared.ids.Value.{Value}
use Rattle.score_base.specs.declared.keys.Key.{Key}
use Rattle.score_base.specs.declared.records.Record.{Record}
use Rattle.placement.specs.Clusters.{ClusterData}
use Rattle.stable_queue.specs.Commits.{Commits}
use Rattle.version_chain.specs.Versions.{RisesFrom}
use Rattle.version_chain.specs.Kept.{Kept, place_of, versions_of, AreTwoLookups}
use Rattle.script_lang.specs.Reads.{is_key_among, distinct_keys}
use Rattle.script_lang.proofs.KeyLists.{same_key-is, same_key-self}
use Rattle.score_base.specs.Keys.{same_key}
use Rattle.score_base.specs.Tables.{IsRising}
use Rattle.score_base.proofs.TableMaps.{rising_rest, find_absent}
use Rattle.journal_words.specs.Journals.{prepared_of, applied, wrote_in, keys_of_writes}
use Rattle.journal_words.proofs.Pairs.{has_pair}
use Rattle.grid_store.specs.Given.{writers_among, times_written, writes_of, all_keys, keys_written}
use Rattle.grid_store.specs.Keeping.{KeepsStable}
use Rattle.grid_store.specs.Chained.{has_version, KeepsChains, KeepsKeys}
use Rattle.grid_store.proofs.ChainReads.{above-first, put-applied}

-- one of these commits is at f
abbrev has_final : Ident → List (TxId × Ident) → Bool
has_final f [] = false
has_final f (x ∷ xs) = (x.1 == f) || has_final f xs

-- these commits but for the first one at f
abbrev without_one : Ident → List (TxId × Ident) → List (TxId × Ident)
without_one f [] = []
without_one f (x ∷ xs) = if x.1 == f then xs else x ∷ without_one f xs

one-less : (f : Ident) (xs : List (TxId × Ident)) → has_final f xs ≡ true → length xs ≡ length (without_one f xs) + 1
one-less f [] h = absurd (grind (arith, h))
one-less f (x ∷ xs) h = go (x.1 == f) (one-less f xs) h
  where
    go : (b : Bool) → (has_final f xs ≡ true → length xs ≡ length (without_one f xs) + 1)
        → (b || has_final f xs) ≡ true → length (x ∷ xs) ≡ length (if b then xs else x ∷ without_one f xs) + 1
    go true more h = omega arith
    go false more h = (let rest = more h in omega (arith, rest))

still-there : (f g : Ident) (xs : List (TxId × Ident)) → f ≢ g → has_final g xs ≡ true
    → has_final g (without_one f xs) ≡ true
still-there f g [] ne h = absurd (grind (arith, h))
still-there f g (x ∷ xs) ne h = go (x.1 == f) refl (still-there f g xs ne) (or_cases (x.1 == g) (has_final g xs) h)
  where
    go : (b : Bool) → x.1 == f ≡ b → (has_final g xs ≡ true → has_final g (without_one f xs) ≡ true)
        → (x.1 == g ≡ true) ⊎ (has_final g xs ≡ true) → has_final g (if b then xs else x ∷ without_one f xs) ≡ true
    go true e rest (inl here) = absurd (let a : x.1 ≡ f = grind (arith, nat_tests, e) in let b : x.1 ≡ g = grind (arith, nat_tests, here) in ne (sym a ∙ b))
    go true e rest (inr more) = more
    go false e rest (inl here) = or_left (x.1 == g) (has_final g (without_one f xs)) here
    go false e rest (inr more) = or_right (x.1 == g) (has_final g (without_one f xs)) (rest more)

-- a rising list of versions, each at one of these commits, is no longer than they
no-longer : (n : ℕ) (vs : List (ℕ × ℕ)) (xs : List (TxId × Ident)) → RisesFrom n vs
    → ((f v : ℕ) → has_version f v vs ≡ true → has_final f xs ≡ true) → length vs ≤ length xs
no-longer n [] xs up each = omega arith
no-longer n (v ∷ vs) xs up each =
    let here = each v.0 v.1 (grind (arith, nat_tests)) in
    let rest = no-longer v.0 vs (without_one v.0 xs) up.1 (λ f w h.
    (let low = above-first v.0 vs f w up.1 h in
    still-there v.0 f xs (λ same. absurd (omega (arith, low, same))) (each f w (or_right (v.0 == f && v.1 == w) (has_version f w vs) h)))) in
    let one = one-less v.0 xs here in
    omega (arith, rest, one)

writer-final : (r : List Record) (k : Key) (t : TxId) (f : Ident) (v : Value) (xs : List (TxId × Ident))
    → has_pair t f xs ≡ true → wrote_in (prepared_of t r) k ≡ Some v → has_final f (writers_among r k xs) ≡ true
writer-final r k t f v [] h w = absurd (grind (arith, h))
writer-final r k t f v (x ∷ xs) h w = elim (or_cases (x.0 == t && x.1 == f) (has_pair t f xs) h) [
  | inl here ↦
      let t' : x.0 ≡ t = grind (arith, nat_tests, here) in
      let f' : x.1 == f ≡ true = grind (arith, nat_tests, here) in
      let wrote : is_some (wrote_in (prepared_of x.0 r) k) ≡ true = rw (t', w) refl in
      rw wrote (or_left (x.1 == f) (has_final f (writers_among r k xs)) f')
  | inr more ↦ go (is_some (wrote_in (prepared_of x.0 r) k)) (writer-final r k t f v xs more w)
]
  where
    go : (b : Bool) → has_final f (writers_among r k xs) ≡ true
        → has_final f (if b then x ∷ writers_among r k xs else writers_among r k xs) ≡ true
    go true h = or_right (x.1 == f) (has_final f (writers_among r k xs)) h
    go false h = h

pub chain-count : (c : ClusterData) (n : NodeId) (s : Commits) (kept : Kept) (r : List Record) (k : Key)
    → KeepsStable s r → KeepsChains s kept r → RisesFrom 0 (versions_of k kept)
    → length (versions_of k kept) ≤ times_written r k
chain-count c n s kept r k stable chains up = no-longer 0 (versions_of k kept) (writers_among r k (applied r)) up (λ f v h.
    (let w = chains.known k f v h in
    writer-final r k w.0 f v (applied r) (put-applied c n s r k w.0 f v stable w.1) w.1.wrote))

-- a look-up among fewer costs no more
pub lookups-more : (m m' n n' steps : ℕ) → m ≤ m' → n ≤ n' → AreTwoLookups m n steps → AreTwoLookups m' n' steps
lookups-more m m' n n' steps le le' a = record {
  keys = a.keys;
  versions = a.versions;
  all = a.all;
  among_keys = (let h = a.among_keys in omega (arith, h, le));
  among_versions = (let h = a.among_versions in omega (arith, h, le'));
}

-- ---- how many keys have a chain

-- these keys but for the first that is x
abbrev without_key : Key → List Key → List Key
without_key x [] = []
without_key x (y ∷ ys) = if same_key x y then ys else y ∷ without_key x ys

key-less : (x : Key) (ys : List Key) → is_key_among x ys ≡ true → length ys ≡ length (without_key x ys) + 1
key-less x [] h = absurd (grind (arith, h))
key-less x (y ∷ ys) h = go (same_key x y) (key-less x ys) h
  where
    go : (b : Bool) → (is_key_among x ys ≡ true → length ys ≡ length (without_key x ys) + 1)
        → (b || is_key_among x ys) ≡ true
        → length (y ∷ ys) ≡ length (if b then ys else y ∷ without_key x ys) + 1
    go true more h = omega arith
    go false more h = (let rest = more h in omega (arith, rest))

key-there : (x k : Key) (ys : List Key) → same_key k x ≡ false → is_key_among k ys ≡ true
    → is_key_among k (without_key x ys) ≡ true
key-there x k [] ne h = absurd (grind (arith, h))
key-there x k (y ∷ ys) ne h = go (same_key x y) refl (key-there x k ys ne) (or_cases (same_key k y) (is_key_among k ys) h)
  where
    go : (b : Bool) → same_key x y ≡ b → (is_key_among k ys ≡ true → is_key_among k (without_key x ys) ≡ true)
        → (same_key k y ≡ true) ⊎ (is_key_among k ys ≡ true)
        → is_key_among k (if b then ys else y ∷ without_key x ys) ≡ true
    go true e rest (inl here) = absurd (
        let is : x ≡ y = same_key-is x y e in
        let bad : same_key k x ≡ true = ap (same_key k) is ∙ here in
        grind (arith, ne, bad))
    go true e rest (inr more) = more
    go false e rest (inl here) = or_left (same_key k y) (is_key_among k (without_key x ys)) here
    go false e rest (inr more) = or_right (same_key k y) (is_key_among k (without_key x ys)) (rest more)

-- a table in rising order whose keys are all in a list is no longer than it
no-more-keys : (ps : List (Key × ℕ)) (ks : List Key) → IsRising (slice_cmp nat_cmp) ps
    → ((k : Key) → is_some (place_of k ps) ≡ true → is_key_among k ks ≡ true) → length ps ≤ length ks
no-more-keys [] ks up each = omega arith
no-more-keys (p ∷ ps) ks up each =
    let there : is_key_among p.0 ks ≡ true = each p.0 (rw own refl) in
    let one = key-less p.0 ks there in
    let rest = no-more-keys ps (without_key p.0 ks) (rising_rest (slice_cmp nat_cmp) p ps up) (λ k h.
    key-there p.0 k ks (other k h) (each k (later k h))) in
    omega (arith, one, rest)
  where
    own : eq_by_cmp (slice_cmp nat_cmp) p.0 p.0 ≡ true
    own = sym (texts_ties p.0 p.0) ∙ same_key-self p.0

    absent : place_of p.0 ps ≡ None
    absent = find_absent nat_list_cmp_total ps p.0 (λ j d within. ap is_eq (up 0 (suc j) d (omega arith) (omega (arith, within))))

    other : (k : Key) → is_some (place_of k ps) ≡ true → same_key k p.0 ≡ false
    other k h = elim (cases_Bool (same_key k p.0)) [
      | inl same ↦ absurd (
          let none : place_of k ps ≡ None = subst (λ (l : Key). place_of l ps ≡ None) (sym (same_key-is k p.0 same)) absent in
          let bad : true ≡ false = sym h ∙ ap is_some none in
          cc)
      | inr ne ↦ ne
    ]

    later : (k : Key) → is_some (place_of k ps) ≡ true → is_some (place_of k (p ∷ ps)) ≡ true
    later k h = go (eq_by_cmp (slice_cmp nat_cmp) k p.0)
      where
        go : (b : Bool) → is_some (cond b (Some p.1) (place_of k ps)) ≡ true
        go true = refl
        go false = h

-- a key is among the distinct ones of a list where it is in the list
among-distinct : (k : Key) (seen ks : List Key) → is_key_among k seen ≡ false → is_key_among k ks ≡ true
    → is_key_among k (distinct_keys seen ks) ≡ true
among-distinct k seen [] new h = absurd (grind (arith, h))
among-distinct k seen (x ∷ xs) new h =
    go (is_key_among x seen) refl (among-distinct k seen xs new)
    (λ ne. among-distinct k (x ∷ seen) xs (rw (ne, new) refl)) (or_cases (same_key k x) (is_key_among k xs) h)
  where
    go : (b : Bool) → is_key_among x seen ≡ b
        → (is_key_among k xs ≡ true → is_key_among k (distinct_keys seen xs) ≡ true)
        → (same_key k x ≡ false → is_key_among k xs ≡ true → is_key_among k (distinct_keys (x ∷ seen) xs) ≡ true)
        → (same_key k x ≡ true) ⊎ (is_key_among k xs ≡ true)
        → is_key_among k (if b then distinct_keys seen xs else x ∷ distinct_keys (x ∷ seen) xs) ≡ true
    go true e kept more (inl here) = absurd (
        let is : k ≡ x = same_key-is k x here in
        let bad : is_key_among k seen ≡ true = subst (λ (l : Key). is_key_among l seen ≡ true) (sym is) e in
        grind (arith, new, bad))
    go true e kept more (inr later) = kept later
    go false e kept more (inl here) = or_left (same_key k x) (is_key_among k (distinct_keys (x ∷ seen) xs)) here
    go false e kept more (inr later) = elim (cases_Bool (same_key k x)) [
      | inl same ↦ or_left (same_key k x) (is_key_among k (distinct_keys (x ∷ seen) xs)) same
      | inr ne ↦ or_right (same_key k x) (is_key_among k (distinct_keys (x ∷ seen) xs)) (more ne later)
    ]

-- no more keys have a chain than the records write
pub keys-count : (places : List (Key × ℕ)) (r : List Record) → IsRising (slice_cmp nat_cmp) places → KeepsKeys places r
    → length places ≤ length (keys_written r)
keys-count places r up keeps =
    no-more-keys places (keys_written r) up (λ k h. among-distinct k [] (all_keys r) refl (sym (keeps k) ∙ h))

-- behind one more record
pub keys-behind : (old new : List (Key × ℕ)) (x : Record) (r : List Record)
    → ((k : Key) → is_some (place_of k new) ≡ (is_key_among k (keys_of_writes (writes_of x)) || is_some (place_of k old)))
    → KeepsKeys old r → KeepsKeys new (x ∷ r)
keys-behind old new x r more keeps k =
    more k ∙ ap (λ b. is_key_among k (keys_of_writes (writes_of x)) || b) (keeps k)
    ∙ sym (list_any-append (same_key k) (keys_of_writes (writes_of x)) (all_keys r))
