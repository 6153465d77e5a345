-- What a key's chain answers is the version that the records say.
use Rattle.std.proofs.Common.{◌≡◌, ◌≤◌, ◌<◌, ◌+◌, ℕ, inl, inr, Bool, true, false, ◌&&◌, List, [], ◌∷◌, Some, refl, sym, ap, subst, ◌∙◌, arith, if◌then◌else◌}
use Rattle.std.proofs.lemmas.Bool.{or_cases}
use Rattle.std.proofs.lemmas.Bool.Decides.{nat_tests}
use Rattle.std.specs.Prelude.{◌==◌, nat_lt, nat_le}
use Rattle.score_base.specs.declared.ids.TxId.{TxId}
use Rattle.score_base.specs.declared.ids.NodeId.{NodeId}
use Rattle.score_base.specs.declared.ids.Ident.{Ident}
use Rattle.score_base.specs.declared.ids.Value.{Value}
use Rattle.score_base.specs.declared.keys.Key.{Key}
use Rattle.score_base.specs.declared.records.Record.{Record}
use Rattle.placement.specs.Clusters.{ClusterData}
use Rattle.stable_queue.specs.Commits.{Commits}
use Rattle.version_chain.specs.Versions.{RisesFrom, newest_in_chain, greater, version_in_chain}
use Rattle.version_chain.specs.Kept.{Kept, versions_of}
use Rattle.journal_words.specs.declared.versions.Version.{Version}
use Rattle.journal_words.specs.Journals.{prepared_of, applied, wrote_in, up_to, version_at, newest, all_fit}
use Rattle.journal_words.proofs.Pairs.{has_pair}
use Rattle.journal_words.proofs.Applied.{applied-says, says-applied}
use Rattle.journal_words.proofs.Bests.{best_of, writer, best-is, best-bound, best-one, IsOneOf, initial, written, IsAtMost}
use Rattle.journal_words.proofs.Readable.{up_to-says, says-up_to, version-is}
use Rattle.journal_words.proofs.Stands.{final-positive}
use Rattle.grid_store.specs.Keeping.{KeepsStable}
use Rattle.grid_store.specs.Chained.{has_version, IsWritten, KeepsChains}
use Rattle.grid_store.proofs.StableSteps.{not-waiting, applied-not}

-- ---- a rising list of versions

pub above-first : (n : ℕ) (vs : List (ℕ × ℕ)) (f v : ℕ) → RisesFrom n vs → has_version f v vs ≡ true → n < f
above-first n [] f v up h = absurd (grind (arith, h))
above-first n (x ∷ xs) f v up h = elim (or_cases (x.0 == f && x.1 == v) (has_version f v xs) h) [
  | inl here ↦ (let up' = up.0 in grind (arith, nat_tests, here, up'))
  | inr more ↦ (let rest = above-first x.0 xs f v up.1 more in let up' = up.0 in omega (arith, rest, up'))
]

-- an identifier has one version
pub one-version : (n : ℕ) (vs : List (ℕ × ℕ)) (f v w : ℕ) → RisesFrom n vs → has_version f v vs ≡ true → has_version f w vs ≡ true → v ≡ w
one-version n [] f v w up h k = absurd (grind (arith, h))
one-version n (x ∷ xs) f v w up h k = elim (or_cases (x.0 == f && x.1 == v) (has_version f v xs) h) [
  | inl here ↦ elim (or_cases (x.0 == f && x.1 == w) (has_version f w xs) k) [
    | inl here' ↦ grind (arith, nat_tests, here, here')
    | inr more' ↦ absurd (let low = above-first x.0 xs f w up.1 more' in grind (arith, nat_tests, here, low))
  ]
  | inr more ↦ elim (or_cases (x.0 == f && x.1 == w) (has_version f w xs) k) [
    | inl here' ↦ absurd (let low = above-first x.0 xs f v up.1 more in grind (arith, nat_tests, here', low))
    | inr more' ↦ one-version x.0 xs f v w up.1 more more'
  ]
]

-- the read is the initial value, or one of the versions
pub data IsSeen (start : Value) (vs : List (ℕ × ℕ)) (sid : Ident) (b : ℕ × ℕ) : Type 0 where
  first : b ≡ (0, start) → IsSeen start vs sid b
  put : has_version b.0 b.1 vs ≡ true → b.0 ≤ sid → IsSeen start vs sid b

seen-more : (start : Value) (x : ℕ × ℕ) (vs : List (ℕ × ℕ)) (sid : Ident) (b : ℕ × ℕ) → IsSeen start vs sid b → IsSeen start (x ∷ vs) sid b
seen-more start x vs sid b (first e) = first e
seen-more start x vs sid b (put h le) = put (grind (arith, h)) le

pub seen-one : (start : Value) (vs : List (ℕ × ℕ)) (sid : Ident) → IsSeen start vs sid (version_in_chain start vs sid)
seen-one start [] sid = first refl
seen-one start (x ∷ xs) sid = go (nat_le x.0 sid) refl (seen-one start xs sid)
  where
    choose : (b : Bool) → x.0 ≤ sid → IsSeen start xs sid (version_in_chain start xs sid) → IsSeen start (x ∷ xs) sid (if b then version_in_chain start xs sid else x)
    choose true le s = seen-more start x xs sid _ s
    choose false le s = put (grind (arith, nat_tests)) le

    go : (b : Bool) → nat_le x.0 sid ≡ b → IsSeen start xs sid (version_in_chain start xs sid) → IsSeen start (x ∷ xs) sid (if b then greater x (version_in_chain start xs sid) else version_in_chain start xs sid)
    go true e s = choose (nat_lt x.0 (version_in_chain start xs sid).0) (grind (arith, nat_tests, e)) s
    go false e s = seen-more start x xs sid _ s

-- each version up to the identifier is at most what is seen
pub seen-bound : (start : Value) (vs : List (ℕ × ℕ)) (sid f v : ℕ) → has_version f v vs ≡ true → f ≤ sid → f ≤ (version_in_chain start vs sid).0
seen-bound start [] sid f v h le = absurd (grind (arith, h))
seen-bound start (x ∷ xs) sid f v h le = elim (or_cases (x.0 == f && x.1 == v) (has_version f v xs) h) [
  | inl here ↦ grind (arith, nat_tests, here, le)
  | inr more ↦ (let rest = seen-bound start xs sid f v more le in grind (arith, nat_tests, rest))
]

-- the newest is 0, or the identifier of a version, and each is at most it
pub newest-bound : (vs : List (ℕ × ℕ)) (f v : ℕ) → has_version f v vs ≡ true → f ≤ newest_in_chain vs
newest-bound [] f v h = absurd (grind (arith, h))
newest-bound (x ∷ xs) f v h = elim (or_cases (x.0 == f && x.1 == v) (has_version f v xs) h) [
  | inl here ↦ grind (arith, nat_tests, here)
  | inr more ↦ (let rest = newest-bound xs f v more in omega (arith, rest))
]

-- each version below p, and p above 0: the newest is below p
pub newest-below : (vs : List (ℕ × ℕ)) (p : ℕ) → 0 < p → ((f v : ℕ) → has_version f v vs ≡ true → f < p) → newest_in_chain vs < p
newest-below [] p some each = some
newest-below (x ∷ xs) p some each =
    let rest = newest-below xs p some (λ f v h. each f v (grind (arith, h))) in
    let here = each x.0 x.1 (grind (arith, nat_tests)) in
    omega (arith, rest, here)

-- ---- the version that the records say

-- what is put is applied
pub put-applied : (c : ClusterData) (n : NodeId) (s : Commits) (r : List Record) (k : Key) (t : TxId) (f : Ident) (v : Value)
    → KeepsStable s r → IsWritten s r k t f v → has_pair t f (applied r) ≡ true
put-applied c n s r k t f v stable w = says-applied t f r w.committed (not-waiting s r t f stable w.committed w.out)

-- and what is applied and wrote is put
applied-written : (c : ClusterData) (n : NodeId) (s : Commits) (r : List Record) (k : Key) (t : TxId) (f : Ident) (v : Value)
    → all_fit c n r ≡ true → KeepsStable s r → has_pair t f (applied r) ≡ true → wrote_in (prepared_of t r) k ≡ Some v → IsWritten s r k t f v
applied-written c n s r k t f v fit stable h w =
    let a = applied-says c n t f r fit h in
    record { committed = a.committed; out = applied-not s r t f stable a.committed a.clear; wrote = w }

pub chain-reads : (c : ClusterData) (n : NodeId) (s : Commits) (kept : Kept) (r : List Record) (k : Key) (start : Value) (sid : Ident)
    → all_fit c n r ≡ true → KeepsStable s r → KeepsChains s kept r → RisesFrom 0 (versions_of k kept)
    → (let seen = version_at r k start sid in version_in_chain start (versions_of k kept) sid ≡ (seen.ident, seen.value))
chain-reads c n s kept r k start sid fit stable chains up =
    go (version_in_chain start vs sid) (version_at r k start sid) refl (version-is r k start sid)
    (seen-one start vs sid) (subst (IsOneOf (writer r k) start xs) (sym (version-is r k start sid)) (best-one (writer r k) start xs))
  where
    vs : List (ℕ × ℕ)
    vs = versions_of k kept

    xs : List (TxId × Ident)
    xs = up_to sid (applied r)

    -- what was put up to sid is at most the best
    low : (f v : ℕ) → has_version f v vs ≡ true → f ≤ sid → (t : TxId) × (has_pair t f xs ≡ true) × (wrote_in (prepared_of t r) k ≡ Some v) × (1 ≤ f)
    low f v h le =
        let w = chains.known k f v h in
        let a = put-applied c n s r k w.0 f v stable w.1 in
        (w.0, says-up_to sid w.0 f r (record { applied = a; most = le }), w.1.wrote, final-positive c n w.0 f r fit w.1.committed)

    high : (t : TxId) (f : Ident) (v : Value) → has_pair t f xs ≡ true → wrote_in (prepared_of t r) k ≡ Some v → (has_version f v vs ≡ true) × (f ≤ sid) × (1 ≤ f)
    high t f v h w =
        let a = up_to-says sid t f r h in
        let is = applied-written c n s r k t f v fit stable a.applied w in
        (chains.has k t f v is, a.most, final-positive c n t f r fit is.committed)

    go : (a : ℕ × ℕ) (b : Version) → version_in_chain start vs sid ≡ a → b ≡ best_of (writer r k) start xs → IsSeen start vs sid (version_in_chain start vs sid) → IsOneOf (writer r k) start xs b → a ≡ (b.ident, b.value)
    go a b ea eb (first e) (initial e') = sym ea ∙ e ∙ sym (ap (λ (z : Version). (z.ident, z.value)) e')
    go a b ea eb (first e) (written u f v h w is) = absurd (
        let x = high u f v h w in
        let most = seen-bound start vs sid f v x.0 x.1 in
        let zero : (version_in_chain start vs sid).0 ≡ 0 = ap (λ p. p.0) e in
        let some = x.2 in
        omega (arith, most, zero, some))
    go a b ea eb (put h le) (initial e') = absurd (
        let x = low _ _ h le in
        let most : IsAtMost (version_in_chain start vs sid).0 x.0 b = rw (← eb) at (best-bound (writer r k) start x.0 (version_in_chain start vs sid).0 (version_in_chain start vs sid).1 xs x.1 x.2) in
        let most' = rw e' at most in
        let some = x.3 in
        grind (arith, most', some))
    go a b ea eb (put h le) (written u f v h' w is) =
        let x = high u f v h' w in
        let y = low _ _ h le in
        let most = seen-bound start vs sid f v x.0 x.1 in
        let most' : IsAtMost (version_in_chain start vs sid).0 y.0 b = rw (← eb) at (best-bound (writer r k) start y.0 (version_in_chain start vs sid).0 (version_in_chain start vs sid).1 xs y.1 y.2) in
        let most'' = rw is at most' in
        let same : (version_in_chain start vs sid).0 ≡ f = grind (arith, most, most'') in
        let there : has_version f (version_in_chain start vs sid).1 vs ≡ true = subst (λ g. has_version g (version_in_chain start vs sid).1 vs ≡ true) same h in
        let value : (version_in_chain start vs sid).1 ≡ v = one-version 0 vs f (version_in_chain start vs sid).1 v up there x.0 in
        sym ea ∙ pair (version_in_chain start vs sid) f v same value ∙ sym (ap (λ (z : Version). (z.ident, z.value)) is)
      where
        pair : (p : ℕ × ℕ) (f v : ℕ) → p.0 ≡ f → p.1 ≡ v → p ≡ (f, v)
        pair p f v e e' = ap (λ (x : ℕ). (x, p.1)) e ∙ ap (λ (y : ℕ). (f, y)) e'

pub chain-newest : (c : ClusterData) (n : NodeId) (s : Commits) (kept : Kept) (r : List Record) (k : Key)
    → all_fit c n r ≡ true → KeepsStable s r → KeepsChains s kept r → newest_in_chain (versions_of k kept) ≡ newest r k
chain-newest c n s kept r k fit stable chains = omega (arith, low, high)
  where
    vs : List (ℕ × ℕ)
    vs = versions_of k kept

    is : newest r k ≡ (best_of (writer r k) 0 (applied r)).ident
    is = ap (λ (x : Version). x.ident) (best-is r k 0 (applied r))

    below : (f v : ℕ) → has_version f v vs ≡ true → f < 1 + newest r k
    below f v h =
        let w = chains.known k f v h in
        let b = best-bound (writer r k) 0 w.0 f v (applied r) (put-applied c n s r k w.0 f v stable w.1) w.1.wrote in
        grind (arith, b, is)

    low : newest_in_chain vs ≤ newest r k
    low = (let lt = newest-below vs (1 + newest r k) (omega arith) below in omega (arith, lt))

    from : (b : Version) → IsOneOf (writer r k) 0 (applied r) b → b.ident ≤ newest_in_chain vs
    from b (initial e) = (let z : b.ident ≡ 0 = ap (λ (x : Version). x.ident) e in omega (arith, z))
    from b (written t f v h w e) =
        let there = chains.has k t f v (applied-written c n s r k t f v fit stable h w) in
        let most = newest-bound vs f v there in
        let z : b.ident ≡ f = ap (λ (x : Version). x.ident) e in
        omega (arith, most, z)

    high : newest r k ≤ newest_in_chain vs
    high = (let m = from (best_of (writer r k) 0 (applied r)) (best-one (writer r k) 0 (applied r)) in omega (arith, m, is))
