-- Which commits wait behind one more record, and what is left when those that are applied were taken out?
use Prim.Native.Nat.{zero, suc}
use Rattle.std.proofs.Common.{ℕ, ◌≡◌, ◌≤◌, ◌<◌, ◌-◌, ◌∷◌, inl, inr, ◌⊎◌, max, nat_eq, Bool, true, false, not, ◌&&◌, ◌||◌, List, [], Option, Some, None, is_some, refl, sym, ap, subst, ◌∙◌, arith, if◌then◌else◌}
use Rattle.std.proofs.lemmas.Bool.{cases_eq, cases_Bool, and_parts, or_cases}
use Rattle.std.proofs.lemmas.Bool.Decides.{nat_tests}
use Rattle.std.specs.Prelude.{◌==◌, nat_lt}
use Rattle.std.specs.Ordering.{nat_cmp, eq_by_cmp}
use Rattle.std.specs.Cmp.{unsigned_tied, both_tied}
use Rattle.std.specs.FinSet as set
use Rattle.score_base.specs.declared.ids.TxId.{TxId}
use Rattle.score_base.specs.declared.ids.NodeId.{NodeId}
use Rattle.score_base.specs.declared.ids.Ident.{Ident}
use Rattle.score_base.specs.declared.ids.Value.{Value}
use Rattle.score_base.specs.declared.keys.Key.{Key}
use Rattle.score_base.specs.declared.causes.Outcome.{Outcome}
use Rattle.score_base.specs.declared.causes.Outcome.TheVariants as outcome
use Rattle.score_base.specs.declared.records.Record.{Record}
use Rattle.score_base.specs.declared.records.Record.TheVariants as record'
use Rattle.placement.specs.Clusters.{ClusterData}
use Rattle.lock_table.specs.Keys.{Held, holds_lock, writes_key}
use Rattle.stable_queue.specs.Commits.{Commits, Queue, by_final}
use Rattle.stable_queue.proofs.Members.{by_final_total}
use Rattle.journal_words.specs.Journals.{prepared_of, pending, ended, is_clear, applied, greatest, commit_id, is_unapplied, is_locking, fits, all_fit}
use Rattle.journal_words.proofs.Fits.{prepared-fits, outcome-fits, newest-fits}
use Rattle.journal_words.proofs.Floors.{above-final}
use Rattle.journal_words.proofs.Once.{ended-first, ended-over}
use Rattle.journal_words.proofs.Pendings.{clear-more}
use Rattle.journal_words.proofs.Pairs.{has_pair}
use Rattle.journal_words.proofs.Applied.{applied-says, says-applied, greatest-one}
use Rattle.grid_store.specs.Keeping.{names, writes_to, is_final, is_waiting, is_holding, KeepsStable, KeepsLocks, KeepsApplied, CanWait, Settles}

-- ---- the set of commits

same_commit : (m n : ℕ × ℕ) → eq_by_cmp by_final m n ≡ (nat_eq m.0 n.0 && nat_eq m.1 n.1)
same_commit m n = sym (both_tied _ _ (nat_cmp m.0 n.0) (nat_cmp m.1 n.1) (sym (unsigned_tied m.0 n.0)) (sym (unsigned_tied m.1 n.1)))

pub has-added : (s : Commits) (f g : Ident) (t u : TxId) → set.contains (set.insert s (f, t)) (g, u) ≡ ((nat_eq g f && nat_eq u t) || set.contains s (g, u))
has-added s f g t u = set.contains-insert by_final_total s (f, t) (g, u) ∙ ap (λ b. b || set.contains s (g, u)) (same_commit (g, u) (f, t))

pub has-left : (s : Commits) (f g : Ident) (t u : TxId) → set.contains (set.remove s (f, t)) (g, u) ≡ (not (nat_eq g f && nat_eq u t) && set.contains s (g, u))
has-left s f g t u = set.contains-remove by_final_total s (f, t) (g, u) ∙ ap (λ b. not b && set.contains s (g, u)) (same_commit (g, u) (f, t))

-- ---- where the queue has what is not applied

final-is : (f : Ident) (o : Option Outcome) → is_final f o ≡ true → o ≡ Some (outcome.Commit f)
final-is f None h = absurd (grind (arith, h))
final-is f (Some outcome.Abort) h = absurd (grind (arith, h))
final-is f (Some (outcome.Commit g)) h = (let is : g ≡ f = grind (arith, nat_tests, h) in ap (λ x. Some (outcome.Commit x)) is)

pub is-final : (f : Ident) → is_final f (Some (outcome.Commit f)) ≡ true
is-final f = grind (arith, nat_tests)

-- who waits is who is not applied
waiting-is : (s : Commits) (r : List Record) (u : TxId) → KeepsStable s r → is_waiting s u (ended u r) ≡ is_unapplied (ended u r) r
waiting-is s r u k = go (ended u r) refl
  where
    go : (o : Option Outcome) → ended u r ≡ o → is_waiting s u o ≡ is_unapplied o r
    go None e = refl
    go (Some outcome.Abort) e = refl
    go (Some (outcome.Commit f)) e = k f u ∙ rw (e, is-final f) refl

-- who is pending or waits is who locks
pub holding-is : (s : Commits) (r : List Record) (u : TxId) → KeepsStable s r → is_holding s u r ≡ is_locking u r
holding-is s r u k = ap (λ b. is_some (pending u r) || b) (waiting-is s r u k)

pub keeps-settles : (s : Commits) (held : Held) (top : Ident) (r : List Record) → KeepsApplied s top r → KeepsStable s r → KeepsLocks held r → Settles s held top r
keeps-settles s held top r a k l = record {
  applied = a;
  known = λ f t h. final-is f (ended t r) (and_parts (is_final f (ended t r)) (not (is_clear f r)) (sym (k f t) ∙ h)).0;
  waits = λ f t e clear. k f t ∙ rw (e, is-final f, clear) refl;
  keys = λ u x. l.keys u x ∙ ap (λ b. b && names (prepared_of u r) x) (sym (holding-is s r u k));
  written = λ u x. l.written u x ∙ ap (λ b. b && writes_to (prepared_of u r) x) (sym (holding-is s r u k));
}

-- ---- the commit identifier

greatest-most : (t : TxId) (f : Ident) (xs : List (TxId × Ident)) → has_pair t f xs ≡ true → f ≤ greatest xs
greatest-most t f [] h = absurd (grind (arith, h))
greatest-most t f (x ∷ xs) h = elim (or_cases (x.0 == t && x.1 == f) (has_pair t f xs) h) [
  | inl here ↦ (let e = (and_parts (x.0 == t) (x.1 == f) here).1 in grind (arith, nat_tests, e))
  | inr later ↦ (let le = greatest-most t f xs later in omega (arith, le))
]

-- who ended with commit and does not wait is applied
pub not-waiting : (s : Commits) (r : List Record) (t : TxId) (f : Ident) → KeepsStable s r → ended t r ≡ Some (outcome.Commit f) → set.contains s (f, t) ≡ false → is_clear f r ≡ true
not-waiting s r t f k e h = go (is_clear f r) refl
  where
    go : (b : Bool) → is_clear f r ≡ b → b ≡ true
    go true x = refl
    go false x = absurd (let w : set.contains s (f, t) ≡ true = k f t ∙ rw (e, is-final f, x) refl in grind (arith, w, h))

-- and who is applied does not wait
pub applied-not : (s : Commits) (r : List Record) (t : TxId) (f : Ident) → KeepsStable s r → ended t r ≡ Some (outcome.Commit f) → is_clear f r ≡ true → set.contains s (f, t) ≡ false
applied-not s r t f k e clear = k f t ∙ rw (e, is-final f, clear) refl

pub top-applied : (c : ClusterData) (n : NodeId) (s : Commits) (top : Ident) (r : List Record) → all_fit c n r ≡ true → KeepsStable s r → top ≡ commit_id r → KeepsApplied s top r
top-applied c n s top r fit k is = record {
  most = λ f t e h. subst (λ x. f ≤ x) (sym is) (greatest-most t f (applied r) (says-applied t f r e (not-waiting s r t f k e h)));
  one = subst One (sym is) (elim (greatest-one (applied r)) [
    | inl none ↦ inl none
    | inr some ↦ (let a = applied-says c n some.0 (commit_id r) r fit some.1 in inr (some.0, a.committed, applied-not s r some.0 (commit_id r) k a.committed a.clear))
  ]);
}
  where
    One : Ident → Type 0
    One x = (x ≡ 0) ⊎ ((t : TxId) × (ended t r ≡ Some (outcome.Commit x)) × (set.contains s (x, t) ≡ false))

applied-top : (c : ClusterData) (n : NodeId) (s : Commits) (top : Ident) (r : List Record) → all_fit c n r ≡ true → KeepsStable s r → KeepsApplied s top r → top ≡ commit_id r
applied-top c n s top r fit k a = omega (arith, low, high)
  where
    low : top ≤ commit_id r
    low = elim a.one [
      | inl none ↦ omega (arith, none)
      | inr some ↦ greatest-most some.0 top (applied r) (says-applied some.0 top r some.1 (not-waiting s r some.0 top k some.1 some.2))
    ]

    high : commit_id r ≤ top
    high = elim (greatest-one (applied r)) [
      | inl none ↦ (let e : commit_id r ≡ 0 = none in omega (arith, e))
      | inr some ↦ (let x = applied-says c n some.0 (commit_id r) r fit some.1 in a.most (commit_id r) some.0 x.committed (applied-not s r some.0 (commit_id r) k x.committed x.clear))
    ]

-- where no commit that waits is applied, the queue has what is not applied, and the locks are those of who locks
pub settled : (c : ClusterData) (n : NodeId) (s : Commits) (held : Held) (top : Ident) (r : List Record) → all_fit c n r ≡ true → Settles s held top r → ((f : Ident) (t : TxId) → set.contains s (f, t) ≡ true → is_clear f r ≡ false) → KeepsStable s r × (top ≡ commit_id r) × KeepsLocks held r
settled c n s held top r fit st none = (
  keeps,
  applied-top c n s top r fit keeps st.applied,
  record {
    keys = λ u x. st.keys u x ∙ ap (λ b. b && names (prepared_of u r) x) (holding-is s r u keeps);
    written = λ u x. st.written u x ∙ ap (λ b. b && writes_to (prepared_of u r) x) (holding-is s r u keeps);
  },
)
  where
    both : (f : Ident) (t : TxId) (a b c : Bool) → set.contains s (f, t) ≡ a → is_final f (ended t r) ≡ b → is_clear f r ≡ c → a ≡ (b && not c)
    both f t true b c ea eb ec =
        let final : is_final f (ended t r) ≡ true = ap (is_final f) (st.known f t ea) ∙ is-final f in
        let not_clear = none f t ea in
        grind (arith, eb, ec, final, not_clear)
    both f t false true true ea eb ec = refl
    both f t false false c ea eb ec = refl
    both f t false true false ea eb ec = absurd (let w = st.waits f t (final-is f (ended t r) eb) ec in grind (arith, w, ea))

    keeps : KeepsStable s r
    keeps f t = both f t (set.contains s (f, t)) (is_final f (ended t r)) (is_clear f r) refl refl refl

-- ---- behind a record that ends nothing

pub stable-prepared : (c : ClusterData) (n : NodeId) (s : Commits) (r : List Record) (t : TxId) (home : NodeId) (parts : List NodeId) (sid p : Ident) (reads : List Key) (writes : List (Key × Value)) → fits c n r (record'.Prepared t home parts sid p reads writes) ≡ true → KeepsStable s r → KeepsStable s (record'.Prepared t home parts sid p reads writes ∷ r)
stable-prepared c n s r t home parts sid p reads writes fit k f u = k f u ∙ go (ended u r) refl
  where
    go : (o : Option Outcome) → ended u r ≡ o → (is_final f o && not (is_clear f r)) ≡ (is_final f o && not (nat_lt f p && is_clear f r))
    go None e = refl
    go (Some outcome.Abort) e = refl
    go (Some (outcome.Commit g)) e = elim (cases_eq g f) [
      | inl same ↦
          let lt = above-final p u g r (prepared-fits c n r t parts sid p reads writes fit).above e in
          let below : nat_lt f p ≡ true = grind (arith, nat_tests, lt, same) in
          rw below refl
      | inr other ↦ (let ne : g == f ≡ false = grind (arith, nat_tests) in rw ne refl)
    ]

-- ---- behind an Ended

-- who ended before ended otherwise than t
other-ended : (c : ClusterData) (n : NodeId) (r : List Record) (t u : TxId) (o : Outcome) (q : Outcome) → all_fit c n (record'.Ended t o ∷ r) ≡ true → ended u r ≡ Some q → t == u ≡ false
other-ended c n r t u o q fit e = elim (cases_eq t u) [
  | inl same ↦ absurd (
      let none : ended u r ≡ None = subst (λ (v : TxId). ended v r ≡ None) same (ended-first c n t o r fit) in
      let bad : Some q ≡ None = sym e ∙ none in
      cc)
  | inr ne ↦ grind (arith, nat_tests)
]

-- the queue and the locks behind an Ended of t: all others are as before
pub record Ends (t : TxId) (o : Outcome) (r : List Record) (s s' : Commits) (held held' : Held) : Type 0 where
  pub others : (g : Ident) (u : TxId) → t == u ≡ false → set.contains s' (g, u) ≡ set.contains s (g, u)
  pub own : (g : Ident) → set.contains s' (g, t) ≡ is_final g (Some o)
  pub keys : (u : TxId) (k : Key) → holds_lock held' u k ≡ ((not (t == u) || is_waiting s' t (Some o)) && holds_lock held u k)
  pub written : (u : TxId) (k : Key) → writes_key held' u k ≡ ((not (t == u) || is_waiting s' t (Some o)) && writes_key held u k)

pub ends-settles : (c : ClusterData) (n : NodeId) (r : List Record) (t : TxId) (o : Outcome) (s s' : Commits) (held held' : Held) (top : Ident) → all_fit c n (record'.Ended t o ∷ r) ≡ true → KeepsApplied s top r → KeepsStable s r → KeepsLocks held r → Ends t o r s s' held held' → Settles s' held' top (record'.Ended t o ∷ r)
ends-settles c n r t o s s' held held' top fit a k l e = record {
  applied = record { most = λ f u is out. most f u (t == u) refl is out; one = one a.one };
  known = λ f u h. known f u (t == u) refl h;
  waits = λ f u is clear. waits f u (t == u) refl is clear;
  keys = λ u x. keys u x (t == u) refl;
  written = λ u x. written u x (t == u) refl;
}
  where
    r' : List Record
    r' = record'.Ended t o ∷ r

    most : (f : Ident) (u : TxId) (b : Bool) → t == u ≡ b → (if b then Some o else ended u r) ≡ Some (outcome.Commit f) → set.contains s' (f, u) ≡ false → f ≤ top
    most f u true eq is out = absurd (
        let same : t ≡ u = grind (arith, nat_tests, eq) in
        let mine : set.contains s' (f, t) ≡ true = e.own f ∙ ap (is_final f) is ∙ is-final f in
        let there : set.contains s' (f, u) ≡ true = subst (λ (v : TxId). set.contains s' (f, v) ≡ true) same mine in
        grind (arith, there, out))
    most f u false eq is out = a.most f u is (sym (e.others f u eq) ∙ out)

    one : (top ≡ 0) ⊎ ((u : TxId) × (ended u r ≡ Some (outcome.Commit top)) × (set.contains s (top, u) ≡ false)) → (top ≡ 0) ⊎ ((u : TxId) × (ended u r' ≡ Some (outcome.Commit top)) × (set.contains s' (top, u) ≡ false))
    one (inl none) = inl none
    one (inr some) = (let ne = other-ended c n r t some.0 o (outcome.Commit top) fit some.1 in inr (some.0, rw ne some.1, e.others top some.0 ne ∙ some.2))

    known : (f : Ident) (u : TxId) (b : Bool) → t == u ≡ b → set.contains s' (f, u) ≡ true → (if b then Some o else ended u r) ≡ Some (outcome.Commit f)
    known f u true eq h =
        let same : t ≡ u = grind (arith, nat_tests, eq) in
        let mine : set.contains s' (f, t) ≡ true = subst (λ (v : TxId). set.contains s' (f, v) ≡ true) (sym same) h in
        final-is f (Some o) (sym (e.own f) ∙ mine)
    known f u false eq h = final-is f (ended u r) (and_parts (is_final f (ended u r)) (not (is_clear f r)) (sym (k f u) ∙ sym (e.others f u eq) ∙ h)).0

    unclear : (f : Ident) → is_clear f r' ≡ false → is_clear f r ≡ false
    unclear f h = go (is_clear f r) refl
      where
        go : (b : Bool) → is_clear f r ≡ b → b ≡ false
        go false x = refl
        go true x = absurd (let more = clear-more f (record'.Ended t o) r refl x in grind (arith, more, h))

    waits : (f : Ident) (u : TxId) (b : Bool) → t == u ≡ b → (if b then Some o else ended u r) ≡ Some (outcome.Commit f) → is_clear f r' ≡ false → set.contains s' (f, u) ≡ true
    waits f u true eq is clear =
        let same : t ≡ u = grind (arith, nat_tests, eq) in
        let mine : set.contains s' (f, t) ≡ true = e.own f ∙ ap (is_final f) is ∙ is-final f in
        subst (λ (v : TxId). set.contains s' (f, v) ≡ true) same mine
    waits f u false eq is clear = e.others f u eq ∙ k f u ∙ rw (is, is-final f, unclear f clear) refl

    same-waiting : (u : TxId) → t == u ≡ false → is_waiting s' u (ended u r) ≡ is_waiting s u (ended u r)
    same-waiting u eq = go (ended u r)
      where
        go : (q : Option Outcome) → is_waiting s' u q ≡ is_waiting s u q
        go None = refl
        go (Some outcome.Abort) = refl
        go (Some (outcome.Commit f)) = e.others f u eq

    locked : is_locking t r ≡ true
    locked = (let p = outcome-fits c n r t o (newest-fits c n (record'.Ended t o) r fit) in rw p.1 refl)

    keys : (u : TxId) (x : Key) (b : Bool) → t == u ≡ b → holds_lock held' u x ≡ ((is_some (if b then None else pending u r) || is_waiting s' u (if b then Some o else ended u r)) && names (prepared_of u r) x)
    keys u x true eq =
        let same : t ≡ u = grind (arith, nat_tests, eq) in
        let P : TxId → Type 0 = λ v. holds_lock held' v x ≡ (is_waiting s' v (Some o) && names (prepared_of v r) x) in
        let self : t == t ≡ true = grind (arith, nat_tests) in
        subst P same (e.keys t x ∙ rw (self, l.keys t x, locked) refl)
    keys u x false eq =
        e.keys u x ∙ rw (eq, l.keys u x, same-waiting u eq, holding-is s r u k) refl

    written : (u : TxId) (x : Key) (b : Bool) → t == u ≡ b → writes_key held' u x ≡ ((is_some (if b then None else pending u r) || is_waiting s' u (if b then Some o else ended u r)) && writes_to (prepared_of u r) x)
    written u x true eq =
        let same : t ≡ u = grind (arith, nat_tests, eq) in
        let P : TxId → Type 0 = λ v. writes_key held' v x ≡ (is_waiting s' v (Some o) && writes_to (prepared_of v r) x) in
        let self : t == t ≡ true = grind (arith, nat_tests) in
        subst P same (e.written t x ∙ rw (self, l.written t x, locked) refl)
    written u x false eq =
        e.written u x ∙ rw (eq, l.written u x, same-waiting u eq, holding-is s r u k) refl

-- an abort frees its own
pub ends-abort : (c : ClusterData) (n : NodeId) (r : List Record) (t : TxId) (s : Commits) (held held' : Held) → all_fit c n (record'.Ended t outcome.Abort ∷ r) ≡ true → KeepsStable s r → ((u : TxId) (k : Key) → holds_lock held' u k ≡ (not (u == t) && holds_lock held u k)) → ((u : TxId) (k : Key) → writes_key held' u k ≡ (not (u == t) && writes_key held u k)) → Ends t outcome.Abort r s s held held'
ends-abort c n r t s held held' fit k keys written = record {
  others = λ g u ne. refl;
  own = λ g. k g t ∙ rw (ended-first c n t outcome.Abort r fit) refl;
  keys = λ u x. keys u x ∙ turned u (holds_lock held u x);
  written = λ u x. written u x ∙ turned u (writes_key held u x);
}
  where
    turned : (u : TxId) (b : Bool) → (not (u == t) && b) ≡ ((not (t == u) || false) && b)
    turned u b = elim (cases_eq t u) [
      | inl same ↦ (let a : t == u ≡ true = grind (arith, nat_tests) in let a' : u == t ≡ true = grind (arith, nat_tests) in rw (a, a') refl)
      | inr ne ↦ (let a : t == u ≡ false = grind (arith, nat_tests) in let a' : u == t ≡ false = grind (arith, nat_tests) in rw (a, a') refl)
    ]

-- a commit waits
pub ends-commit : (c : ClusterData) (n : NodeId) (r : List Record) (t : TxId) (f : Ident) (s s' : Commits) (held : Held) → all_fit c n (record'.Ended t (outcome.Commit f) ∷ r) ≡ true → KeepsStable s r → s' ≡ set.insert s (f, t) → Ends t (outcome.Commit f) r s s' held held
ends-commit c n r t f s s' held fit k is = record {
  others = λ g u ne. at-new g u ∙ has-added s f g t u ∙ (let a : nat_eq u t ≡ false = grind (arith, nat_tests, ne) in rw a (drop (nat_eq g f) (set.contains s (g, u))));
  own = own;
  keys = λ u x. kept u (holds_lock held u x);
  written = λ u x. kept u (writes_key held u x);
}
  where
    at-new : (g : Ident) (u : TxId) → set.contains s' (g, u) ≡ set.contains (set.insert s (f, t)) (g, u)
    at-new g u = ap (λ (x : Commits). set.contains x (g, u)) is

    drop : (a b : Bool) → ((a && false) || b) ≡ b
    drop true b = refl
    drop false b = refl

    free : (g : Ident) → set.contains s (g, t) ≡ false
    free g = k g t ∙ rw (ended-first c n t (outcome.Commit f) r fit) refl

    own : (g : Ident) → set.contains s' (g, t) ≡ (f == g)
    own g =
        let self : nat_eq t t ≡ true = grind (arith, nat_tests) in
        at-new g t ∙ has-added s f g t t ∙ rw (self, free g) (turned (nat_eq g f) (f == g) (elim (cases_eq f g) [
          | inl same ↦ (let a : f == g ≡ true = grind (arith, nat_tests) in let b : nat_eq g f ≡ true = grind (arith, nat_tests) in b ∙ sym a)
          | inr ne ↦ (let a : f == g ≡ false = grind (arith, nat_tests) in let b : nat_eq g f ≡ false = grind (arith, nat_tests) in b ∙ sym a)
        ]))
      where
        turned : (a b : Bool) → a ≡ b → ((a && true) || false) ≡ b
        turned true b e = e
        turned false b e = e

    kept : (u : TxId) (b : Bool) → b ≡ ((not (t == u) || set.contains s' (f, t)) && b)
    kept u b = (let self : f == f ≡ true = grind (arith, nat_tests) in let h : set.contains s' (f, t) ≡ true = own f ∙ self in rw h (all (t == u) b))
      where
        all : (a b : Bool) → b ≡ ((not a || true) && b)
        all true b = refl
        all false b = refl

-- a commit that fits can be put into the queue, where there is room
pub can-wait : (c : ClusterData) (n : NodeId) (r : List Record) (q : Queue) (x : Record) → KeepsStable q.commits r → all_fit c n (x ∷ r) ≡ true → 1 ≤ q.spare → CanWait q x
can-wait c n r q (record'.Ended t (outcome.Commit f)) k fit room = ((λ h. (let none : set.contains q.commits (f, t) ≡ false = k f t ∙ rw (ended-first c n t (outcome.Commit f) r fit) refl in absurd (grind (arith, none, h)))), room)
can-wait c n r q (record'.Ended t outcome.Abort) k fit room = tt
can-wait c n r q (record'.Prepared t home parts sid p reads writes) k fit room = tt
can-wait c n r q (record'.Ceiling d) k fit room = tt
can-wait c n r q (record'.Decided t f parts) k fit room = tt
can-wait c n r q (record'.Closed t) k fit room = tt

-- ---- one commit is taken out

pub taken-out : (c : ClusterData) (n : NodeId) (r : List Record) (f : Ident) (t : TxId) (s s' : Commits) (held held' : Held) (top : Ident) → all_fit c n r ≡ true → Settles s held top r → set.contains s (f, t) ≡ true → is_clear f r ≡ true → s' ≡ set.remove s (f, t) → ((u : TxId) (k : Key) → holds_lock held' u k ≡ (not (u == t) && holds_lock held u k)) → ((u : TxId) (k : Key) → writes_key held' u k ≡ (not (u == t) && writes_key held u k)) → Settles s' held' (max top f) r
taken-out c n r f t s s' held held' top fit st member clear is keys written = record {
  applied = record { most = most; one = one };
  known = λ g u h. st.known g u (and_parts (not (nat_eq g f && nat_eq u t)) (set.contains s (g, u)) (sym (has-left s f g t u) ∙ sym (at-new g u) ∙ h)).1;
  waits = λ g u e open'. at-new g u ∙ has-left s f g t u ∙ rw (st.waits g u e open') (stays g u open');
  keys = λ u x. keys u x ∙ rest u (holds_lock held u x) (names (prepared_of u r) x) (st.keys u x);
  written = λ u x. written u x ∙ rest u (writes_key held u x) (writes_to (prepared_of u r) x) (st.written u x);
}
  where
    at-new : (g : Ident) (u : TxId) → set.contains s' (g, u) ≡ set.contains (set.remove s (f, t)) (g, u)
    at-new g u = ap (λ (x : Commits). set.contains x (g, u)) is

    stays : (g : Ident) (u : TxId) → is_clear g r ≡ false → (not (nat_eq g f && nat_eq u t) && true) ≡ true
    stays g u open' = elim (cases_eq g f) [
      | inl same ↦ absurd (let now : is_clear g r ≡ true = subst (λ (h : Ident). is_clear h r ≡ true) (sym same) clear in grind (arith, now, open'))
      | inr ne ↦ (let a : nat_eq g f ≡ false = grind (arith, nat_tests) in rw a refl)
    ]

    over : ended t r ≡ Some (outcome.Commit f)
    over = st.known f t member

    gone : set.contains s' (f, t) ≡ false
    gone = (let a : nat_eq f f ≡ true = grind (arith, nat_tests) in let b : nat_eq t t ≡ true = grind (arith, nat_tests) in at-new f t ∙ has-left s f f t t ∙ rw (a, b) refl)

    most : (g : Ident) (u : TxId) → ended u r ≡ Some (outcome.Commit g) → set.contains s' (g, u) ≡ false → g ≤ max top f
    most g u e out = elim (cases_Bool (nat_eq g f)) [
      | inl same ↦ grind (arith, nat_tests, same)
      | inr ne ↦ (let le = st.applied.most g u e (outside g u ne out) in omega (arith, le))
    ]
      where
        outside : (g : Ident) (u : TxId) → nat_eq g f ≡ false → set.contains s' (g, u) ≡ false → set.contains s (g, u) ≡ false
        outside g u ne out = rw ne at (sym (has-left s f g t u) ∙ sym (at-new g u) ∙ out)

    one : (max top f ≡ 0) ⊎ ((u : TxId) × (ended u r ≡ Some (outcome.Commit (max top f))) × (set.contains s' (max top f, u) ≡ false))
    one = elim (cases_Bool (nat_lt f top)) [
      | inl low ↦ (let is : max top f ≡ top = grind (arith, nat_tests, low) in subst One (sym is) (elim st.applied.one [
        | inl none ↦ inl none
        | inr some ↦ inr (some.0, some.1, at-new top some.0 ∙ has-left s f top t some.0 ∙ rw some.2 (never (not (nat_eq top f && nat_eq some.0 t))))
      ]))
      | inr high ↦ (let is : max top f ≡ f = grind (arith, nat_tests, high) in subst One (sym is) (inr (t, over, gone)))
    ]
      where
        One : Ident → Type 0
        One x = (x ≡ 0) ⊎ ((u : TxId) × (ended u r ≡ Some (outcome.Commit x)) × (set.contains s' (x, u) ≡ false))

        never : (b : Bool) → (b && false) ≡ false
        never true = refl
        never false = refl

    not-held : is_holding s' t r ≡ false
    not-held = rw (ended-over c n t (outcome.Commit f) r fit over, over, gone) refl

    alike : (u : TxId) → nat_eq u t ≡ false → is_holding s' u r ≡ is_holding s u r
    alike u ne = ap (λ b. is_some (pending u r) || b) (go (ended u r))
      where
        both : (a : Bool) (b : Bool) → (not (a && false) && b) ≡ b
        both true b = refl
        both false b = refl

        go : (o : Option Outcome) → is_waiting s' u o ≡ is_waiting s u o
        go None = refl
        go (Some outcome.Abort) = refl
        go (Some (outcome.Commit g)) = at-new g u ∙ has-left s f g t u ∙ rw ne (both (nat_eq g f) (set.contains s (g, u)))

    rest : (u : TxId) (h named : Bool) → h ≡ (is_holding s u r && named) → (not (u == t) && h) ≡ (is_holding s' u r && named)
    rest u h named e = elim (cases_eq u t) [
      | inl same ↦
          let a : u == t ≡ true = grind (arith, nat_tests) in
          let none : is_holding s' u r ≡ false = subst (λ (v : TxId). is_holding s' v r ≡ false) (sym same) not-held in
          rw (a, none) refl
      | inr ne ↦
          let a : u == t ≡ false = grind (arith, nat_tests) in
          let b : nat_eq u t ≡ false = grind (arith, nat_tests) in
          rw (a, alike u b) e
    ]

-- one that is taken out leaves fewer
pub fewer : (s : Commits) (m : ℕ × ℕ) → set.contains s m ≡ true → set.len (set.remove s m) < set.len s
fewer s m member = go (set.len s) refl
  where
    go : (k : ℕ) → set.len s ≡ k → set.len (set.remove s m) < set.len s
    go zero e = absurd (
        let none : set.contains s m ≡ false = ap (λ (x : Commits). set.contains x m) (set.empty_of_len s e) ∙ set.contains-empty by_final m in
        let bad : true ≡ false = sym member ∙ none in
        cc)
    go (suc k) e =
        let less : set.len (set.remove s m) ≡ set.len s - 1 = set.len-remove by_final_total s m ∙ rw member refl in
        omega (arith, less, e)
