-- The chains behind one more record, and behind a commit that is applied.
use Rattle.std.proofs.Common.{◌≡◌, ◌≤◌, ◌<◌, ◌++◌, ℕ, inl, inr, Bool, true, false, not, ◌&&◌, ◌||◌, nat_eq, List, [], ◌∷◌, Option, Some, None, is_some, refl, sym, ap, subst, ◌∙◌, arith, if◌then◌else◌}
use Rattle.std.proofs.lemmas.Bool.{cases_eq, and_parts, or_cases, or_left, or_right}
use Rattle.std.proofs.lemmas.Bool.Decides.{nat_tests}
use Rattle.std.specs.Prelude.{◌==◌}
use Rattle.std.specs.FinSet as set
use Rattle.score_base.specs.declared.ids.TxId.{TxId}
use Rattle.score_base.specs.declared.ids.NodeId.{NodeId}
use Rattle.score_base.specs.declared.ids.Ident.{Ident}
use Rattle.score_base.specs.declared.ids.Value.{Value}
use Rattle.score_base.specs.declared.keys.Key.{Key}
use Rattle.score_base.specs.declared.causes.Outcome.{Outcome}
use Rattle.score_base.specs.declared.causes.Outcome.TheVariants as outcome
use Rattle.score_base.specs.declared.records.Record.{Record}
use Rattle.score_base.specs.declared.records.Record.TheVariants as record'
use Rattle.placement.specs.Clusters.{ClusterData}
use Rattle.stable_queue.specs.Commits.{Commits}
use Rattle.version_chain.specs.Versions.{newest_in_chain}
use Rattle.version_chain.specs.Kept.{Kept, versions_of, spare_of}
use Rattle.journal_words.specs.Journals.{Prepared, prepared_of, pending, ended, written_value, wrote_in, keys_of_writes, are_distinct_keys, conflict, are_apart, are_own_keys, fits, all_fit}
use Rattle.journal_words.proofs.Fits.{prepared-fits, outcome-fits, newest-fits, rest-fits}
use Rattle.journal_words.proofs.Once.{prepares, prepared-stays, prepared-other, prepared-first, ended-prepared, ended-first, ended-stays}
use Rattle.journal_words.proofs.Floors.{above-final}
use Rattle.journal_words.proofs.KeyLists.{written-among, conflict-write}
use Rattle.journal_words.proofs.Locks.{locks-apart}
use Rattle.journal_words.proofs.Stands.{prepared-sound, final-least}
use Rattle.grid_store.specs.Keeping.{KeepsStable, is_holding, is_waiting}
use Rattle.grid_store.specs.Chained.{has_version, IsWritten, KeepsChains, CanPut, CanWrite, HasPlaces, AreApart, waits_behind, version_for, IsPut, CanPutAll, writes_in, HasWriteRoom}
use Rattle.grid_store.proofs.ChainReads.{newest-below}
use Rattle.grid_store.proofs.StableSteps.{has-added, has-left, holding-is, stable-prepared}

-- ---- chains with the same versions

pub chains-same : (s : Commits) (old new : Kept) (r : List Record) → ((k : Key) → versions_of k new ≡ versions_of k old)
    → KeepsChains s old r → KeepsChains s new r
chains-same s old new r same c = record {
  known = λ k f v h. c.known k f v (ap (has_version f v) (sym (same k)) ∙ h);
  has = λ k t f v w. ap (has_version f v) (same k) ∙ c.has k t f v w;
}

pub can-put-same : (k : Key) (p : Ident) (old new : Kept) → versions_of k new ≡ versions_of k old → spare_of k old ≤ spare_of k new
    → CanPut k p old → CanPut k p new
can-put-same k p old new same more c = record {
  room = (let room = c.room in omega (arith, room, more));
  above = subst (λ vs. newest_in_chain vs < p) (sym same) c.above;
}

pub places-same : (s : Commits) (old new : Kept) (r : List Record) → ((k : Key) → versions_of k new ≡ versions_of k old)
    → ((k : Key) → spare_of k old ≤ spare_of k new) → HasPlaces s old r → HasPlaces s new r
places-same s old new r same more h = λ u x holds is k v w. can-put-same k x.proposal old new (same k) (more k) (h u x holds is k v w)

-- ---- one more record

-- who ended before and does not wait is who does so behind it
commit-before : (c : ClusterData) (n : NodeId) (s : Commits) (x : Record) (r : List Record) (t : TxId) (f : Ident)
    → all_fit c n (x ∷ r) ≡ true → ended t (x ∷ r) ≡ Some (outcome.Commit f) → set.contains (waits_behind s x) (f, t) ≡ false
    → (ended t r ≡ Some (outcome.Commit f)) × (set.contains s (f, t) ≡ false)
commit-before c n s (record'.Prepared u home parts sid p reads writes) r t f fit e out = (e, out)
commit-before c n s (record'.Ceiling d) r t f fit e out = (e, out)
commit-before c n s (record'.Decided u g parts) r t f fit e out = (e, out)
commit-before c n s (record'.Closed u) r t f fit e out = (e, out)
commit-before c n s (record'.Ended u outcome.Abort) r t f fit e out = (grind (arith, e), out)
commit-before c n s (record'.Ended u (outcome.Commit g)) r t f fit e out = go (u == t) refl e
  where
    added : set.contains (set.insert s (g, u)) (f, t) ≡ ((nat_eq f g && nat_eq t u) || set.contains s (f, t))
    added = has-added s g f u t

    go : (b : Bool) → u == t ≡ b → (if b then Some (outcome.Commit g) else ended t r) ≡ Some (outcome.Commit f) → (ended t r ≡ Some (outcome.Commit f)) × (set.contains s (f, t) ≡ false)
    go true same e = absurd (
        let g' : g ≡ f = grind (arith, e) in
        let a : nat_eq f g ≡ true = grind (arith, nat_tests, g') in
        let b : nat_eq t u ≡ true = grind (arith, nat_tests, same) in
        let there : set.contains (set.insert s (g, u)) (f, t) ≡ true = added ∙ rw (a, b) refl in
        grind (arith, there, out))
    go false other e = (e, (let none = sym added ∙ out in grind (arith, none)))

commit-after : (c : ClusterData) (n : NodeId) (s : Commits) (x : Record) (r : List Record) (t : TxId) (f : Ident)
    → all_fit c n (x ∷ r) ≡ true → ended t r ≡ Some (outcome.Commit f) → set.contains s (f, t) ≡ false
    → (ended t (x ∷ r) ≡ Some (outcome.Commit f)) × (set.contains (waits_behind s x) (f, t) ≡ false)
commit-after c n s (record'.Prepared u home parts sid p reads writes) r t f fit e out = (e, out)
commit-after c n s (record'.Ceiling d) r t f fit e out = (e, out)
commit-after c n s (record'.Decided u g parts) r t f fit e out = (e, out)
commit-after c n s (record'.Closed u) r t f fit e out = (e, out)
commit-after c n s (record'.Ended u outcome.Abort) r t f fit e out = (ended-stays c n t (outcome.Commit f) (record'.Ended u outcome.Abort) r fit e, out)
commit-after c n s (record'.Ended u (outcome.Commit g)) r t f fit e out = (
  ended-stays c n t (outcome.Commit f) (record'.Ended u (outcome.Commit g)) r fit e,
  (let other = other-one (u == t) refl in has-added s g f u t ∙ rw (other, out) (drop (nat_eq f g))),
)
  where
    drop : (a : Bool) → ((a && false) || false) ≡ false
    drop true = refl
    drop false = refl

    other-one : (b : Bool) → u == t ≡ b → nat_eq t u ≡ false
    other-one true same = absurd (
        let is : u ≡ t = grind (arith, nat_tests, same) in
        let none : ended t r ≡ None = subst (λ (v : TxId). ended v r ≡ None) is (ended-first c n u (outcome.Commit g) r fit) in
        let bad : Some (outcome.Commit f) ≡ None = sym e ∙ none in
        cc)
    other-one false ne = grind (arith, nat_tests, ne)

same-writes : (c : ClusterData) (n : NodeId) (x : Record) (r : List Record) (t : TxId) (f : Ident) (k : Key)
    → all_fit c n (x ∷ r) ≡ true → ended t r ≡ Some (outcome.Commit f) → wrote_in (prepared_of t (x ∷ r)) k ≡ wrote_in (prepared_of t r) k
same-writes c n x r t f k fit e =
    let y = ended-prepared c n t (outcome.Commit f) r (rest-fits c n x r fit) e in
    ap (λ o. wrote_in o k) (prepared-stays t x r y.0 y.1 ∙ sym y.1)

pub chains-behind : (c : ClusterData) (n : NodeId) (s : Commits) (kept : Kept) (x : Record) (r : List Record)
    → all_fit c n (x ∷ r) ≡ true → KeepsChains s kept r → KeepsChains (waits_behind s x) kept (x ∷ r)
chains-behind c n s kept x r fit chains = record {
  known = λ k f v h.
      (let w = chains.known k f v h in
      let a = commit-after c n s x r w.0 f fit w.1.committed w.1.out in
      (w.0, record { committed = a.0; out = a.1; wrote = same-writes c n x r w.0 f k fit w.1.committed ∙ w.1.wrote }));
  has = λ k t f v w.
      (let b = commit-before c n s x r t f fit w.committed w.out in
      chains.has k t f v (record { committed = b.0; out = b.1; wrote = sym (same-writes c n x r t f k fit b.0) ∙ w.wrote }));
}

-- who holds behind a record held before, but for a new Prepared
holding-before : (c : ClusterData) (n : NodeId) (s : Commits) (x : Record) (r : List Record) (u : TxId)
    → all_fit c n (x ∷ r) ≡ true → prepares u x ≡ false → is_holding (waits_behind s x) u (x ∷ r) ≡ true → is_holding s u r ≡ true
holding-before c n s (record'.Prepared t home parts sid p reads writes) r u fit other h = rw other at h
holding-before c n s (record'.Ceiling d) r u fit other h = h
holding-before c n s (record'.Decided t f parts) r u fit other h = h
holding-before c n s (record'.Closed t) r u fit other h = h
holding-before c n s (record'.Ended t o) r u fit other h = elim (cases_eq t u) [
  | inl same ↦
      let p = outcome-fits c n r t o (newest-fits c n (record'.Ended t o) r fit) in
      let runs : pending u r ≡ Some p.0 = subst (λ (v : TxId). pending v r ≡ Some p.0) same p.1 in
      rw runs refl
  | inr ne ↦ (let other' : t == u ≡ false = grind (arith, nat_tests) in rest o other' (rw other' at h))
]
  where
    rest : (o : Outcome) → t == u ≡ false → (is_some (pending u r) || is_waiting (waits_behind s (record'.Ended t o)) u (ended u r)) ≡ true → (is_some (pending u r) || is_waiting s u (ended u r)) ≡ true
    rest outcome.Abort other' h = h
    rest (outcome.Commit g) other' h = sym (ap (λ b. is_some (pending u r) || b) (waiting (ended u r))) ∙ h
      where
        both : (a b : Bool) → ((a && false) || b) ≡ b
        both true b = refl
        both false b = refl

        waiting : (q : Option Outcome) → is_waiting (set.insert s (g, t)) u q ≡ is_waiting s u q
        waiting None = refl
        waiting (Some outcome.Abort) = refl
        waiting (Some (outcome.Commit f)) =
            let ne' : nat_eq u t ≡ false = grind (arith, nat_tests, other') in
            has-added s g f t u ∙ rw ne' (both (nat_eq f g) (set.contains s (f, u)))

-- the keys of a new Prepared can be written, where there is room for a version of each
pub fresh-writes : (c : ClusterData) (n : NodeId) (s : Commits) (kept : Kept) (r : List Record) (t : TxId) (home : NodeId) (parts : List NodeId) (sid p : Ident) (reads : List Key) (writes : List (Key × Value))
    → fits c n r (record'.Prepared t home parts sid p reads writes) ≡ true → KeepsChains s kept r
    → ((k : Key) (v : Value) → written_value k writes ≡ Some v → 1 ≤ spare_of k kept)
    → (k : Key) (v : Value) → written_value k writes ≡ Some v → CanPut k p kept
fresh-writes c n s kept r t home parts sid p reads writes fit chains room k v w =
    let f = prepared-fits c n r t parts sid p reads writes fit in
    record {
      room = room k v w;
      above = newest-below (versions_of k kept) p (let lt = f.fresh in omega (arith, lt)) (λ g y h.
          (let x = chains.known k g y h in above-final p x.0 g r f.above x.1.committed));
    }

prepared-kept : (u : TxId) (y : Prepared) (x : Record) (r : List Record) → prepares u x ≡ false → prepared_of u (x ∷ r) ≡ Some y → prepared_of u r ≡ Some y
prepared-kept u y x r other e = sym (prepared-other u x r other) ∙ e

pub places-behind : (c : ClusterData) (n : NodeId) (s : Commits) (kept : Kept) (x : Record) (r : List Record)
    → all_fit c n (x ∷ r) ≡ true → KeepsChains s kept r → HasWriteRoom x kept → HasPlaces s kept r → HasPlaces (waits_behind s x) kept (x ∷ r)
places-behind c n s kept x r fit chains room places u y holds is = go x fit room (prepares u x) refl holds is
  where
    go : (x : Record) → all_fit c n (x ∷ r) ≡ true → HasWriteRoom x kept → (b : Bool) → prepares u x ≡ b → is_holding (waits_behind s x) u (x ∷ r) ≡ true → prepared_of u (x ∷ r) ≡ Some y → CanWrite y kept
    go x fit room false other holds is = places u y (holding-before c n s x r u fit other holds) (prepared-kept u y x r other is)
    go (record'.Prepared t home parts sid p reads writes) fit room true here holds is =
        let new = newest-fits c n (record'.Prepared t home parts sid p reads writes) r fit in
        let z : Prepared = record { home = home; sid = sid; proposal = p; reads = reads; writes = writes } in
        let same : t ≡ u = grind (arith, nat_tests, here) in
        let first : prepared_of u (record'.Prepared t home parts sid p reads writes ∷ r) ≡ Some z =
        subst (λ (v : TxId). prepared_of v (record'.Prepared t home parts sid p reads writes ∷ r) ≡ Some z) same (prepared-first c n r t home parts sid p reads writes new) in
        let both : Some z ≡ Some y = sym first ∙ is in
        let one : z ≡ y = (cc) in
        subst (λ q. CanWrite q kept) one (fresh-writes c n s kept r t home parts sid p reads writes new chains room)
    go (record'.Ended t o) fit room true here holds is = absurd (grind (arith, here))
    go (record'.Ceiling d) fit room true here holds is = absurd (grind (arith, here))
    go (record'.Decided t f parts) fit room true here holds is = absurd (grind (arith, here))
    go (record'.Closed t) fit room true here holds is = absurd (grind (arith, here))

-- who locks is apart
pub apart-locking : (c : ClusterData) (n : NodeId) (s : Commits) (r : List Record) → all_fit c n r ≡ true → KeepsStable s r → AreApart s r
apart-locking c n s r fit stable = λ t u ne ht hu.
    locks-apart c n t u r fit ne (sym (holding-is s r t stable) ∙ ht) (sym (holding-is s r u stable) ∙ hu)

-- who is pending or waits behind a record is apart
pub apart-behind : (c : ClusterData) (n : NodeId) (s : Commits) (x : Record) (r : List Record)
    → all_fit c n (x ∷ r) ≡ true → all_fit c n r ≡ true → KeepsStable s r → AreApart (waits_behind s x) (x ∷ r)
apart-behind c n s (record'.Prepared t home parts sid p reads writes) r more fit stable =
    apart-locking c n s (record'.Prepared t home parts sid p reads writes ∷ r) more
    (stable-prepared c n s r t home parts sid p reads writes (newest-fits c n (record'.Prepared t home parts sid p reads writes) r more) stable)
apart-behind c n s (record'.Ended v o) r more fit stable = λ t u ne ht hu.
    apart-locking c n s r fit stable t u ne
    (holding-before c n s (record'.Ended v o) r t more refl ht) (holding-before c n s (record'.Ended v o) r u more refl hu)
apart-behind c n s (record'.Ceiling d) r more fit stable = apart-locking c n s r fit stable
apart-behind c n s (record'.Decided v f parts) r more fit stable = apart-locking c n s r fit stable
apart-behind c n s (record'.Closed v) r more fit stable = apart-locking c n s r fit stable

-- ---- a commit that is applied

-- what waits can be put at its final identifier
pub can-apply : (c : ClusterData) (n : NodeId) (s : Commits) (kept : Kept) (r : List Record) (f : Ident) (t : TxId)
    → all_fit c n r ≡ true → ended t r ≡ Some (outcome.Commit f) → set.contains s (f, t) ≡ true → HasPlaces s kept r
    → CanPutAll (writes_in (prepared_of t r)) f kept
can-apply c n s kept r f t fit e member places = go (prepared_of t r) refl
  where
    holds : is_holding s t r ≡ true
    holds = rw (e, member) (or-true (is_some (pending t r)))
      where
        or-true : (b : Bool) → (b || true) ≡ true
        or-true true = refl
        or-true false = refl

    go : (o : Option Prepared) → prepared_of t r ≡ o → CanPutAll (writes_in o) f kept
    go None is = record { distinct = refl; each = λ k v w. absurd (grind (arith, w)) }
    go (Some x) is = record {
      distinct = (let lists = (prepared-sound c n t x r fit is).lists in
          (and_parts (are_distinct_keys (keys_of_writes x.writes)) _ (and_parts (are_own_keys c n x.reads) (are_own_keys c n (keys_of_writes x.writes)) (and_parts _ (are_own_keys c n x.reads && are_own_keys c n (keys_of_writes x.writes)) lists).1).1).0);
      each = λ k v w.
          (let p = places t x holds is k v w in
          let least = final-least c n t f x r fit e is in
          let above = p.above in
          record { room = p.room; above = omega (arith, above, least) });
    }

has-last : (f g : Ident) (v w : Value) (vs : List (ℕ × ℕ)) → has_version f v (vs ++ (g, w) ∷ []) ≡ (has_version f v vs || (g == f && w == v))
has-last f g v w [] = go (g == f && w == v)
  where
    go : (b : Bool) → (b || false) ≡ b
    go true = refl
    go false = refl
has-last f g v w (x ∷ vs) = rw (has-last f g v w vs) (go (x.0 == f && x.1 == v) (has_version f v vs) (g == f && w == v))
  where
    go : (a b c : Bool) → (a || (b || c)) ≡ ((a || b) || c)
    go true b c = refl
    go false b c = refl

pub keep-nil : (vs : List (ℕ × ℕ)) → vs ++ [] ≡ vs
keep-nil [] = refl
keep-nil (x ∷ vs) = ap (λ l. x ∷ l) (keep-nil vs)

pub chains-applied : (s : Commits) (old new : Kept) (r : List Record) (f : Ident) (t : TxId)
    → ended t r ≡ Some (outcome.Commit f) → set.contains s (f, t) ≡ true
    → IsPut (writes_in (prepared_of t r)) f old new → KeepsChains s old r → KeepsChains (set.remove s (f, t)) new r
chains-applied s old new r f t e member put chains = record { known = known; has = has }
  where
    wrote-is : (k : Key) (o : Option Prepared) → written_value k (writes_in o) ≡ wrote_in o k
    wrote-is k None = refl
    wrote-is k (Some x) = refl

    is : (k : Key) → versions_of k new ≡ versions_of k old ++ version_for f (wrote_in (prepared_of t r) k)
    is k = put.versions k ∙ ap (λ o. versions_of k old ++ version_for f o) (wrote-is k (prepared_of t r))

    left : (g : Ident) (u : TxId) → set.contains (set.remove s (f, t)) (g, u) ≡ (not (nat_eq g f && nat_eq u t) && set.contains s (g, u))
    left g u = has-left s f g t u

    gone : set.contains (set.remove s (f, t)) (f, t) ≡ false
    gone = (let a : nat_eq f f ≡ true = grind (arith, nat_tests) in let b : nat_eq t t ≡ true = grind (arith, nat_tests) in left f t ∙ rw (a, b) refl)

    fewer : (g : Ident) (u : TxId) → set.contains s (g, u) ≡ false → set.contains (set.remove s (f, t)) (g, u) ≡ false
    fewer g u out = left g u ∙ rw out (never (not (nat_eq g f && nat_eq u t)))
      where
        never : (b : Bool) → (b && false) ≡ false
        never true = refl
        never false = refl

    old-one : (k : Key) (g : Ident) (v : Value) → has_version g v (versions_of k old) ≡ true → (u : TxId) × IsWritten (set.remove s (f, t)) r k u g v
    old-one k g v h = (let w = chains.known k g v h in (w.0, record { committed = w.1.committed; out = fewer g w.0 w.1.out; wrote = w.1.wrote }))

    known : (k : Key) (g : Ident) (v : Value) → has_version g v (versions_of k new) ≡ true → (u : TxId) × IsWritten (set.remove s (f, t)) r k u g v
    known k g v h = go (wrote_in (prepared_of t r) k) refl (ap (has_version g v) (sym (is k)) ∙ h)
      where
        go : (o : Option Value) → wrote_in (prepared_of t r) k ≡ o → has_version g v (versions_of k old ++ version_for f o) ≡ true → (u : TxId) × IsWritten (set.remove s (f, t)) r k u g v
        go None w h = old-one k g v (ap (has_version g v) (sym (keep-nil (versions_of k old))) ∙ h)
        go (Some y) w h = elim (or_cases (has_version g v (versions_of k old)) (f == g && y == v) (sym (has-last g f v y (versions_of k old)) ∙ h)) [
          | inl before ↦ old-one k g v before
          | inr here ↦
              let f' : f ≡ g = grind (arith, nat_tests, here) in
              let y' : y ≡ v = grind (arith, nat_tests, here) in
              let this : IsWritten (set.remove s (f, t)) r k t f y = record { committed = e; out = gone; wrote = w } in
              (t, subst (λ z. IsWritten (set.remove s (f, t)) r k t g z) y' (subst (λ z. IsWritten (set.remove s (f, t)) r k t z y) f' this))
        ]

    has : (k : Key) (u : TxId) (g : Ident) (v : Value) → IsWritten (set.remove s (f, t)) r k u g v → has_version g v (versions_of k new) ≡ true
    has k u g v w = ap (has_version g v) (is k) ∙ elim (cases_eq u t) [
      | inl same ↦
          let g' : Some (outcome.Commit f) ≡ Some (outcome.Commit g) = sym e ∙ subst (λ (z : TxId). ended z r ≡ Some (outcome.Commit g)) same w.committed in
          let is' : f ≡ g = (cc) in
          let mine : wrote_in (prepared_of t r) k ≡ Some v = subst (λ (z : TxId). wrote_in (prepared_of z r) k ≡ Some v) same w.wrote in
          let here : (f == g && v == v) ≡ true = grind (arith, nat_tests, is') in
          ap (λ o. has_version g v (versions_of k old ++ version_for f o)) mine ∙ has-last g f v v (versions_of k old) ∙ or_right (has_version g v (versions_of k old)) (f == g && v == v) here
      | inr other ↦
          let ne : nat_eq u t ≡ false = grind (arith, nat_tests) in
          let out : set.contains s (g, u) ≡ false = (let z = sym (left g u) ∙ w.out in rest (nat_eq g f) (set.contains s (g, u)) (rw ne at z)) in
          let before = chains.has k u g v (record { committed = w.committed; out = out; wrote = w.wrote }) in
          grows (wrote_in (prepared_of t r) k) before
    ]
      where
        rest : (a b : Bool) → (not (a && false) && b) ≡ false → b ≡ false
        rest true b h = h
        rest false b h = h

        grows : (o : Option Value) → has_version g v (versions_of k old) ≡ true → has_version g v (versions_of k old ++ version_for f o) ≡ true
        grows None h = ap (has_version g v) (keep-nil (versions_of k old)) ∙ h
        grows (Some y) h = has-last g f v y (versions_of k old) ∙ or_left (has_version g v (versions_of k old)) (f == g && y == v) h

-- who holds when one is taken out held before
holding-left : (s : Commits) (r : List Record) (f : Ident) (t u : TxId) → is_holding (set.remove s (f, t)) u r ≡ true → is_holding s u r ≡ true
holding-left s r f t u h = elim (or_cases (is_some (pending u r)) (is_waiting (set.remove s (f, t)) u (ended u r)) h) [
  | inl runs ↦ or_left (is_some (pending u r)) (is_waiting s u (ended u r)) runs
  | inr waits ↦ or_right (is_some (pending u r)) (is_waiting s u (ended u r)) (go (ended u r) waits)
]
  where
    go : (o : Option Outcome) → is_waiting (set.remove s (f, t)) u o ≡ true → is_waiting s u o ≡ true
    go None h = h
    go (Some outcome.Abort) h = h
    go (Some (outcome.Commit g)) h = (and_parts (not (nat_eq g f && nat_eq u t)) (set.contains s (g, u)) (sym (has-left s f g t u) ∙ h)).1

pub apart-left : (s : Commits) (r : List Record) (f : Ident) (t : TxId) → AreApart s r → AreApart (set.remove s (f, t)) r
apart-left s r f t apart = λ v u ne hv hu. apart v u ne (holding-left s r f t v hv) (holding-left s r f t u hu)

pub places-applied : (c : ClusterData) (n : NodeId) (s : Commits) (old new : Kept) (r : List Record) (f : Ident) (t : TxId)
    → ended t r ≡ Some (outcome.Commit f) → set.contains s (f, t) ≡ true → pending t r ≡ None
    → IsPut (writes_in (prepared_of t r)) f old new → AreApart s r → HasPlaces s old r → HasPlaces (set.remove s (f, t)) new r
places-applied c n s old new r f t e member over put apart places u x holds is k v w = elim (cases_eq u t) [
  | inl same ↦ absurd (
      let mine : is_holding (set.remove s (f, t)) t r ≡ true = subst (λ (z : TxId). is_holding (set.remove s (f, t)) z r ≡ true) same holds in
      let a : nat_eq f f ≡ true = grind (arith, nat_tests) in
      let b : nat_eq t t ≡ true = grind (arith, nat_tests) in
      let gone : set.contains (set.remove s (f, t)) (f, t) ≡ false = has-left s f f t t ∙ rw (a, b) refl in
      let none : is_holding (set.remove s (f, t)) t r ≡ false = rw (over, e, gone) refl in
      grind (arith, mine, none))
  | inr other ↦
      let before = holding-left s r f t u holds in
      let free = unwritten (prepared_of t r) (apart t u (λ q. other (sym q)) here before) in
      can-put-same k x.proposal old new (put.versions k ∙ ap (λ o. versions_of k old ++ version_for f o) free ∙ keep-nil (versions_of k old)) (put.room k free) (places u x before is k v w)
]
  where
    here : is_holding s t r ≡ true
    here = rw (over, e, member) refl

    unwritten : (o : Option Prepared) → are_apart o (prepared_of u r) ≡ true → written_value k (writes_in o) ≡ None
    unwritten None h = refl
    unwritten (Some y) h = go (written_value k y.writes) refl
      where
        go : (q : Option Value) → written_value k y.writes ≡ q → q ≡ None
        go None is' = refl
        go (Some z) is' = absurd (
            let mine : conflict x.reads x.writes y.reads y.writes ≡ true =
            conflict-write k x.reads y.reads x.writes y.writes (written-among k x.writes ∙ ap is_some w) (written-among k y.writes ∙ ap is_some is') in
            let h' : not (conflict x.reads x.writes y.reads y.writes) ≡ true = rw is at h in
            grind (arith, mine, h'))
