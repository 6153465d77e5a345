-- What does a record that stands in a journal say, and what stays said of it?
use Rattle.std.proofs.Common.{◌≤◌, ◌<◌, ◌≡◌, inl, inr, Bool, true, false, ◌&&◌, List, [], ◌∷◌, Option, Some, None, refl, sym, ap, subst, ◌∙◌, arith, if◌then◌else◌}
use Rattle.std.proofs.lemmas.Bool.{cases_eq, or_cases, or_right}
use Rattle.std.proofs.lemmas.Bool.Decides.{nat_tests}
use Rattle.std.specs.Prelude.{◌==◌}
use Rattle.score_base.specs.declared.ids.TxId.{TxId}
use Rattle.score_base.specs.declared.ids.NodeId.{NodeId}
use Rattle.score_base.specs.declared.ids.Ident.{Ident}
use Rattle.score_base.specs.declared.causes.Outcome.{Outcome}
use Rattle.score_base.specs.declared.causes.Outcome.TheVariants as outcome
use Rattle.score_base.specs.declared.records.Record.{Record}
use Rattle.score_base.specs.declared.records.Record.TheVariants as record'
use Rattle.placement.specs.Clusters.{ClusterData}
use Rattle.journal_words.specs.Journals.{Prepared, older, prepared_of, ended, is_commit, are_lists, all_fit, has_prepared, has_commit}
use Rattle.journal_words.proofs.Fits.{FitsPrepared, prepared-fits, commit-fits, newest-fits, rest-fits}
use Rattle.journal_words.proofs.Once.{prepared-stays, ended-prepared, ended-stays, pending-says}

-- ---- a Prepared

-- what the Prepared of a transaction says at a node
pub record IsSound (c : ClusterData) (n : NodeId) (x : Prepared) : Type 0 where
  pub fresh : x.sid < x.proposal
  pub lists : are_lists c n x.reads x.writes ≡ true

pub prepared-sound : (c : ClusterData) (n : NodeId) (t : TxId) (x : Prepared) (r : List Record) → all_fit c n r ≡ true
    → prepared_of t r ≡ Some x → IsSound c n x
prepared-sound c n t x [] fit h = absurd (grind (arith, h))
prepared-sound c n t x (record'.Prepared u home parts sid p reads writes ∷ r) fit h =
    let f = prepared-fits c n r u parts sid p reads writes (newest-fits c n (record'.Prepared u home parts sid p reads writes) r fit) in
    go f (λ e. prepared-sound c n t x r (rest-fits c n (record'.Prepared u home parts sid p reads writes) r fit) e) (u == t) (prepared_of t r) refl h
  where
    go : FitsPrepared c n r u parts sid p reads writes → (prepared_of t r ≡ Some x → IsSound c n x) → (b : Bool) (o : Option Prepared) → prepared_of t r ≡ o → (let y : Prepared = record { home = home; sid = sid; proposal = p; reads = reads; writes = writes } in (if b then older o y else o) ≡ Some x) → IsSound c n x
    go f more true (Some y) e h = more (e ∙ h)
    go f more true None e h =
        let is : (let y : Prepared = record { home = home; sid = sid; proposal = p; reads = reads; writes = writes } in y ≡ x) = grind (arith, h) in
        subst (IsSound c n) is (record { fresh = f.fresh; lists = f.lists })
    go f more false o e h = more (e ∙ h)
prepared-sound c n t x (y ∷ r) fit h = prepared-sound c n t x r (rest-fits c n y r fit) h

-- a Prepared with this proposal stands: it is the first
pub has_prepared-says : (c : ClusterData) (n : NodeId) (t : TxId) (p : Ident) (r : List Record) → all_fit c n r ≡ true
    → has_prepared t p r ≡ true → (x : Prepared) × (prepared_of t r ≡ Some x) × (x.proposal ≡ p)
has_prepared-says c n t p [] fit h = absurd (grind (arith, h))
has_prepared-says c n t p (record'.Prepared u home parts sid q reads writes ∷ r) fit h = elim (or_cases (u == t && q == p) (has_prepared t p r) h) [
  | inl here ↦
      let f = prepared-fits c n r u parts sid q reads writes (newest-fits c n (record'.Prepared u home parts sid q reads writes) r fit) in
      let same : u ≡ t = grind (arith, nat_tests, here) in
      let is : q ≡ p = grind (arith, nat_tests, here) in
      let P : TxId → Type 0 = λ v. prepared_of v r ≡ None in
      let new : prepared_of t r ≡ None = subst P same f.new in
      let self : u == t ≡ true = grind (arith, nat_tests) in
      (record { home = home; sid = sid; proposal = q; reads = reads; writes = writes }, rw (self, new) refl, is)
  | inr more ↦
      let x = has_prepared-says c n t p r (rest-fits c n (record'.Prepared u home parts sid q reads writes) r fit) more in
      (x.0, prepared-stays t (record'.Prepared u home parts sid q reads writes) r x.0 x.1, x.2)
]
has_prepared-says c n t p (y ∷ r) fit h = has_prepared-says c n t p r (rest-fits c n y r fit) h

-- two proposals of one transaction are one
pub prepared-once : (c : ClusterData) (n : NodeId) (t : TxId) (p q : Ident) (r : List Record) → all_fit c n r ≡ true
    → has_prepared t p r ≡ true → has_prepared t q r ≡ true → p ≡ q
prepared-once c n t p q r fit h k =
    let x = has_prepared-says c n t p r fit h in
    let y = has_prepared-says c n t q r fit k in
    let e = x.1 in
    let e' = y.1 in
    let same : x.0 ≡ y.0 = (cc) in
    sym x.2 ∙ ap (λ (z : Prepared). z.proposal) same ∙ y.2

pub has_prepared-grows : (t : TxId) (p : Ident) (y : Record) (r : List Record) → has_prepared t p r ≡ true
    → has_prepared t p (y ∷ r) ≡ true
has_prepared-grows t p (record'.Prepared u home parts sid q reads writes) r h = or_right (u == t && q == p) (has_prepared t p r) h
has_prepared-grows t p y r h = h

-- ---- an Ended with commit

final-here : (c : ClusterData) (n : NodeId) (t : TxId) (f : Ident) (x : Prepared) (r : List Record)
    → all_fit c n (record'.Ended t (outcome.Commit f) ∷ r) ≡ true → prepared_of t r ≡ Some x → x.proposal ≤ f
final-here c n t f x r fit e =
    let q = commit-fits c n r t f (newest-fits c n (record'.Ended t (outcome.Commit f)) r fit) in
    let s = pending-says c n t q.0 r (rest-fits c n (record'.Ended t (outcome.Commit f)) r fit) q.1 in
    go s.said q.0 s.prepared s.proposal q.2
  where
    go : (y : Prepared) (p : Ident) → prepared_of t r ≡ Some y → y.proposal ≡ p → p ≤ f → x.proposal ≤ f
    go y p e' is le = (let one : y ≡ x = (cc) in let P : Prepared → Type 0 = λ z. z.proposal ≤ f in subst P one (omega arith))

-- its final identifier is at least the proposal
pub final-least : (c : ClusterData) (n : NodeId) (t : TxId) (f : Ident) (x : Prepared) (r : List Record)
    → all_fit c n r ≡ true → ended t r ≡ Some (outcome.Commit f) → prepared_of t r ≡ Some x → x.proposal ≤ f
final-least c n t f x [] fit h e = absurd (grind (arith, h))
final-least c n t f x (record'.Ended u (outcome.Commit g) ∷ r) fit h e = elim (cases_eq u t) [
  | inl same ↦
      let self : u == t ≡ true = grind (arith, nat_tests) in
      let is : g ≡ f = grind (arith, h, self) in
      let P : TxId → Type 0 = λ v. prepared_of v r ≡ Some x in
      let Q : Ident → Type 0 = λ v. x.proposal ≤ v in
      subst Q is (final-here c n u g x r fit (subst P (sym same) e))
  | inr other ↦
      let self : u == t ≡ false = grind (arith, nat_tests) in
      final-least c n t f x r (rest-fits c n (record'.Ended u (outcome.Commit g)) r fit) (rw self at h) e
]
final-least c n t f x (record'.Ended u outcome.Abort ∷ r) fit h e =
    let rest : ended t r ≡ Some (outcome.Commit f) = grind (arith, h) in
    final-least c n t f x r (rest-fits c n (record'.Ended u outcome.Abort) r fit) rest e
final-least c n t f x (record'.Prepared u home parts sid p reads writes ∷ r) fit h e =
    let rest = rest-fits c n (record'.Prepared u home parts sid p reads writes) r fit in
    let y = ended-prepared c n t (outcome.Commit f) r rest h in
    let stays = prepared-stays t (record'.Prepared u home parts sid p reads writes) r y.0 y.1 in
    let same : Some y.0 ≡ Some x = sym stays ∙ e in
    let one : y.0 ≡ x = (cc) in
    final-least c n t f x r rest h (y.1 ∙ ap (λ (z : Prepared). Some z) one)
final-least c n t f x (y ∷ r) fit h e = final-least c n t f x r (rest-fits c n y r fit) h e

pub final-positive : (c : ClusterData) (n : NodeId) (t : TxId) (f : Ident) (r : List Record) → all_fit c n r ≡ true
    → ended t r ≡ Some (outcome.Commit f) → 1 ≤ f
final-positive c n t f r fit h =
    let x = ended-prepared c n t (outcome.Commit f) r fit h in
    omega (arith, final-least c n t f x.0 r fit h x.1, (prepared-sound c n t x.0 r fit x.1).fresh)

pub has_commit-is : (c : ClusterData) (n : NodeId) (t : TxId) (r : List Record) → all_fit c n r ≡ true
    → has_commit t r ≡ is_commit (ended t r)
has_commit-is c n t [] fit = refl
has_commit-is c n t (record'.Ended u (outcome.Commit f) ∷ r) fit = elim (cases_eq u t) [
  | inl same ↦ (let self : u == t ≡ true = grind (arith, nat_tests) in rw self refl)
  | inr other ↦ (let self : u == t ≡ false = grind (arith, nat_tests) in rw self (has_commit-is c n t r (rest-fits c n (record'.Ended u (outcome.Commit f)) r fit)))
]
has_commit-is c n t (record'.Ended u outcome.Abort ∷ r) fit = has_commit-is c n t r (rest-fits c n (record'.Ended u outcome.Abort) r fit) ∙ go (ended t r) refl
  where
    go : (o : Option Outcome) → ended t r ≡ o → is_commit o ≡ is_commit (if u == t then Some outcome.Abort else o)
    go None e = grind arith
    go (Some outcome.Abort) e = grind arith
    go (Some (outcome.Commit f)) e = (let stays = ended-stays c n t (outcome.Commit f) (record'.Ended u outcome.Abort) r fit e in grind (arith, e, stays))
has_commit-is c n t (y ∷ r) fit = has_commit-is c n t r (rest-fits c n y r fit)

-- an Ended with commit stands
pub has_commit-says : (c : ClusterData) (n : NodeId) (t : TxId) (r : List Record) → all_fit c n r ≡ true
    → has_commit t r ≡ true → (f : Ident) × (ended t r ≡ Some (outcome.Commit f))
has_commit-says c n t r fit h = go (ended t r) (sym (has_commit-is c n t r fit) ∙ h)
  where
    go : (o : Option Outcome) → is_commit o ≡ true → (f : Ident) × (o ≡ Some (outcome.Commit f))
    go None h = absurd (grind (arith, h))
    go (Some outcome.Abort) h = absurd (grind (arith, h))
    go (Some (outcome.Commit f)) h = (f, refl)

pub has_commit-grows : (t : TxId) (y : Record) (r : List Record) → has_commit t r ≡ true → has_commit t (y ∷ r) ≡ true
has_commit-grows t (record'.Ended u (outcome.Commit f)) r h = or_right (u == t) (has_commit t r) h
has_commit-grows t (record'.Ended u outcome.Abort) r h = h
has_commit-grows t y r h = h
