-- How often does a transaction stand in a journal, and when is it pending and when ended?
use Rattle.std.proofs.Common.{◌≡◌, inl, inr, Bool, true, false, List, [], ◌∷◌, ◌++◌, Option, Some, None, is_some, refl, sym, subst, ◌∙◌, arith, if◌then◌else◌}
use Rattle.std.proofs.lemmas.Bool.{cases_eq}
use Rattle.std.proofs.lemmas.Bool.Decides.{nat_tests}
use Rattle.std.specs.Prelude.{◌==◌}
use Rattle.score_base.specs.declared.ids.TxId.{TxId}
use Rattle.score_base.specs.declared.ids.NodeId.{NodeId}
use Rattle.score_base.specs.declared.ids.Ident.{Ident}
use Rattle.score_base.specs.declared.ids.Value.{Value}
use Rattle.score_base.specs.declared.keys.Key.{Key}
use Rattle.score_base.specs.declared.causes.Outcome.{Outcome}
use Rattle.score_base.specs.declared.records.Record.{Record}
use Rattle.score_base.specs.declared.records.Record.TheVariants as record'
use Rattle.placement.specs.Clusters.{ClusterData}
use Rattle.journal_words.specs.Journals.{Prepared, older, prepared_of, pending, ended, fits, all_fit}
use Rattle.journal_words.proofs.Fits.{prepared-fits, outcome-fits, newest-fits, rest-fits}

some-is : {A : Type 0} (o : Option A) → is_some o ≡ true → (x : A) × (o ≡ Some x)
some-is None h = absurd (grind (arith, h))
some-is (Some x) h = (x, refl)

-- ---- the Prepared of a transaction: once it stands it stays the first

pub prepared-stays : (t : TxId) (y : Record) (r : List Record) (x : Prepared) → prepared_of t r ≡ Some x
    → prepared_of t (y ∷ r) ≡ Some x
prepared-stays t (record'.Prepared u home parts sid p reads writes) r x h = rw h (go (u == t))
  where
    go : (b : Bool) → (let y : Prepared = record { home = home; sid = sid; proposal = p; reads = reads; writes = writes } in (if b then older (Some x) y else Some x) ≡ Some x)
    go true = refl
    go false = refl
prepared-stays t y r x h = h

-- the record is a Prepared of t
abbrev pub prepares : TxId → Record → Bool
prepares t (record'.Prepared u home parts sid p reads writes) = u == t
prepares t y = false

pub prepared-other : (t : TxId) (y : Record) (r : List Record) → prepares t y ≡ false
    → prepared_of t (y ∷ r) ≡ prepared_of t r
prepared-other t (record'.Prepared u home parts sid p reads writes) r h = rw h refl
prepared-other t y r h = refl

-- a Prepared that fits is the first of its transaction
pub prepared-first : (c : ClusterData) (n : NodeId) (r : List Record) (t : TxId) (home : NodeId) (parts : List NodeId)
    (sid p : Ident) (reads : List Key) (writes : List (Key × Value))
    → fits c n r (record'.Prepared t home parts sid p reads writes) ≡ true
    → prepared_of t (record'.Prepared t home parts sid p reads writes ∷ r)
    ≡ Some (record { home = home; sid = sid; proposal = p; reads = reads; writes = writes })
prepared-first c n r t home parts sid p reads writes h =
    let new = (prepared-fits c n r t parts sid p reads writes h).new in
    let self : t == t ≡ true = grind (arith, nat_tests) in
    rw (self, new) refl

-- ---- who is pending or ended has a Prepared

pending-some : (t : TxId) (p : Ident) (r : List Record) → pending t r ≡ Some p → is_some (prepared_of t r) ≡ true
pending-some t p [] h = absurd (grind (arith, h))
pending-some t p (record'.Prepared u home parts sid q reads writes ∷ r) h = grind (arith, nat_tests, pending-some t p r)
pending-some t p (record'.Ended u o ∷ r) h = grind (arith, nat_tests, pending-some t p r)
pending-some t p (y ∷ r) h = pending-some t p r h

pub pending-prepared : (t : TxId) (p : Ident) (r : List Record) → pending t r ≡ Some p
    → (x : Prepared) × (prepared_of t r ≡ Some x)
pending-prepared t p r h = some-is (prepared_of t r) (pending-some t p r h)

some-stays : (t : TxId) (y : Record) (r : List Record) → is_some (prepared_of t r) ≡ true
    → is_some (prepared_of t (y ∷ r)) ≡ true
some-stays t y r h =
    let x = some-is (prepared_of t r) h in
    rw (prepared-stays t y r x.0 x.1) refl

ended-some : (c : ClusterData) (n : NodeId) (t : TxId) (o : Outcome) (r : List Record) → all_fit c n r ≡ true
    → ended t r ≡ Some o → is_some (prepared_of t r) ≡ true
ended-some c n t o [] fit h = absurd (grind (arith, h))
ended-some c n t o (record'.Ended u o' ∷ r) fit h = elim (cases_eq u t) [
  | inl same ↦
      let q = outcome-fits c n r u o' (newest-fits c n (record'.Ended u o') r fit) in
      let P : TxId → Type 0 = λ v. pending v r ≡ Some q.0 in
      pending-some t q.0 r (subst P same q.1)
  | inr other ↦
      let h' : ended t r ≡ Some o = (let no' : u == t ≡ false = grind (arith, nat_tests) in rw no' at h) in
      ended-some c n t o r (rest-fits c n (record'.Ended u o') r fit) h'
]
ended-some c n t o (record'.Prepared u home parts sid p reads writes ∷ r) fit h = some-stays t (record'.Prepared u home parts sid p reads writes) r (ended-some c n t o r (rest-fits c n (record'.Prepared u home parts sid p reads writes) r fit) h)
ended-some c n t o (y ∷ r) fit h = ended-some c n t o r (rest-fits c n y r fit) h

pub ended-prepared : (c : ClusterData) (n : NodeId) (t : TxId) (o : Outcome) (r : List Record) → all_fit c n r ≡ true
    → ended t r ≡ Some o → (x : Prepared) × (prepared_of t r ≡ Some x)
ended-prepared c n t o r fit h = some-is (prepared_of t r) (ended-some c n t o r fit h)

-- who has no Prepared is neither pending nor ended
pub unprepared-pending : (t : TxId) (r : List Record) → prepared_of t r ≡ None → pending t r ≡ None
unprepared-pending t r h = go (pending t r) refl
  where
    go : (q : Option Ident) → pending t r ≡ q → q ≡ None
    go None e = refl
    go (Some p) e = absurd (let x = pending-prepared t p r e in let y = x.1 in grind (arith, h, y))

pub unprepared-ended : (c : ClusterData) (n : NodeId) (t : TxId) (r : List Record) → all_fit c n r ≡ true
    → prepared_of t r ≡ None → ended t r ≡ None
unprepared-ended c n t r fit h = go (ended t r) refl
  where
    go : (q : Option Outcome) → ended t r ≡ q → q ≡ None
    go None e = refl
    go (Some o) e = absurd (let x = ended-prepared c n t o r fit e in let y = x.1 in grind (arith, h, y))

-- ---- pending is: prepared, and not ended

-- the proposal of who is prepared and not ended
abbrev pub pending_by : Option Prepared → Option Outcome → Option Ident
pending_by None o = None
pending_by (Some x) None = Some x.proposal
pending_by (Some x) (Some o) = None

pending-ended : (x : Option Prepared) (o : Outcome) → pending_by x (Some o) ≡ None
pending-ended None o = refl
pending-ended (Some x) o = refl

pub pending-is : (c : ClusterData) (n : NodeId) (t : TxId) (r : List Record) → all_fit c n r ≡ true
    → pending t r ≡ pending_by (prepared_of t r) (ended t r)
pending-is c n t [] fit = refl
pending-is c n t (record'.Prepared u home parts sid p reads writes ∷ r) fit = elim (cases_eq u t) [
  | inl same ↦
      let f = prepared-fits c n r u parts sid p reads writes (newest-fits c n (record'.Prepared u home parts sid p reads writes) r fit) in
      let P : TxId → Type 0 = λ v. prepared_of v r ≡ None in
      let new : prepared_of t r ≡ None = subst P same f.new in
      let open' : ended t r ≡ None = unprepared-ended c n t r (rest-fits c n (record'.Prepared u home parts sid p reads writes) r fit) new in
      let here : u == t ≡ true = grind (arith, nat_tests) in
      rw (here, new, open') refl
  | inr other ↦
      let here : u == t ≡ false = grind (arith, nat_tests) in
      rw here (pending-is c n t r (rest-fits c n (record'.Prepared u home parts sid p reads writes) r fit))
]
pending-is c n t (record'.Ended u o ∷ r) fit = elim (cases_eq u t) [
  | inl same ↦
      let here : u == t ≡ true = grind (arith, nat_tests) in
      rw here (sym (pending-ended (prepared_of t r) o))
  | inr other ↦
      let here : u == t ≡ false = grind (arith, nat_tests) in
      rw here (pending-is c n t r (rest-fits c n (record'.Ended u o) r fit))
]
pending-is c n t (y ∷ r) fit = pending-is c n t r (rest-fits c n y r fit)

-- what a pending transaction is
pub record IsPending (t : TxId) (p : Ident) (r : List Record) : Type 0 where
  pub said : Prepared
  pub prepared : prepared_of t r ≡ Some said
  pub proposal : said.proposal ≡ p
  pub running : ended t r ≡ None

pub pending-says : (c : ClusterData) (n : NodeId) (t : TxId) (p : Ident) (r : List Record) → all_fit c n r ≡ true
    → pending t r ≡ Some p → IsPending t p r
pending-says c n t p r fit h = go (prepared_of t r) (ended t r) refl refl (sym (pending-is c n t r fit) ∙ h)
  where
    go : (x : Option Prepared) (o : Option Outcome) → prepared_of t r ≡ x → ended t r ≡ o → pending_by x o ≡ Some p
        → IsPending t p r
    go None o e f g = absurd (grind (arith, g))
    go (Some x) None e f g = record { said = x; prepared = e; proposal = grind (arith, g); running = f }
    go (Some x) (Some o) e f g = absurd (grind (arith, g))

pub running-pending : (c : ClusterData) (n : NodeId) (t : TxId) (x : Prepared) (r : List Record) → all_fit c n r ≡ true
    → prepared_of t r ≡ Some x → ended t r ≡ None → pending t r ≡ Some x.proposal
running-pending c n t x r fit e f = pending-is c n t r fit ∙ rw (e, f) refl

pub ended-over : (c : ClusterData) (n : NodeId) (t : TxId) (o : Outcome) (r : List Record) → all_fit c n r ≡ true
    → ended t r ≡ Some o → pending t r ≡ None
ended-over c n t o r fit e = pending-is c n t r fit ∙ rw e (pending-ended (prepared_of t r) o)

-- ---- an Ended stands once

pub ended-first : (c : ClusterData) (n : NodeId) (t : TxId) (o : Outcome) (r : List Record)
    → all_fit c n (record'.Ended t o ∷ r) ≡ true → ended t r ≡ None
ended-first c n t o r fit =
    let q = outcome-fits c n r t o (newest-fits c n (record'.Ended t o) r fit) in
    (pending-says c n t q.0 r (rest-fits c n (record'.Ended t o) r fit) q.1).running

pub ended-stays : (c : ClusterData) (n : NodeId) (t : TxId) (o : Outcome) (y : Record) (r : List Record)
    → all_fit c n (y ∷ r) ≡ true → ended t r ≡ Some o → ended t (y ∷ r) ≡ Some o
ended-stays c n t o (record'.Ended u o') r fit h = elim (cases_eq u t) [
  | inl same ↦ absurd (
      let P : TxId → Type 0 = λ v. ended v r ≡ None in
      let first : ended t r ≡ None = subst P same (ended-first c n u o' r fit) in
      grind (arith, first, h))
  | inr other ↦ (let here : u == t ≡ false = grind (arith, nat_tests) in rw here h)
]
ended-stays c n t o y r fit h = h

pub ended-later : (c : ClusterData) (n : NodeId) (t : TxId) (o : Outcome) (s r : List Record)
    → all_fit c n (s ++ r) ≡ true → ended t r ≡ Some o → ended t (s ++ r) ≡ Some o
ended-later c n t o [] r fit h = h
ended-later c n t o (y ∷ s) r fit h = ended-stays c n t o y (s ++ r) fit (ended-later c n t o s r (rest-fits c n y (s ++ r) fit) h)

-- the record is an Ended of t
abbrev pub ends : TxId → Record → Bool
ends t (record'.Ended u o) = u == t
ends t y = false
