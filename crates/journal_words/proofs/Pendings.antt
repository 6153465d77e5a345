-- Which proposals are pending, and when is an identifier below all of them?
use Rattle.std.proofs.Common.{◌≤◌, ◌<◌, ◌≡◌, inl, inr, Bool, true, false, ◌&&◌, List, [], ◌∷◌, Option, Some, None, refl, subst, arith, if◌then◌else◌}
use Rattle.std.proofs.lemmas.Bool.{cases_eq, and_from, or_cases}
use Rattle.std.proofs.lemmas.Bool.Decides.{nat_tests}
use Rattle.std.specs.Prelude.{◌==◌, nat_lt}
use Rattle.score_base.specs.declared.ids.TxId.{TxId}
use Rattle.score_base.specs.declared.ids.NodeId.{NodeId}
use Rattle.score_base.specs.declared.ids.Ident.{Ident}
use Rattle.score_base.specs.declared.causes.Outcome.{Outcome}
use Rattle.score_base.specs.declared.records.Record.{Record}
use Rattle.score_base.specs.declared.records.Record.TheVariants as record'
use Rattle.placement.specs.Clusters.{ClusterData}
use Rattle.journal_words.specs.Journals.{Prepared, prepared_of, pending, pendings, all_above, is_clear, ended, later, all_fit}
use Rattle.journal_words.proofs.Fits.{prepared-fits, newest-fits, rest-fits}
use Rattle.journal_words.proofs.Pairs.{has_pair, pair-kept, pair-taken, all-above, above-below, above-without, not-above}
use Rattle.journal_words.proofs.Once.{unprepared-pending, running-pending}

-- ---- the list of the pending, and each of them

pub pending-listed : (t : TxId) (p : Ident) (r : List Record) → pending t r ≡ Some p → has_pair t p (pendings r) ≡ true
pending-listed t p [] h = absurd (grind (arith, h))
pending-listed t p (record'.Prepared u home parts sid q reads writes ∷ r) h = grind (arith, nat_tests, pending-listed t p r)
pending-listed t p (record'.Ended u o ∷ r) h = grind (arith, nat_tests, pending-listed t p r, pair-kept)
pending-listed t p (y ∷ r) h = pending-listed t p r h

pub listed-pending : (c : ClusterData) (n : NodeId) (t : TxId) (p : Ident) (r : List Record) → all_fit c n r ≡ true
    → has_pair t p (pendings r) ≡ true → pending t r ≡ Some p
listed-pending c n t p [] fit h = absurd (grind (arith, h))
listed-pending c n t p (record'.Prepared u home parts sid q reads writes ∷ r) fit h =
    elim (or_cases (u == t && q == p) (has_pair t p (pendings r)) h) [
      | inl here ↦ grind (arith, nat_tests, here)
      | inr later ↦
          let f = prepared-fits c n r u parts sid q reads writes (newest-fits c n (record'.Prepared u home parts sid q reads writes) r fit) in
          let e : pending t r ≡ Some p = listed-pending c n t p r (rest-fits c n (record'.Prepared u home parts sid q reads writes) r fit) later in
          let none : pending u r ≡ None = unprepared-pending u r f.new in
          other u e none
    ]
  where
    other : (u : TxId) → pending t r ≡ Some p → pending u r ≡ None → (if u == t then Some q else pending t r) ≡ Some p
    other u e none = elim (cases_eq u t) [
      | inl same ↦ absurd (let P : TxId → Type 0 = λ v. pending v r ≡ None in let e' : pending t r ≡ None = subst P same none in grind (arith, e, e'))
      | inr ne ↦ (let here : u == t ≡ false = grind (arith, nat_tests) in rw here e)
    ]
listed-pending c n t p (record'.Ended u o ∷ r) fit h =
    let k = pair-taken t u p (pendings r) h in
    let ne = k.0 in
    let here : u == t ≡ false = grind (arith, nat_tests) in
    rw here (listed-pending c n t p r (rest-fits c n (record'.Ended u o) r fit) k.1)
listed-pending c n t p (y ∷ r) fit h = listed-pending c n t p r (rest-fits c n y r fit) h

-- ---- below every pending proposal

pub clear-pending : (s : Ident) (t : TxId) (p : Ident) (r : List Record) → is_clear s r ≡ true → pending t r ≡ Some p
    → s < p
clear-pending s t p r h e = all-above s p t (pendings r) h (pending-listed t p r e)

pub clear-below : (s f : Ident) (r : List Record) → f ≤ s → is_clear s r ≡ true → is_clear f r ≡ true
clear-below s f r le h = above-below s f (pendings r) le h

-- whose proposal is at most it has ended
pub clear-ended : (c : ClusterData) (n : NodeId) (s : Ident) (t : TxId) (x : Prepared) (r : List Record)
    → all_fit c n r ≡ true → is_clear s r ≡ true → prepared_of t r ≡ Some x → x.proposal ≤ s
    → (o : Outcome) × (ended t r ≡ Some o)
clear-ended c n s t x r fit clear e le = go (ended t r) refl
  where
    go : (o : Option Outcome) → ended t r ≡ o → (o' : Outcome) × (o ≡ Some o')
    go (Some o) is = (o, refl)
    go None is = absurd (let lt = clear-pending s t x.proposal r clear (running-pending c n t x r fit e is) in omega arith)

-- where an identifier is not below every pending proposal, this one is at most it
pub record IsHeldBy (s : Ident) (r : List Record) : Type 0 where
  pub of : TxId
  pub proposal : Ident
  pub pending : pending of r ≡ Some proposal
  pub most : proposal ≤ s

pub not-clear : (c : ClusterData) (n : NodeId) (s : Ident) (r : List Record) → all_fit c n r ≡ true
    → is_clear s r ≡ false → IsHeldBy s r
not-clear c n s r fit h =
    let x = not-above s (pendings r) h in
    record { of = x.0; proposal = x.1; pending = listed-pending c n x.0 x.1 r fit x.2; most = x.3 }

-- ---- what the next record leaves clear

-- a proposal of the record is above s
abbrev pub is_over : Ident → Record → Bool
is_over s (record'.Prepared t home parts sid p reads writes) = nat_lt s p
is_over s y = true

pub clear-more : (s : Ident) (y : Record) (r : List Record) → is_over s y ≡ true → is_clear s r ≡ true
    → is_clear s (y ∷ r) ≡ true
clear-more s (record'.Prepared t home parts sid p reads writes) r a h = and_from (nat_lt s p) (all_above s (pendings r)) a h
clear-more s (record'.Ended t o) r a h = above-without s t (pendings r) h
clear-more s y r a h = h
