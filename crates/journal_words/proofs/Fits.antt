-- What does a record that fits tell of the records before it?
use Rattle.std.proofs.Common.{◌≤◌, ◌<◌, ◌≡◌, true, List, ◌∷◌, Option, Some, None, is_some, refl, arith}
use Rattle.std.proofs.lemmas.Bool.{and_parts, and_from}
use Rattle.std.proofs.lemmas.Bool.Decides.{nat_tests}
use Rattle.std.specs.Prelude.{nat_lt, nat_le, is_none}
use Rattle.score_base.specs.declared.ids.TxId.{TxId}
use Rattle.score_base.specs.declared.ids.NodeId.{NodeId}
use Rattle.score_base.specs.declared.ids.Ident.{Ident}
use Rattle.score_base.specs.declared.ids.Value.{Value}
use Rattle.score_base.specs.declared.keys.Key.{Key}
use Rattle.score_base.specs.declared.causes.Outcome.{Outcome}
use Rattle.score_base.specs.declared.causes.Outcome.TheVariants as outcome
use Rattle.score_base.specs.declared.records.Record.{Record}
use Rattle.score_base.specs.declared.records.Record.TheVariants as record'
use Rattle.placement.specs.Places.{is_among}
use Rattle.placement.specs.Clusters.{ClusterData}
use Rattle.journal_words.specs.Journals.{prepared_of, pending, holder, newer, Decision, undone, is_above, are_lists, fits_prepared, fits_outcome, fits, all_fit}

-- ---- the parts of what fits

-- a Prepared that fits
pub record FitsPrepared (c : ClusterData) (n : NodeId) (r : List Record) (t : TxId) (parts : List NodeId)
    (sid p : Ident) (reads : List Key) (writes : List (Key × Value)) : Type 0 where
  pub new : prepared_of t r ≡ None
  pub fresh : sid < p
  pub above : is_above p r ≡ true
  pub part : is_among n parts ≡ true
  pub lists : are_lists c n reads writes ≡ true
  pub free : holder r t reads writes ≡ None
  pub seen : newer r reads sid ≡ None

none-is : {A : Type 0} (o : Option A) → is_none o ≡ true → o ≡ None
none-is None h = refl
none-is (Some x) h = cc

pub prepared-fits : (c : ClusterData) (n : NodeId) (r : List Record) (t : TxId) (parts : List NodeId) (sid p : Ident)
    (reads : List Key) (writes : List (Key × Value)) → fits_prepared c n r t parts sid p reads writes ≡ true
    → FitsPrepared c n r t parts sid p reads writes
prepared-fits c n r t parts sid p reads writes h =
    let a = and_parts (is_none (prepared_of t r)) _ h in
    let b = and_parts (nat_lt sid p) _ a.1 in
    let d = and_parts (is_above p r) _ b.1 in
    let e = and_parts (is_among n parts) _ d.1 in
    let f = and_parts (are_lists c n reads writes) _ e.1 in
    let g = and_parts (is_none (holder r t reads writes)) _ f.1 in
    record {
      new = none-is (prepared_of t r) a.0;
      fresh = grind (arith, nat_tests, b.0);
      above = d.0;
      part = e.0;
      lists = f.0;
      free = none-is (holder r t reads writes) g.0;
      seen = none-is (newer r reads sid) g.1;
    }

-- the other way
pub fits-prepared : (c : ClusterData) (n : NodeId) (r : List Record) (t : TxId) (parts : List NodeId) (sid p : Ident)
    (reads : List Key) (writes : List (Key × Value)) → FitsPrepared c n r t parts sid p reads writes
    → fits_prepared c n r t parts sid p reads writes ≡ true
fits-prepared c n r t parts sid p reads writes h =
    let new = h.new in let free = h.free in let seen = h.seen in let above = h.above in let part = h.part in let lists = h.lists in
    let fresh : nat_lt sid p ≡ true = (let lt = h.fresh in grind (arith, nat_tests)) in
    rw (new, fresh, above, part, lists, free, seen) refl

-- an Ended that fits: the transaction is pending, and a final identifier is at least its proposal
pub outcome-fits : (c : ClusterData) (n : NodeId) (r : List Record) (t : TxId) (o : Outcome)
    → fits c n r (record'.Ended t o) ≡ true → (p : Ident) × (pending t r ≡ Some p)
outcome-fits c n r t o h = go (pending t r) h
  where
    go : (q : Option Ident) → fits_outcome q o ≡ true → (p : Ident) × (q ≡ Some p)
    go None h = absurd (grind (arith, h))
    go (Some p) h = (p, refl)

pub commit-fits : (c : ClusterData) (n : NodeId) (r : List Record) (t : TxId) (f : Ident)
    → fits c n r (record'.Ended t (outcome.Commit f)) ≡ true → (p : Ident) × (pending t r ≡ Some p) × (p ≤ f)
commit-fits c n r t f h = go (pending t r) h
  where
    go : (q : Option Ident) → fits_outcome q (outcome.Commit f) ≡ true → (p : Ident) × (q ≡ Some p) × (p ≤ f)
    go None h = absurd (grind (arith, h))
    go (Some p) h = (p, refl, grind (arith, nat_tests, h))

-- a Decided that fits
pub decided-fits : (c : ClusterData) (n : NodeId) (r : List Record) (t : TxId) (f : Ident) (parts : List NodeId)
    → fits c n r (record'.Decided t f parts) ≡ true → (undone t r ≡ None) × (1 ≤ f)
decided-fits c n r t f parts h =
    let a = and_parts (is_none (undone t r)) (nat_le 1 f) h in
    (none-is (undone t r) a.0, grind (arith, nat_tests, a.1))

-- a Closed that fits
pub closed-fits : (c : ClusterData) (n : NodeId) (r : List Record) (t : TxId) → fits c n r (record'.Closed t) ≡ true
    → (x : Decision) × (undone t r ≡ Some x)
closed-fits c n r t h = go (undone t r) h
  where
    go : (q : Option Decision) → is_some q ≡ true → (x : Decision) × (q ≡ Some x)
    go None h = absurd (grind (arith, h))
    go (Some x) h = (x, refl)

-- ---- lists all of whose records fit

pub newest-fits : (c : ClusterData) (n : NodeId) (x : Record) (r : List Record) → all_fit c n (x ∷ r) ≡ true
    → fits c n r x ≡ true
newest-fits c n x r h = (and_parts (fits c n r x) (all_fit c n r) h).0

pub rest-fits : (c : ClusterData) (n : NodeId) (x : Record) (r : List Record) → all_fit c n (x ∷ r) ≡ true
    → all_fit c n r ≡ true
rest-fits c n x r h = (and_parts (fits c n r x) (all_fit c n r) h).1

pub more-fits : (c : ClusterData) (n : NodeId) (x : Record) (r : List Record) → fits c n r x ≡ true
    → all_fit c n r ≡ true → all_fit c n (x ∷ r) ≡ true
more-fits c n x r f h = and_from (fits c n r x) (all_fit c n r) f h
