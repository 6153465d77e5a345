-- The decisions that are not closed, behind one more record.
use Rattle.std.proofs.Common.{◌≡◌, ◌≤◌, Bool, true, false, List, ◌∷◌, Option, Some, None, is_some, refl, ap, ◌∙◌, arith, if◌then◌else◌}
use Rattle.std.proofs.lemmas.Bool.Decides.{nat_tests}
use Rattle.std.specs.Prelude.{◌==◌}
use Rattle.std.specs.Ordering.{nat_cmp}
use Rattle.std.specs.FinMap as map
use Rattle.score_base.specs.declared.ids.TxId.{TxId}
use Rattle.score_base.specs.declared.ids.NodeId.{NodeId}
use Rattle.score_base.specs.declared.ids.Ident.{Ident}
use Rattle.score_base.specs.declared.records.Record.{Record}
use Rattle.score_base.specs.declared.records.Record.TheVariants as record'
use Rattle.score_base.specs.Tables.{Table}
use Rattle.placement.specs.Clusters.{ClusterData}
use Rattle.journal_words.specs.Journals.{undone, fits}
use Rattle.journal_words.proofs.Fits.{decided-fits}
use Rattle.grid_store.specs.Keeping.{KeepsOpen, CanOpen}

pub open-decided : (old new : List (TxId × Unit {0})) (r : List Record) (t : TxId) (f : Ident) (parts : List NodeId)
    → ((u : TxId) → map.find nat_cmp u new ≡ (if u == t then Some tt else map.find nat_cmp u old))
    → KeepsOpen old r → KeepsOpen new (record'.Decided t f parts ∷ r)
open-decided old new r t f parts found k u = go (u == t) refl
  where
    go : (b : Bool) → u == t ≡ b → is_some (map.find nat_cmp u new) ≡ is_some (undone u (record'.Decided t f parts ∷ r))
    go true e =
        let self : t == u ≡ true = grind (arith, nat_tests, e) in
        ap is_some (found u) ∙ rw (e, self) refl
    go false e =
        let other : t == u ≡ false = grind (arith, nat_tests, e) in
        ap is_some (found u) ∙ rw (e, other) (k u)

pub open-closed : (old new : List (TxId × Unit {0})) (r : List Record) (t : TxId)
    → ((u : TxId) → map.find nat_cmp u new ≡ (if u == t then None else map.find nat_cmp u old))
    → KeepsOpen old r → KeepsOpen new (record'.Closed t ∷ r)
open-closed old new r t found k u = go (u == t) refl
  where
    go : (b : Bool) → u == t ≡ b → is_some (map.find nat_cmp u new) ≡ is_some (undone u (record'.Closed t ∷ r))
    go true e =
        let self : t == u ≡ true = grind (arith, nat_tests, e) in
        ap is_some (found u) ∙ rw (e, self) refl
    go false e =
        let other : t == u ≡ false = grind (arith, nat_tests, e) in
        ap is_some (found u) ∙ rw (e, other) (k u)

none-is : {A : Type 0} (o : Option A) → is_some o ≡ false → o ≡ None
none-is None h = refl
none-is (Some x) h = cc

-- a Decided that fits is of a transaction that is not open
pub can-open : (c : ClusterData) (n : NodeId) (r : List Record) (open' : Table TxId (Unit {0})) (x : Record)
    → KeepsOpen open'.pairs r → fits c n r x ≡ true → 1 ≤ open'.spare → CanOpen open' x
can-open c n r open' (record'.Decided t f parts) k fit room =
    (none-is (map.find nat_cmp t open'.pairs) (k t ∙ ap is_some (decided-fits c n r t f parts fit).0), room)
can-open c n r open' (record'.Prepared t home parts sid p reads writes) k fit room = tt
can-open c n r open' (record'.Ended t o) k fit room = tt
can-open c n r open' (record'.Ceiling d) k fit room = tt
can-open c n r open' (record'.Closed t) k fit room = tt
