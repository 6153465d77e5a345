-- Where each record fits those before it, each record of Small does.
use Rattle.std.proofs.Common.{◌≡◌, ◌<◌, ◌&&◌, ◌==◌, Bool, true, false, List, [], ◌∷◌, refl, sym, ap, ◌∙◌, arith, if◌then◌else◌}
use Rattle.std.proofs.lemmas.Bool.{and_parts, and_from}
use Rattle.std.proofs.lemmas.Bool.Decides.{nat_tests}
use Rattle.std.specs.Prelude.{nat_lt, nat_le, is_none}
use Rattle.score_base.specs.declared.ids.TxId.{TxId}
use Rattle.score_base.specs.declared.ids.NodeId.{NodeId}
use Rattle.score_base.specs.declared.ids.Ident.{Ident}
use Rattle.score_base.specs.declared.records.Record.{Record}
use Rattle.score_base.specs.declared.records.Record.TheVariants as record'
use Rattle.placement.specs.Clusters.{ClusterData}
use Rattle.journal_words.specs.Journals.{pending, decision, undone, floor, fits, all_fit}
use Rattle.journal_words.specs.Small.{without_ceilings, without_decided, small}
use Rattle.journal_words.proofs.Fits.{newest-fits, rest-fits}
use Rattle.journal_words.proofs.ParticipantWords.{same_word, pending-reads}
use Rattle.journal_words.proofs.AlikeWords.{ceilings-participant, ceilings-closed, ceilings-decision, ceilings-floor, decided-participant, decided-floor, decided-decision, has_none, none-small, none-closed, none-decided, fit-highest, alike-small}
use Rattle.journal_words.proofs.AlikeFits.{prepared-same, alike-fits}

-- what fits fits where the Ceilings are taken out
pub ceilings-fit : (c : ClusterData) (n : NodeId) (r : List Record) → all_fit c n r ≡ true →
    all_fit c n (without_ceilings r) ≡ true
ceilings-fit c n [] h = refl
ceilings-fit c n (record'.Ceiling d ∷ r) h = ceilings-fit c n r (rest-fits c n (record'.Ceiling d) r h)
ceilings-fit c n (record'.Prepared t home parts sid p reads writes ∷ r) h =
    and_from _ _ (prepared-same c n (without_ceilings r) r (ceilings-participant r) t home parts sid p reads writes
    ∙ newest-fits c n (record'.Prepared t home parts sid p reads writes) r h)
    (ceilings-fit c n r (rest-fits c n (record'.Prepared t home parts sid p reads writes) r h))
ceilings-fit c n (record'.Ended t o ∷ r) h =
    let same = same_word (pending t) (pending-reads t) (without_ceilings r) r (ceilings-participant r) in
    and_from _ _ (rw same (newest-fits c n (record'.Ended t o) r h))
    (ceilings-fit c n r (rest-fits c n (record'.Ended t o) r h))
ceilings-fit c n (record'.Decided t f parts ∷ r) h =
    and_from _ _ (rw (
      ceilings-closed t r,
      ceilings-decision t r,
    ) (newest-fits c n (record'.Decided t f parts) r h))
    (ceilings-fit c n r (rest-fits c n (record'.Decided t f parts) r h))
ceilings-fit c n (record'.Closed t ∷ r) h =
    and_from _ _ (rw (
      ceilings-closed t r,
      ceilings-decision t r,
    ) (newest-fits c n (record'.Closed t) r h))
    (ceilings-fit c n r (rest-fits c n (record'.Closed t) r h))

-- where there is no Closed, a decision that stands is undone
open-undone : (t : TxId) (r : List Record) → has_none r ≡ true → undone t r ≡ decision t r
open-undone t r h = rw (none-closed t r h) refl

decided-fits : (c : ClusterData) (n : NodeId) (t u : TxId) (f : Ident) (parts : List NodeId) (r : List Record) →
    has_none r ≡ true → (u == t ≡ false) → fits c n r (record'.Decided u f parts) ≡ true →
    fits c n (without_decided t r) (record'.Decided u f parts) ≡ true
decided-fits c n t u f parts r none other h =
    let same : undone u (without_decided t r) ≡ undone u r =
    open-undone u (without_decided t r) (none-decided t r none) ∙ decided-decision u t r
    ∙ rw (let ne : t == u ≡ false = grind (arith, nat_tests, other) in ne) (sym (open-undone u r none)) in
    ap (λ o. is_none o && nat_le 1 f) same ∙ h

pub decided-fit : (c : ClusterData) (n : NodeId) (t : TxId) (r : List Record) → has_none r ≡ true →
    all_fit c n r ≡ true → all_fit c n (without_decided t r) ≡ true
decided-fit c n t [] none h = refl
decided-fit c n t (record'.Ceiling d ∷ r) none h =
    and_from _ _ (rw (decided-floor t r) (newest-fits c n (record'.Ceiling d) r h))
    (decided-fit c n t r none (rest-fits c n (record'.Ceiling d) r h))
decided-fit c n t (record'.Prepared u home parts sid p reads writes ∷ r) none h =
    and_from _ _ (prepared-same c n (without_decided t r) r (decided-participant t r) u home parts sid p reads writes
    ∙ newest-fits c n (record'.Prepared u home parts sid p reads writes) r h)
    (decided-fit c n t r none (rest-fits c n (record'.Prepared u home parts sid p reads writes) r h))
decided-fit c n t (record'.Ended u o ∷ r) none h =
    let same = same_word (pending u) (pending-reads u) (without_decided t r) r (decided-participant t r) in
    and_from _ _ (rw same (newest-fits c n (record'.Ended u o) r h))
    (decided-fit c n t r none (rest-fits c n (record'.Ended u o) r h))
decided-fit c n t (record'.Decided u f parts ∷ r) none h =
    go (u == t) (λ other. decided-fits c n t u f parts r none other (newest-fits c n (record'.Decided u f parts) r h))
    refl (decided-fit c n t r none (rest-fits c n (record'.Decided u f parts) r h))
  where
    go : (b : Bool) → (b ≡ false → fits c n (without_decided t r) (record'.Decided u f parts) ≡ true) → b ≡ b →
        all_fit c n (without_decided t r) ≡ true →
        all_fit c n (if b then without_decided t r else record'.Decided u f parts ∷ without_decided t r) ≡ true
    go true stays same e = e
    go false stays same e = and_from _ _ (stays refl) e
decided-fit c n t (record'.Closed u ∷ r) none h = absurd (grind (arith, none))

-- each record of Small fits those before it
pub small-fit : (c : ClusterData) (n : NodeId) (r : List Record) → all_fit c n r ≡ true → all_fit c n (small r) ≡ true
small-fit c n [] h = refl
small-fit c n (record'.Ceiling d ∷ r) h =
    let rest = rest-fits c n (record'.Ceiling d) r h in
    let fits_now = newest-fits c n (record'.Ceiling d) r h in
    let lt : floor r < d = (let a = (and_parts _ (nat_lt (floor r) d) fits_now).1 in grind (arith, nat_tests, a)) in
    let below : floor (without_ceilings (small r)) < d =
    (let a = alike-small r (fit-highest c n r rest) in omega (arith, ceilings-floor (small r), a.clock, lt)) in
    and_from _ _ (and_from _ _ (and_parts _ (nat_lt (floor r) d) fits_now).0 (grind (
      arith,
      nat_tests,
      below,
    ))) (ceilings-fit c n (small r) (small-fit c n r rest))
small-fit c n (record'.Closed t ∷ r) h =
    decided-fit c n t (small r) (none-small r) (small-fit c n r (rest-fits c n (record'.Closed t) r h))
small-fit c n (x ∷ r) h =
    let rest = rest-fits c n x r h in
    and_from _ _ (alike-fits c n (small r) r (alike-small r (fit-highest c n r rest)) x
    ∙ newest-fits c n x r h) (small-fit c n r rest)
