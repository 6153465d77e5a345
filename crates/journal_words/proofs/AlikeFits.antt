-- Alike journals stay so behind one record more, and the same record fits them.
use Rattle.std.proofs.Common.{◌≡◌, ◌&&◌, ◌||◌, ◌==◌, max, Bool, true, false, List, ◌∷◌, Option, Some, None, is_some, refl, ap, if◌then◌else◌}
use Rattle.std.specs.Prelude.{nat_le, is_none}
use Rattle.score_base.specs.declared.ids.TxId.{TxId}
use Rattle.score_base.specs.declared.ids.NodeId.{NodeId}
use Rattle.score_base.specs.declared.ids.Ident.{Ident}
use Rattle.score_base.specs.declared.ids.Value.{Value}
use Rattle.score_base.specs.declared.keys.Key.{Key}
use Rattle.score_base.specs.declared.causes.Outcome.TheVariants as outcome
use Rattle.score_base.specs.declared.records.Record.{Record}
use Rattle.score_base.specs.declared.records.Record.TheVariants as record'
use Rattle.placement.specs.Clusters.{ClusterData}
use Rattle.journal_words.specs.Journals.{prepared_of, pending, floor, holder, newer, Decision, decision, is_closed, undone, is_above, fits}
use Rattle.journal_words.specs.Small.{of_participant, AreAlike}
use Rattle.journal_words.proofs.ParticipantWords.{same_word, prepared-reads, pending-reads, holder-reads, newer-reads, above-reads}

-- ---- alike behind one record more

more-undone : (t : TxId) (x : Record) (r s : List Record) → undone t r ≡ undone t s →
    undone t (x ∷ r) ≡ undone t (x ∷ s)
more-undone t (record'.Decided u f parts) r s e = go (u == t) (is_closed t r) (is_closed t s) e
  where
    go : (a b c : Bool) → (if b then None else decision t r) ≡ (if c then None else decision t s) →
        (let y : Option Decision = Some (record { final = f; parts = parts }) in
        (if (if a then false else b) then None else (if a then y else decision t r))
        ≡ (if (if a then false else c) then None else (if a then y else decision t s)))
    go true b c e = refl
    go false b c e = e
more-undone t (record'.Closed u) r s e = go (u == t) (is_closed t r) (is_closed t s) e
  where
    go : (a b c : Bool) → (if b then None else decision t r) ≡ (if c then None else decision t s) →
        (if a || b then None else decision t r) ≡ (if a || c then None else decision t s)
    go true b c e = refl
    go false b c e = e
more-undone t x r s e = e

more-floor : (x : Record) (r s : List Record) → floor r ≡ floor s → floor (x ∷ r) ≡ floor (x ∷ s)
more-floor (record'.Prepared t home parts sid p reads writes) r s e = ap (max p) e
more-floor (record'.Ended t (outcome.Commit f)) r s e = ap (max f) e
more-floor (record'.Ended t outcome.Abort) r s e = e
more-floor (record'.Ceiling c) r s e = ap (max c) e
more-floor x r s e = e

more-participant : (x : Record) (r s : List Record) → of_participant r ≡ of_participant s →
    of_participant (x ∷ r) ≡ of_participant (x ∷ s)
more-participant (record'.Prepared t home parts sid p reads writes) r s e =
    ap (λ q. record'.Prepared t home parts sid p reads writes ∷ q) e
more-participant (record'.Ended t o) r s e = ap (λ q. record'.Ended t o ∷ q) e
more-participant x r s e = e

pub alike-more : (x : Record) (r s : List Record) → AreAlike r s → AreAlike (x ∷ r) (x ∷ s)
alike-more x r s a =
    record {
      ballots = more-participant x r s a.ballots;
      clock = more-floor x r s a.clock;
      decisions = λ t. more-undone t x r s (a.decisions t);
    }

-- ---- what fits

-- whether a Prepared fits is told by the records of a participant
pub prepared-same : (c : ClusterData) (n : NodeId) (r s : List Record) → of_participant r ≡ of_participant s →
    (t : TxId) (home : NodeId) (parts : List NodeId) (sid p : Ident) (reads : List Key) (writes : List (Key × Value)) →
    fits c n r (record'.Prepared t home parts sid p reads writes)
    ≡ fits c n s (record'.Prepared t home parts sid p reads writes)
prepared-same c n r s e t home parts sid p reads writes =
    rw (
      same_word (prepared_of t) (prepared-reads t) r s e,
      same_word (is_above p) (above-reads p) r s e,
      same_word (λ q. holder q t reads writes) (holder-reads t reads writes) r s e,
      same_word (λ q. newer q reads sid) (newer-reads reads sid) r s e,
    ) refl

pub alike-fits : (c : ClusterData) (n : NodeId) (r s : List Record) → AreAlike r s → (x : Record) →
    fits c n r x ≡ fits c n s x
alike-fits c n r s a (record'.Prepared t home parts sid p reads writes) =
    prepared-same c n r s a.ballots t home parts sid p reads writes
alike-fits c n r s a (record'.Ended t o) = rw (same_word (pending t) (pending-reads t) r s a.ballots) refl
alike-fits c n r s a (record'.Ceiling d) = rw a.clock refl
alike-fits c n r s a (record'.Decided t f parts) = ap (λ o. is_none o && nat_le 1 f) (a.decisions t)
alike-fits c n r s a (record'.Closed t) = ap is_some (a.decisions t)
