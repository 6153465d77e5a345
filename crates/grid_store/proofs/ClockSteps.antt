-- The clock behind one more record.
use Rattle.std.proofs.Common.{◌≡◌, ◌+◌, ◌∷◌, max, List, arith}
use Rattle.std.proofs.lemmas.Bool.{and_from}
use Rattle.std.proofs.lemmas.Bool.Decides.{nat_tests}
use Rattle.std.specs.Prelude.{nat_lt}
use Rattle.score_base.specs.declared.ids.TxId.{TxId}
use Rattle.score_base.specs.declared.ids.NodeId.{NodeId}
use Rattle.score_base.specs.declared.ids.Ident.{Ident}
use Rattle.score_base.specs.declared.ids.Value.{Value}
use Rattle.score_base.specs.declared.keys.Key.{Key}
use Rattle.score_base.specs.declared.causes.Outcome.TheVariants as outcome
use Rattle.score_base.specs.declared.records.Record.{Record}
use Rattle.score_base.specs.declared.records.Record.TheVariants as record'
use Rattle.node_clock.specs.Clock.{Clock}
use Rattle.journal_words.specs.Journals.{is_above}
use Rattle.journal_words.proofs.Floors.{above-higher}
use Rattle.grid_store.specs.Keeping.{KeepsClock}

-- the clock learns a proposal
pub clock-prepared : (old new : Clock) (r : List Record) (t : TxId) (home : NodeId) (parts : List NodeId) (sid p : Ident) (reads : List Key) (writes : List (Key × Value)) → KeepsClock old r → new.floor ≡ max old.floor p → new.next ≡ max old.next p → KeepsClock new (record'.Prepared t home parts sid p reads writes ∷ r)
clock-prepared old new r t home parts sid p reads writes k f n = record {
  floor = (let e = k.floor in omega (arith, e, f));
  above = and_from (nat_lt p (1 + new.next)) (is_above (1 + new.next) r) (grind (arith, nat_tests, n)) (above-higher (1 + old.next) (1 + new.next) r (omega (arith, n)) k.above);
}

-- and a final identifier
pub clock-commit : (old new : Clock) (r : List Record) (t : TxId) (f : Ident) → KeepsClock old r → new.floor ≡ max old.floor f → new.next ≡ max old.next f → KeepsClock new (record'.Ended t (outcome.Commit f) ∷ r)
clock-commit old new r t f k fl n = record {
  floor = (let e = k.floor in omega (arith, e, fl));
  above = and_from (nat_lt f (1 + new.next)) (is_above (1 + new.next) r) (grind (arith, nat_tests, n)) (above-higher (1 + old.next) (1 + new.next) r (omega (arith, n)) k.above);
}

-- a ceiling raises the floor alone
pub clock-ceiling : (old new : Clock) (r : List Record) (d : Ident) → KeepsClock old r → new.floor ≡ max old.floor d → new.next ≡ old.next → KeepsClock new (record'.Ceiling d ∷ r)
clock-ceiling old new r d k fl n = record {
  floor = (let e = k.floor in omega (arith, e, fl));
  above = above-higher (1 + old.next) (1 + new.next) r (omega (arith, n)) k.above;
}
