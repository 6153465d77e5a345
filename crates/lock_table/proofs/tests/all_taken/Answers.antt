use Rattle.std.proofs.Common.{◌≡◌, Bool, false, ◌+◌, inl, inr, IsTrue, IsNone, nat_eq, sym, ap, ◌∙◌, arith}
use Rattle.std.specs.FinSet.{contains, contains-empty}
use Rattle.std.proofs.lemmas.Bool.{eqb-true}
use Rattle.std.proofs.lemmas.Grind.{common_steps}
use Rattle.lock_table.specs.Keys.{Pairs, by_transaction, holds_lock}
use Rattle.lock_table.proofs.Least.{one_of, both_of}
use Rattle.lock_table.proofs.tests.all_taken.Goals as goal

nobody : (b : Bool) → b ≡ false → ¬ IsTrue b
nobody b none held = cc

pub loop-i-init : goal.loop-i-init
loop-i-init c = record {
  room = grind (arith, common_steps);
  holders = λ u k held. absurd
      (nobody _ (ap (λ (s : Pairs). contains s (u, k))
      (c.reserve.ensures.keys ∙ c.new-locks.ensures.keys) ∙ contains-empty by_transaction (u, k)) held);
}

pub take-requires-clause-free : goal.take-requires-clause-free
take-requires-clause-free c = let none : IsNone c.holder.result = grind
    (arith, common_steps) in c.holder.ensures.none.0 none

pub take-requires-clause-idle : goal.take-requires-clause-idle
take-requires-clause-idle c k = λ held. omega (arith, c.loop-i.invariant.holders (c.loop-i.i + 1) k held)

pub loop-i-preserved : goal.loop-i-preserved
loop-i-preserved c = record {
  room = grind (arith, common_steps);
  holders = λ u k held. elim (one_of (holds_lock c.loop-i.locks u k) _ (sym (c.take.ensures.keys u k) ∙ held)) [
    | inl before ↦ omega (arith, c.loop-i.invariant.holders u k before)
    | inr now ↦ let same : u ≡ c.loop-i.i + 1 = eqb-true u (c.loop-i.i + 1)
        (both_of (nat_eq u (c.loop-i.i + 1)) _ now).0 in omega (arith, same)
  ];
}
