use Rattle.std.proofs.Common.{◌≡◌, Bool, false, ◌||◌, ap, ◌∙◌, IsTrue, IsNone, arith}
use Rattle.std.specs.FinSet.{contains, contains-empty}
use Rattle.std.proofs.lemmas.Grind.{common_steps}
use Rattle.lock_table.specs.Keys.{Pairs, by_transaction}
use Rattle.lock_table.proofs.tests.least_holder.Goals as goal

absent : (b : Bool) → b ≡ false → ¬ IsTrue b
absent b no_member member = cc

pub take-requires-clause-free : goal.take-requires-clause-free
take-requires-clause-free g c = let none : IsNone c.holder.result = grind (arith, common_steps) in c.holder.ensures.none.0 none

pub take-requires-clause-idle : goal.take-requires-clause-idle
take-requires-clause-idle g c k = absent _ (ap (λ (s : Pairs). contains s (4, k)) (c.reserve.ensures.keys ∙ c.new-locks.ensures.keys) ∙ contains-empty by_transaction (4, k))

pub take-requires-2-clause-free : goal.take-requires-2-clause-free
take-requires-2-clause-free g c = let none : IsNone c.holder-2.result = grind (arith, common_steps) in c.holder-2.ensures.none.0 none

pub take-requires-2-clause-idle : goal.take-requires-2-clause-idle
take-requires-2-clause-idle g c k =
    absent _
    (c.take.ensures.keys 2 k ∙ ap (λ b. b || false) (ap (λ (s : Pairs). contains s (2, k)) (c.reserve.ensures.keys ∙ c.new-locks.ensures.keys) ∙ contains-empty by_transaction (2, k)))
