use Rattle.std.proofs.Common.{arith}
use Rattle.std.proofs.lemmas.Bool.Decides.{nat_tests}
use Rattle.run_tally.proofs.ForCode.{place_here}
use Rattle.run_tally.proofs.tallies.node_place.Goals as goal

pub returns-then-eq-clause-found : goal.returns-then-eq-clause-found
returns-then-eq-clause-found c =
    place_here _ _ _ c.index-nodes-i.result (grind arith) c.index-nodes-i.is (grind (arith, nat_tests))
    c.loop-i.invariant.at c.loop-i.invariant.put
