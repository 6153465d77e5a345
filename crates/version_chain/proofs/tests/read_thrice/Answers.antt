use Rattle.std.proofs.Common.{arith}
use Rattle.version_chain.proofs.Halvings.{at_most_16}
use Rattle.version_chain.proofs.tests.read_thrice.Goals as goal

pub at_counted-newest-requires : goal.at_counted-newest-requires
at_counted-newest-requires g c =
    let first = at_most_16 _ _ c.at_counted-oldest.ensures.cost c.requires.few in
    omega (arith, first, c.requires.start)

pub at_counted-middle-requires : goal.at_counted-middle-requires
at_counted-middle-requires g c =
    let first = at_most_16 _ _ c.at_counted-oldest.ensures.cost c.requires.few in
    let second = at_most_16 _ _ c.at_counted-newest.ensures.cost c.requires.few in
    omega (arith, first, second, c.requires.start)

pub returns : goal.returns
returns g c =
    let first = at_most_16 _ _ c.at_counted-oldest.ensures.cost c.requires.few in
    let second = at_most_16 _ _ c.at_counted-newest.ensures.cost c.requires.few in
    let third = at_most_16 _ _ c.at_counted-middle.ensures.cost c.requires.few in
    omega (arith, first, second, third, c.requires.start)
