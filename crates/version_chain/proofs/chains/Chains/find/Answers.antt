use Rattle.std.proofs.Common.{◌≡◌, Some, sym, ap, ◌∙◌, arith}
use Rattle.std.proofs.lemmas.Grind.{common_steps}
use Rattle.version_chain.proofs.Halvings.{at_most_64}
use Rattle.std.specs.Cmp.Lexicographic.{nat_list_cmp_total}
use Rattle.score_base.proofs.TableMaps.{find_at, find_absent, gap_absent}
use Rattle.version_chain.specs.Kept.{place_of}
use Rattle.version_chain.proofs.chains.Chains.find.Goals as goal

pub returns-in-Ok-clause-place : goal.returns-in-Ok-clause-place
returns-in-Ok-clause-place g c =
    let found = c.in-Ok.ensures.found in
    let places = c.self.inside.places.pairs in
    rw (← c.self.view_is) (ap (λ e. Some e.1) c.pair.ensures
    ∙ sym (find_at nat_list_cmp_total places c.in-Ok.i c.pair.result c.args.key.now c.in-Ok.ensures.rising found.0 (found.1 c.pair.result)))

pub returns-in-Ok-clause-inside : goal.returns-in-Ok-clause-inside
returns-in-Ok-clause-inside g c =
    let found = c.in-Ok.ensures.found in
    let places = c.self.inside.places.pairs in
    let is : place_of c.args.key.now places ≡ Some c.pair.result.1 =
    find_at nat_list_cmp_total places c.in-Ok.i c.pair.result c.args.key.now c.in-Ok.ensures.rising found.0 (found.1 c.pair.result)
    ∙ ap (λ e. Some e.1) (sym c.pair.ensures) in
    let low = c.self.invariant.inside c.args.key.now c.pair.result.1 is in
    let few = c.self.invariant.few in
    rw (← c.self.view_is) (omega (arith, low, few))

pub returns-in-Err-clause-place : goal.returns-in-Err-clause-place
returns-in-Err-clause-place g c =
    let places = c.self.inside.places.pairs in
    rw (← c.self.view_is) (sym (find_absent nat_list_cmp_total places c.args.key.now (gap_absent nat_list_cmp_total places c.args.key.now c.in-Err.field-0 c.in-Err.ensures.absent)))

pub returns-in-Ok-clause-small : goal.returns-in-Ok-clause-small
returns-in-Ok-clause-small g c =
    let many = c.len.ensures.value in
    let few = at_most_64 _ _ c.find.ensures.cost (grind (arith, common_steps, many)) in
    let count = c.find.ensures.count in
    let low = c.requires in
    omega (arith, few, count, low)

pub returns-in-Err-clause-small : goal.returns-in-Err-clause-small
returns-in-Err-clause-small g c =
    let many = c.len.ensures.value in
    let few = at_most_64 _ _ c.find.ensures.cost (grind (arith, common_steps, many)) in
    let count = c.find.ensures.count in
    let low = c.requires in
    omega (arith, few, count, low)
