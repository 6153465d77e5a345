use Rattle.std.proofs.Common.{◌≡◌, max, refl, ◌∙◌, arith}
use Rattle.std.proofs.lemmas.Grind.{common_steps}
use Rattle.std.proofs.lemmas.Bool.Decides.{nat_tests}
use Rattle.grid_store.proofs.StableSteps.{fewer}
use Rattle.grid_store.proofs.Applying.{may-apply, applied-one, all-applied}
use Rattle.grid_store.proofs.locks.settle.Goals as goal

pub loop-first-init : goal.loop-first-init
loop-first-init c = record { applies = c.requires; places = refl; initial = λ init starts. starts }

pub loop-first-smaller : goal.loop-first-smaller
loop-first-smaller c =
    let e = c.in-Some.ensures in
    rw e.rest (fewer c.loop-first.stable.commits c.in-Some.first e.least.member)

pub apply-requires-clause-placed : goal.apply-requires-clause-placed
apply-requires-clause-placed c = c.loop-first.invariant.applies.2.placed

pub apply-requires-clause-can : goal.apply-requires-clause-can
apply-requires-clause-can c =
    let i = c.loop-first.invariant.applies in
    may-apply i.0 i.1 _ _ _ _ _ _ _ i.2 c.in-Some.first.0 c.in-Some.first.1 c.in-Some.ensures.least.member

pub loop-first-preserved : goal.loop-first-preserved
loop-first-preserved c =
    let i = c.loop-first.invariant.applies in
    let e = c.in-Some.ensures in
    let most : c.max.result ≡ max c.loop-first.applied c.in-Some.first.0 = grind (arith, common_steps, nat_tests, c.max.ensures) in
    record {
      applies = (i.0, i.1, rw most (applied-one i.0 i.1 _ _ _ _ _ _ _ i.2 c.in-Some.first.0 c.in-Some.first.1 c.least.result _ _ _ c.least.ensures.none c.least.ensures.least e.least.below e.least.member e.rest c.free.ensures.keys c.free.ensures.written c.apply.ensures));
      places = c.apply.ensures.places ∙ c.loop-first.invariant.places;
      initial = λ init starts. c.apply.ensures.initial init (c.loop-first.invariant.initial init starts);
    }

pub returns-clause-stable : goal.returns-clause-stable
returns-clause-stable c =
    let i = c.loop-first.invariant.applies in
    rw c.in_default.ensures.rest (all-applied i.0 i.1 _ _ _ _ _ _ _ i.2 c.least.result c.least.ensures.none c.least.ensures.least (c.in_default.ensures.none.0 refl)).0

pub returns-clause-applied : goal.returns-clause-applied
returns-clause-applied c =
    let i = c.loop-first.invariant.applies in
    (all-applied i.0 i.1 _ _ _ _ _ _ _ i.2 c.least.result c.least.ensures.none c.least.ensures.least (c.in_default.ensures.none.0 refl)).1

pub returns-clause-locks : goal.returns-clause-locks
returns-clause-locks c =
    let i = c.loop-first.invariant.applies in
    (all-applied i.0 i.1 _ _ _ _ _ _ _ i.2 c.least.result c.least.ensures.none c.least.ensures.least (c.in_default.ensures.none.0 refl)).2
