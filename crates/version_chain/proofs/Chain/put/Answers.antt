use Rattle.std.proofs.Common.{arith, subst, sym, ap, ◌∙◌}
use Rattle.std.specs.Ordering.{nat_cmp}
use Rattle.std.specs.List.{insert}
use Rattle.std.proofs.lemmas.List.Edits.{insert_end}
use Rattle.score_base.specs.Tables.{IsGap}
use Rattle.version_chain.proofs.Rising.{RisesFrom-push}
use Rattle.version_chain.proofs.Places.{gap_at_end}
use Rattle.version_chain.proofs.Chain.put.Goals as goal

pub insert-requires-clause-place : goal.insert-requires-clause-place
insert-requires-clause-place c =
    let above = rw (← c.self.view_is) at c.requires.above in
    subst (λ i. IsGap nat_cmp c.self.inside.versions.pairs c.args.vn i) (sym c.len.ensures.value) (gap_at_end _ _ above)

pub invariant_of-self : goal.invariant_of-self
invariant_of-self c =
    let above = rw (← c.self.view_is) at c.requires.above in
    let pairs = c.self.inside.versions.pairs in
    let all = c.insert.ensures.pairs ∙ ap (λ i. insert pairs i (c.args.vn, c.args.value)) c.len.ensures.value
    ∙ insert_end pairs (c.args.vn, c.args.value) in
    rw all (RisesFrom-push 0 _ _ c.self.invariant (omega (arith, above)) above)
