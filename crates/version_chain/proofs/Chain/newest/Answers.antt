use Rattle.std.proofs.Common.{◌≡◌, ◌+◌, ◌-◌, length, arith, ap, ◌∙◌}
use Rattle.std.proofs.lemmas.Grind.{common_steps}
use Rattle.version_chain.specs.Versions.{newest_in_chain}
use Rattle.version_chain.proofs.Rising.{newest_last}
use Rattle.version_chain.proofs.Chain.newest.Goals as goal

pub returns-in_default-clause-newest : goal.returns-in_default-clause-newest
returns-in_default-clause-newest c =
    let vs = c.self.inside.versions.pairs in
    let some : c.len.result - 1 + 1 ≡ length vs = grind (arith, common_steps, c.len.ensures.value, c.in_default) in
    ap (λ v. v.0) c.pair.ensures ∙ newest_last 0 vs (c.len.result - 1) _ c.self.invariant some
    ∙ ap (λ s. newest_in_chain s.versions) c.self.view_is
