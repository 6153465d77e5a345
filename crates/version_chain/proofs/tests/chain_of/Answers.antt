use Rattle.std.proofs.Common.{◌+◌, ◌≤◌, length, arith, sym, subst, ap, ◌∙◌}
use Rattle.version_chain.specs.Versions.{newest_in_chain}
use Rattle.version_chain.proofs.Rising.{newest-push, length-push}
use Rattle.version_chain.proofs.tests.chain_of.Goals as goal

pub loop-i-preserved : goal.loop-i-preserved
loop-i-preserved c =
    let i = c.loop-i.i in
    let before = c.loop-i.invariant in
    let vs = c.loop-i.chain.versions in
    let size = ap length c.put.ensures.versions ∙ length-push vs (i + 1, i) ∙ ap (λ n. n + 1) before.0 in
    let latest = newest-push vs (i + 1, i) (i + 1) (omega (arith, before.1)) (omega arith) in
    (size, subst (λ us. newest_in_chain us ≤ i + 1) (sym c.put.ensures.versions) latest, omega (arith, before.2, c.put.ensures.spare))
