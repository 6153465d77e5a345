use Rattle.std.proofs.Common.{ℕ, List, length, ap, ◌∙◌, arith}
use Rattle.std.proofs.lemmas.Grind.{common_steps}
use Rattle.placement.specs.Clusters.{ClusterData}
use Rattle.placement.specs.Places.{holders}
use Rattle.run_state.specs.Kept.{past}
use Rattle.run_state.proofs.Told.{asking-here}
use Rattle.run_state.proofs.states.RunState.asking.Goals as goal

pub returns : goal.returns
returns c =
    asking-here c.args.self.now.doc c.doc.result.now (past c.args.self.now) c.args.message.now c.in-ReadReq.q c.in-Some.story.now c.in_ok-with_request.field-0 _
    c.doc.ensures
    (grind (arith, common_steps))
    (grind (arith, common_steps))
    (ap (λ (ns : List ℕ). length ns) (c.holders-holders.ensures ∙ ap (λ (z : ClusterData). holders z.places c.in-ReadReq.q.key) (c.behind-doc.view_is ∙ c.cluster.ensures.value)))
    c.in_ok-with_request.ensures
