use Rattle.std.proofs.Common.{arith}
use Rattle.std.proofs.lemmas.Grind.{common_steps}
use Rattle.run_state.proofs.Keeping.{keeps-act}
use Rattle.run_state.proofs.states.RunState.keep.Goals as goal

pub invariant_of-result : goal.invariant_of-result
invariant_of-result c =
    keeps-act c.self.inside.doc.now c.self.inside.acts.items c.push.new.items.items c.args.act c.self.inside.sent.items c.post.new.sent.items c.self.inside.gone.items c.mark_gone.new.gone.items c.self.inside.got c.in_ok-got.got c.self.inside.nodes.items c.keep_node.new.nodes.items c.self.inside.stories.items c.in_ok-stories.stories.items c.in_ok-telling.telling
    c.self.invariant
    c.in_ok-push.ensures.ok
    c.in_ok-post.ensures
    c.in_ok-mark_gone.ensures
    (grind (arith, common_steps))
    c.in_ok-keep_node.ensures.count
    (λ n p q. grind (arith, common_steps, c.in_ok-keep_node.ensures.each n p q))
    (grind (arith, common_steps))
    c.in_ok-stories.ensures
