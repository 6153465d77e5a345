use Rattle.std.proofs.Common.{◌+◌, ◌++◌, ◌∙◌, ap, length, rules}
use Rattle.std.proofs.Math.Nat.{le_trans}
use Rattle.std.specs.Vec.Iter.{into_iter_items}
use Rattle.grid_model.specs.Schedules.{numbered}
use Rattle.node_core.specs.Links.{posts}
use Rattle.node_core.proofs.Posts.{room_one, sent_step, acts_step, older_step}
use Rattle.node_core.proofs.links.post_all.Goals as goal

pub post_one-requires : goal.post_one-requires
post_one-requires g c =
    room_one c.args.from c.in-Some.out _ _ (g.L.Link.sent c.loop-out.link) (g.L.Link.sent c.args.link.now) (posts c.args.from c.args.outs.items)
    c.in-Some.ensures.steps.0 c.loop-out.invariant.sent c.requires

pub loop-out-preserved : goal.loop-out-preserved
loop-out-preserved g c =
    record {
      room = search rules;
      acts =
          ap (λ xs. xs ++ numbered (length (g.L.Link.sent c.post_one.new.link) + 1) c.args.from (into_iter_items c.next.new.self)) c.push_reserved.ensures.items
          ∙ acts_step c.args.from c.in-Some.out _ _ (g.L.Link.sent c.loop-out.link) (g.L.Link.sent c.post_one.new.link) _ c.loop-out.acts.items _
          c.in-Some.ensures.steps.0 c.in_ok-act.ensures.sent c.in_ok-act.ensures.act c.loop-out.invariant.acts;
      sent =
          sent_step c.args.from c.in-Some.out _ _ (g.L.Link.sent c.loop-out.link) (g.L.Link.sent c.post_one.new.link) (g.L.Link.sent c.args.link.now) (posts c.args.from c.args.outs.items)
          c.in-Some.ensures.steps.0 c.loop-out.invariant.sent c.in_ok-act.ensures.sent;
      later = le_trans c.loop-out.invariant.later c.in_ok-act.ensures.later;
      older = older_step (g.L.Link.sent c.args.link.now) (g.L.Link.sent c.loop-out.link) (g.L.Link.sent c.post_one.new.link) _ c.loop-out.invariant.older c.in_ok-act.ensures.sent;
    }
