use Rattle.std.proofs.Common.{◌≡◌, ◌+◌, ◌≤◌, ◌++◌, length, vec_len, vec_capacity}
use Rattle.std.specs.Vec.Iter.{into_iter_items}
use Rattle.grid_model.specs.Schedules.{numbered}
use Rattle.node_core.specs.Links.{posts}
use Rattle.node_core.proofs.links.post_all.Given as goal

abbrev pub invariant-loop-out : goal.invariant-loop-out
invariant-loop-out g l = record {
  room : vec_len l.acts + length (into_iter_items l.out-iterator) ≤ vec_capacity l.acts;
  acts : l.acts.items ++ numbered (length (g.L.Link.sent l.link) + 1) l.from (into_iter_items l.out-iterator)
      ≡ numbered (length (g.L.Link.sent l.fn.link) + 1) l.from l.fn.outs.items;
  sent : g.L.Link.sent l.link ++ posts l.from (into_iter_items l.out-iterator)
      ≡ g.L.Link.sent l.fn.link ++ posts l.from l.fn.outs.items;
  later : g.L.Link.faults l.fn.link ≤ g.L.Link.faults l.link;
  older : length (g.L.Link.sent l.fn.link) ≤ length (g.L.Link.sent l.link);
}
