use Rattle.std.proofs.Common.{◌≡◌, ◌+◌, ◌≤◌, ◌++◌, length}
use Rattle.std.specs.Vec.Iter.{into_iter_items}
use Rattle.grid_model.specs.Schedules.{numbered}
use Rattle.node_core.specs.Links.{posts}
use Rattle.sent_list.proofs.posting.number_all.Given as goal

abbrev pub invariant-loop-out : goal.invariant-loop-out
invariant-loop-out l = record {
  small : l.next + length (posts l.from (into_iter_items l.out-iterator)) ≤ l.fn.m + length (posts l.from l.fn.outs.items);
  acts : l.acts.items ++ numbered l.next l.from (into_iter_items l.out-iterator)
      ≡ l.fn.acts.items ++ numbered l.fn.m l.from l.fn.outs.items;
  messages : l.messages.items ++ posts l.from (into_iter_items l.out-iterator)
      ≡ l.fn.messages.items ++ posts l.from l.fn.outs.items;
}
