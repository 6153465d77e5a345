use Rattle.std.proofs.Common.{arith, ap, ◌+◌, ◌≤◌, length, drop, vec_capacity, length-drop}
use Rattle.score_fields.proofs.ListLoops.{room_for}
use Rattle.score_fields.proofs.lists.put_nodes.Goals as goal

pub put_byte-requires-in-loop-node : goal.put_byte-requires-in-loop-node
put_byte-requires-in-loop-node c =
    let room : length c.loop-node.out.items + length (drop c.loop-node.node-index c.args.list.now) ≤ vec_capacity c.loop-node.out = room_for c.loop-node.out.items _ _ _ _ c.loop-node.invariant.spelled c.loop-node.invariant.room in
    omega (arith, room, ap length c.as_slice-node-items.ensures, length-drop c.loop-node.node-index c.args.list.now, c.loop-node-test.true, c.loop-node.out.ok)
