use Rattle.std.proofs.Common.{◌≡◌, ◌++◌, ◌≤◌, ◌+◌, drop, take, length, vec_capacity}
use Rattle.std.specs.List.{AllByRecursion}
use Rattle.score_fields.specs.Spelling.{IsNode, nodes_bytes}
use Rattle.score_fields.proofs.lists.put_nodes.Given as goal

abbrev pub invariant-loop-node : goal.invariant-loop-node
invariant-loop-node l = record {
  spelled : l.out.items ++ drop l.node-index l.list ≡ l.fn.out.items ++ nodes_bytes l.list;
  room : length l.fn.out.items + length (nodes_bytes l.list) ≤ vec_capacity l.out;
  each : AllByRecursion IsNode (take l.node-index l.list);
  capacity : vec_capacity l.fn.out ≤ vec_capacity l.out;
}
