use Rattle.std.proofs.Common.{◌≤◌, ◌+◌, ◌*◌, length}
use Rattle.std.specs.Prelude.{vec_len, vec_capacity}
use Rattle.node_core.proofs.Released.{IsServing}
use Rattle.node_core.proofs.tells.release_all.Given as goal

abbrev pub invariant-loop-turn : goal.invariant-loop-turn
invariant-loop-turn l = record {
  serving : IsServing l.store l.n l.initial.waiting.reads l.initial.outs.items l.waiting.reads l.outs.items;
  room : vec_len l.outs + 3 * length l.waiting.reads ≤ vec_capacity l.outs;
  fewer : length l.waiting.reads + l.turn ≤ length l.initial.waiting.reads;
}
