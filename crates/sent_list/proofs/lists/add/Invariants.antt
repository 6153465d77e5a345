use Rattle.std.proofs.Common.{◌≡◌, ◌+◌, ◌≤◌, ◌++◌, false, map, length, vec_len, vec_capacity}
use Rattle.std.specs.Vec.Iter.{into_iter_items}
use Rattle.sent_list.proofs.lists.add.Given as goal

abbrev pub invariant-loop-message : goal.invariant-loop-message
invariant-loop-message l = record {
  room_sent : vec_len l.sent + length (into_iter_items l.message-iterator) ≤ vec_capacity l.sent;
  room_gone : vec_len l.gone + length (into_iter_items l.message-iterator) ≤ vec_capacity l.gone;
  sent : l.sent.items ++ into_iter_items l.message-iterator ≡ l.fn.sent.items ++ l.fn.messages.items;
  gone : l.gone.items ++ map (λ m. false) (into_iter_items l.message-iterator)
      ≡ l.fn.gone.items ++ map (λ m. false) l.fn.messages.items;
}
