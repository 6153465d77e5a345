use Rattle.std.proofs.Common.{◌≡◌, ◌++◌, drop}
use Rattle.history_print.specs.Acts.{spaced}
use Rattle.history_print.proofs.messages.put_each_key.Given as goal

abbrev pub invariant-loop-key : goal.invariant-loop-key
invariant-loop-key l = l.out.items ++ spaced (drop l.key-index l.keys) ≡ l.fn.out.items ++ spaced l.keys
