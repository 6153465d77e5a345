use Rattle.std.proofs.Common.{◌≡◌, ◌++◌, drop}
use Rattle.std.specs.List.{flat_map}
use Rattle.history_print.specs.Acts.{spaced, write_words}
use Rattle.history_print.proofs.messages.put_each_write.Given as goal

abbrev pub invariant-loop-write : goal.invariant-loop-write
invariant-loop-write l =
    l.out.items ++ spaced (flat_map write_words (drop l.write-index l.writes))
    ≡ l.fn.out.items ++ spaced (flat_map write_words l.writes)
