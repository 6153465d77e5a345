use Rattle.std.proofs.Common.{◌≡◌, ◌++◌}
use Rattle.std.specs.List.{flat_map}
use Rattle.run_tally.specs.Texts.{told_holders}
use Rattle.run_tally.proofs.text.put_each_key.Given as goal

abbrev pub invariant-loop-key : goal.invariant-loop-key
invariant-loop-key l =
    l.out.items ++ flat_map (told_holders l.cluster l.tally) l.key-iterator
    ≡ l.fn.out.items ++ flat_map (told_holders l.cluster l.tally) l.keys.keys
