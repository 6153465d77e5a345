use Rattle.std.proofs.Common.{◌≡◌, ◌++◌, ◌+◌, ◌-◌}
use Rattle.std.specs.List.{flat_map, range_with_len}
use Rattle.run_tally.specs.Texts.{told_key}
use Rattle.run_tally.proofs.text.put_holder_lines.Given as goal

abbrev pub invariant-loop-i : goal.invariant-loop-i
invariant-loop-i l =
    l.out.items ++ flat_map (told_key l.cluster l.tally l.key) (range_with_len (l.i + 1) (l.count - l.i))
    ≡ l.fn.out.items ++ flat_map (told_key l.cluster l.tally l.key) (range_with_len 1 l.count)
