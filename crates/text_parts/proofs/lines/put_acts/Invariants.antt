use Rattle.std.proofs.Common.{◌≡◌, ◌++◌, take}
use Rattle.text_parts.specs.Parts.{act_lines}
use Rattle.text_parts.proofs.lines.put_acts.Given as goal

abbrev pub invariant-loop-act : goal.invariant-loop-act
invariant-loop-act l = l.lines.items ≡ l.fn.lines.items ++ act_lines (take l.act-index l.acts)
