use Rattle.std.proofs.Common.{◌≡◌, drop}
use Rattle.script_lang.specs.Reads.{is_update}
use Rattle.script_lang.proofs.reads.is_update.Given as goal

abbrev pub invariant-loop-op : goal.invariant-loop-op
invariant-loop-op l = is_update (drop l.op-index l.ops) ≡ is_update l.ops
