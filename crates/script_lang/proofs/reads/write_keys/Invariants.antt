use Rattle.std.proofs.Common.{◌≡◌, [], ◌++◌, drop}
use Rattle.script_lang.specs.Reads.{written_keys}
use Rattle.script_lang.proofs.reads.write_keys.Given as goal

abbrev pub invariant-loop-op : goal.invariant-loop-op
invariant-loop-op l = l.keys ++ written_keys l.keys (drop l.op-index l.ops) ≡ written_keys [] l.ops
