use Rattle.std.proofs.Common.{◌≡◌, ◌++◌, drop}
use Rattle.script_lang.specs.Reads.{keys_named, distinct_keys, keys_of}
use Rattle.script_lang.proofs.reads.keys.Given as goal

abbrev pub invariant-loop-op : goal.invariant-loop-op
invariant-loop-op l = l.keys ++ distinct_keys l.keys (keys_named (drop l.op-index l.ops)) ≡ keys_of l.ops
