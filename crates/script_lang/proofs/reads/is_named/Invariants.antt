use Rattle.std.proofs.Common.{◌≡◌, drop}
use Rattle.script_lang.specs.Reads.{is_key_among, keys_named}
use Rattle.script_lang.proofs.reads.is_named.Given as goal

abbrev pub invariant-loop-op : goal.invariant-loop-op
invariant-loop-op l = is_key_among l.key (keys_named (drop l.op-index l.ops)) ≡ is_key_among l.key (keys_named l.ops)
