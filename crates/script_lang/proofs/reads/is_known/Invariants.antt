use Rattle.std.proofs.Common.{◌≡◌, drop}
use Rattle.script_lang.specs.Reads.{is_key_among, known_keys}
use Rattle.script_lang.proofs.reads.is_known.Given as goal

abbrev pub invariant-loop-op : goal.invariant-loop-op
invariant-loop-op l = is_key_among l.key (known_keys (drop l.op-index l.ops)) ≡ is_key_among l.key (known_keys l.ops)
