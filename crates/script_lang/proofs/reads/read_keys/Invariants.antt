use Rattle.std.proofs.Common.{◌≡◌, [], ◌++◌, take, drop}
use Rattle.script_lang.specs.Reads.{keys_named, remote_keys}
use Rattle.script_lang.proofs.reads.read_keys.Given as goal

abbrev pub invariant-loop-i : goal.invariant-loop-i
invariant-loop-i l = l.keys ++ remote_keys (keys_named (take l.i l.ops)) (drop l.i l.ops) ≡ remote_keys [] l.ops
