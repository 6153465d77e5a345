use Rattle.std.proofs.Common.{refl, rules}
use Rattle.score_base.specs.KeyFields.{padded_bytes}
use Rattle.score_base.proofs.keys.Key.new.Goals as goal

pub invariant_of-result : goal.invariant_of-result
invariant_of-result c = rw c.copy_from_slice.ensures.after (padded_bytes c.args.bytes.now _ refl (search rules) (search rules))
