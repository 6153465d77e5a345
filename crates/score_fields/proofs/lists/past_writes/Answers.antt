use Rattle.std.proofs.Common.{◌∙◌, arith}
use Rattle.score_fields.specs.Reading.{first_write}
use Rattle.score_fields.proofs.ListCodecs.{many_goes_on}
use Rattle.score_fields.proofs.lists.past_writes.Goals as goal

pub loop-preserved : goal.loop-preserved
loop-preserved c = record {
  value = many_goes_on first_write _ c.loop.counter c.loop.rest.now _ c.in_ok-after.after.now c.loop-test.true c.in_ok-after.ensures.value ∙ c.loop.invariant.value;
  shorter = omega (arith, c.in_ok-after.ensures.shorter, c.loop.invariant.shorter);
}
