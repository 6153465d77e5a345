use Rattle.std.proofs.Common.{rules}
use Rattle.std.proofs.lemmas.List.{take_rest}
use Rattle.score_io.proofs.Streams.{appends_piece}
use Rattle.score_io.proofs.whole.write_all.Goals as goal

pub loop-at-preserved : goal.loop-at-preserved
loop-at-preserved g c = record {
  within = search rules;
  sent = appends_piece _ _ _ c.args.bytes.now c.loop-at.at c.in-Ok.n c.loop-at.invariant.sent (rw take_rest at c.in-Ok.ensures.bytes);
  later = search rules;
  tells = search rules;
}
