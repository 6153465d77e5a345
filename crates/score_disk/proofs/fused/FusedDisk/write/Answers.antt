use Rattle.score_disk.proofs.Failures.{missed_either}
use Rattle.score_disk.proofs.fused.FusedDisk.write.Goals as goal

pub returns-then-eq-2-clause-missed : goal.returns-then-eq-2-clause-missed
returns-then-eq-2-clause-missed g c = λ t. missed_either c.write-result.result _ _ c.args.at c.args.bytes.now t c.write-result.ensures.written c.write-result.ensures.missed (g.met.D.Disk.sound c.args.self.now.inner t) (c.requires.within t)
