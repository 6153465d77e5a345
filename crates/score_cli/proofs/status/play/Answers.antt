use Rattle.std.proofs.Common.{refl, subst, sym}
use Rattle.grid_world.specs.Starts.{AreDisksOf}
use Rattle.score_cli.specs.Runs.{memory}
use Rattle.score_cli.proofs.FusedDisks.{broken-left, fused-disks, some-headlines, whole-left}
use Rattle.score_cli.proofs.status.play.Goals as goal

pub write_run-requires : goal.write_run-requires
write_run-requires g c =
    subst (AreDisksOf _ c.args.doc.now.cluster.nodes) (sym c.in-Ok.ensures.fused)
    (fused-disks g.D.Disk _ (λ x. refl) (λ x. refl) (λ x. refl) (λ x. refl) c.args.doc.now.cluster.nodes
    c.args.disks.now.items c.requires.one.document.cluster.most c.requires.blank)

pub returns-in-Whole : goal.returns-in-Whole
returns-in-Whole g c =
    whole-left g.D.Disk _ (λ x. refl) (λ x. refl) (λ x. refl) (λ x. refl) c.law_headline.ensures c.args.doc.now
    c.requires.one c.args.disks.now.items c.in-Ok.fused.items c.in-Whole.left.items c.give_back.new.disks.items
    c.in-Ok.ensures.fused c.give_back.ensures (g.K.Sink.held c.args.out.now) (g.K.Sink.held c.write_run.new.out)
    (g.K.Sink.faults c.args.out.now) (g.K.Sink.faults c.write_run.new.out) c.in-Whole.ensures

pub returns-in-Broken : goal.returns-in-Broken
returns-in-Broken g c =
    broken-left g.D.Disk _ (λ x. refl) (λ x. refl) (λ x. refl) (λ x. refl) c.law_headline.ensures c.args.doc.now
    c.requires.one c.args.disks.now.items c.in-Ok.fused.items c.in-Broken.left.items c.give_back-in-Broken.new.disks.items
    c.in-Ok.ensures.fused c.give_back-in-Broken.ensures (g.K.Sink.held c.args.out.now)
    (g.K.Sink.held c.write_run.new.out) (g.K.Sink.faults c.args.out.now) (g.K.Sink.faults c.write_run.new.out)
    c.in-Broken.ensures

pub returns-in-Memory : goal.returns-in-Memory
returns-in-Memory g c =
    memory refl (some-headlines c.law_headline.ensures c.args.doc.now c.requires.one (g.K.Sink.held c.args.out.now)
    (g.K.Sink.held c.write_run.new.out) c.in-Memory.ensures)
