use Rattle.std.proofs.Common.{◌∙◌, sym}
use Rattle.score_disk.specs.Files.{File}
use Rattle.node_journal.specs.Log.{generation}
use Rattle.node_journal.proofs.Generations.{head_is, cut_torn}
use Rattle.node_journal.proofs.compacting.clear_unknown.Goals as goal

pub returns-in-Err-clause-stopped : goal.returns-in-Err-clause-stopped
returns-in-Err-clause-stopped g c = λ t.
    let f : File = g.D.Disk.file c.args.other.now in
    cut_torn f (g.D.Disk.file c.cut_durably.new.disk)
    (λ e. c.requires.other (sym (head_is f.seen c.args.version (c.requires.version t))
    ∙ e)) (c.in-Err.ensures.torn t) (generation f.seen)
