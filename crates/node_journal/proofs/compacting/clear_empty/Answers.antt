use Rattle.score_disk.specs.Files.{File}
use Rattle.node_journal.specs.Log.{generation}
use Rattle.node_journal.proofs.Generations.{head_none, first_torn}
use Rattle.node_journal.proofs.compacting.clear_empty.Goals as goal

pub returns-in-Err-clause-stopped : goal.returns-in-Err-clause-stopped
returns-in-Err-clause-stopped g c = λ t.
    let f : File = g.D.Disk.file c.args.other.now in
    first_torn f (g.D.Disk.file c.put_durably.new.disk) (head_none f.seen (c.requires.version t))
    (c.in-Err.ensures.torn t) (generation f.seen)
