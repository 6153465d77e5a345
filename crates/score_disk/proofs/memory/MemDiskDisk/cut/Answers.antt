use Rattle.std.proofs.Common.{◌≡◌, ◌≤◌, ◌+◌, ◌-◌, max, length, refl, arith, rules}
use Rattle.score_disk.proofs.Marks.{file_cut}
use Rattle.score_disk.proofs.memory.MemDiskDisk.cut.Goals as goal

pub returns-else-counted-clause-cuts : goal.returns-else-counted-clause-cuts
returns-else-counted-clause-cuts c =
    let long : c.len-long.result ≡ length c.args.self.now.marks.items = search rules in
    let within : c.args.at ≤ length c.args.self.now.marks.items = omega (arith, c.requires.within refl, c.args.self.now.copies.bytes_most) in
    let more : length c.mark.new.marks.items ≡ max (length c.args.self.now.marks.items) (c.args.at + (c.len-long.result - c.args.at)) = search rules in
    rw c.counted.ensures.same (file_cut c.args.self.now.bytes.items c.truncate.new.self.items c.args.self.now.marks.items c.mark.new.marks.items c.min-self.result c.args.self.now.least c.args.at c.len-long.result long within c.truncate.ensures.items c.mark.ensures.marked more c.min-self.ensures)
