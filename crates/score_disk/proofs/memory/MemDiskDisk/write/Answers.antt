use Rattle.std.proofs.Common.{rules, refl, ◌≡◌, ◌+◌, max, length}
use Rattle.score_disk.proofs.Marks.{copies_written, file_written}
use Rattle.score_disk.proofs.memory.MemDiskDisk.write.Goals as goal

pub invariant_of-self-clause-copies : goal.invariant_of-self-clause-copies
invariant_of-self-clause-copies c =
    let long : length c.mark.new.marks.items ≡ max (length c.args.self.now.marks.items) (c.args.at + length c.args.bytes.now) = search rules in
    rw c.put_bytes.ensures.items (copies_written _ _ _ _ _ _ _ c.args.self.now.copies (c.requires.within refl) c.mark.ensures.marked long)

pub returns-else-counted-clause-puts : goal.returns-else-counted-clause-puts
returns-else-counted-clause-puts c =
    let long : length c.mark.new.marks.items ≡ max (length c.args.self.now.marks.items) (c.args.at + length c.args.bytes.now) = search rules in
    rw c.counted.ensures.same (file_written c.args.self.now.bytes.items c.put_bytes.new.items.items c.args.bytes.now c.args.self.now.marks.items c.mark.new.marks.items c.args.self.now.least c.args.at c.put_bytes.ensures.items c.mark.ensures.marked long)
