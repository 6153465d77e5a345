use Rattle.std.proofs.Common.{◌≡◌, ◌≤◌, ◌<◌, ◌-◌, IsTrue, take, drop, length}
use Rattle.std.specs.List.{All}
use Rattle.journal_records.specs.Records.{IsRecord}
use Rattle.node_journal.specs.Log.{Spells}
use Rattle.node_journal.proofs.reading.read_records.Given as goal

abbrev pub invariant-gates : goal.invariant-gates
invariant-gates g l = record {
  low : l.first ≤ l.at;
  inside : l.at < l.len;
  count : length l.records.items ≤ l.at;
  fit : All IsRecord l.records.items;
  spelled : IsTrue (g.D.Disk.tells l.fn.disk)
      → Spells (drop l.first (take l.at (g.D.Disk.file l.fn.disk).seen)) l.records.items;
  file : g.D.Disk.file l.disk ≡ g.D.Disk.file l.fn.disk;
  tells : g.D.Disk.tells l.disk ≡ g.D.Disk.tells l.fn.disk;
  left : g.D.Disk.left l.disk ≡ g.D.Disk.left l.fn.disk;
  faults : g.D.Disk.faults l.disk ≡ g.D.Disk.faults l.fn.disk;
  own : g.D.Disk.own l.disk ≡ g.D.Disk.own l.fn.disk;
}

abbrev pub decreases-gates : goal.decreases-gates
decreases-gates g l = l.len - l.at
