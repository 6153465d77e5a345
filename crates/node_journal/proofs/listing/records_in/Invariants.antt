use Rattle.std.proofs.Common.{◌+◌, ◌-◌, ◌<◌, ◌≤◌, ◌∷◌, take, drop, length}
use Rattle.std.specs.List.{All}
use Rattle.journal_records.specs.Records.{IsRecord}
use Rattle.node_journal.specs.Log.{Spells}
use Rattle.node_journal.proofs.listing.records_in.Given as goal

abbrev pub invariant-gates : goal.invariant-gates
invariant-gates l = record {
  low : 8 ≤ l.at;
  inside : l.at < length l.bytes;
  fit : All IsRecord l.records.items;
  spelled : Spells (drop 9 (take (l.at + 1) (2 ∷ l.bytes))) l.records.items;
}

abbrev pub decreases-gates : goal.decreases-gates
decreases-gates l = length l.bytes - l.at
