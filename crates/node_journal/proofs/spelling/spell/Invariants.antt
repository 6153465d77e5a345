use Rattle.std.proofs.Common.{◌≡◌, ◌<◌, ◌++◌, ℕ, drop}
use Rattle.std.specs.Prelude.{slice_index_or}
use Rattle.std.specs.List.{flat_map}
use Rattle.std.specs.Int.{w64, to_be_bytes}
use Rattle.score_base.specs.declared.records.Record.{Record}
use Rattle.journal_records.specs.Records.{IsRecord}
use Rattle.node_journal.specs.Pairs.{open_block}
use Rattle.node_journal.proofs.spelling.spell.Given as goal

abbrev pub invariant-loop-record : goal.invariant-loop-record
invariant-loop-record l = record {
  spelled : l.out.items ++ flat_map open_block (drop l.record-index l.records)
      ≡ to_be_bytes w64 l.generation ++ flat_map open_block l.records;
  are : (k : ℕ) (d : Record) → k < l.record-index → IsRecord (slice_index_or l.records k d);
}
