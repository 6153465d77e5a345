-- The frame of a record is its block.
use Rattle.std.proofs.Common.{◌≡◌, ℕ, ◌≤◌, List, [], ◌∷◌, length, Some, arith}
use Rattle.score_base.specs.declared.records.Record.{Record}
use Rattle.journal_records.specs.Records.{record_bytes, decode_of, IsRecord}
use Rattle.journal_records.proofs.RecordCodec.{decode_again, record_small}
use Rattle.node_journal.specs.Log.{framed}
use Rattle.node_journal.proofs.Blocks.{IsBlock, frame_block}

pub body_short : (r : Record) → IsRecord r → length (record_bytes r) ≤ 4096
body_short r is = omega (arith, record_small r is)

some_bytes : (body : List ℕ) (r : Record) → decode_of body ≡ Some r → 1 ≤ length body
unfolding decode_of
some_bytes [] r e = cc
some_bytes (b ∷ bs) r e = omega arith

pub record_block : (r : Record) → IsRecord r → IsBlock (framed (record_bytes r)) r
record_block r is =
    let again : decode_of (record_bytes r) ≡ Some r = decode_again r is in
    frame_block (record_bytes r) r again (some_bytes (record_bytes r) r again) (body_short r is)
