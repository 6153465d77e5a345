-- What a sink got of a part goes behind what it got before.
use Rattle.std.proofs.Common.{ℕ, List, [], take, Option}
use Rattle.std.specs.Io.KnownBytes.{Appends}
use Rattle.std.proofs.KnownBytes.{Appends-trans, Appends-nil}
use Rattle.score_io.specs.Streams.{AppendsPart}
use Rattle.text_parts.specs.Streams.{AppendsBehind}

pub part-behind : (old mid new : Option (List ℕ)) (whole part : List ℕ) → Appends old mid whole →
    AppendsPart mid new part → AppendsBehind old new whole part
part-behind old mid new whole part before p = record {
  count = p.count;
  proper = p.proper;
  appended = Appends-trans old mid new whole (take p.count part) before p.appended;
}

pub part-first : (old new : Option (List ℕ)) (part : List ℕ) → AppendsPart old new part → AppendsBehind old new [] part
part-first old new part p = part-behind old old new [] part (Appends-nil old) p
