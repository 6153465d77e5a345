use Rattle.std.proofs.Common.{◌≡◌, ◌+◌, length, map}
use Rattle.cluster_file.specs.Doc.{pieces_from, blank}
use Rattle.cluster_file.proofs.documents.read_pieces.Given as goal

abbrev pub invariant-loop-lines : goal.invariant-loop-lines
invariant-loop-lines l = record {
  told : pieces_from l.draft l.n (map (λ w. w.now) l.lines) ≡ pieces_from blank 1 (map (λ w. w.now) l.pieces);
  numbered : l.n + length l.lines ≡ length l.pieces + 1;
}

abbrev pub decreases-loop-lines : goal.decreases-loop-lines
decreases-loop-lines l = length l.lines
