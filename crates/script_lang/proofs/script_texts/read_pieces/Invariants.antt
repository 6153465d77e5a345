use Rattle.std.proofs.Common.{◌≡◌, ◌+◌, length, map}
use Rattle.script_lang.specs.declared.limits.TheConstants.{MAX_OPS}
use Rattle.script_lang.specs.ScriptLines.{lines_from, unread}
use Rattle.script_lang.proofs.script_texts.read_pieces.Given as goal

abbrev pub invariant-loop-lines : goal.invariant-loop-lines
invariant-loop-lines l = record {
  told : lines_from MAX_OPS l.nodes l.draft l.n (map (λ w. w.now) l.lines) ≡ lines_from MAX_OPS l.nodes unread 1
      (map (λ w. w.now) l.pieces);
  numbered : l.n + length l.lines ≡ length l.pieces + 1;
}

abbrev pub decreases-loop-lines : goal.decreases-loop-lines
decreases-loop-lines l = length l.lines
