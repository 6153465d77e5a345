use Rattle.std.proofs.Common.{◌≡◌, [], map, drop}
use Rattle.cluster_file.specs.Lines.{node_step}
use Rattle.script_lang.specs.Reading.{steps}
use Rattle.cluster_file.proofs.lines.nodes_at.Given as goal

abbrev pub invariant-loop-word : goal.invariant-loop-word
invariant-loop-word l =
    steps (node_step l.count) l.nodes (map (λ w. w.now) (drop l.word-index l.words))
    ≡ steps (node_step l.count) [] (map (λ w. w.now) l.words)
