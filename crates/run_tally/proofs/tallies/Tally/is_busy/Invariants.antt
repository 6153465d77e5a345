use Rattle.std.proofs.Common.{◌≡◌, drop}
use Rattle.run_tally.specs.Phases.{busy_among}
use Rattle.run_tally.proofs.tallies.Tally.is_busy.Given as goal

abbrev pub invariant-loop-script : goal.invariant-loop-script
invariant-loop-script l =
    busy_among l.self l.session (drop l.script-index l.doc.scripts) ≡ busy_among l.self l.session l.doc.scripts
