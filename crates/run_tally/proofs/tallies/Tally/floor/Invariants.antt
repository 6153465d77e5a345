use Rattle.std.proofs.Common.{◌≡◌, max, drop}
use Rattle.run_tally.specs.Phases.{floor_among}
use Rattle.run_tally.proofs.tallies.Tally.floor.Given as goal

abbrev pub invariant-loop-script : goal.invariant-loop-script
invariant-loop-script l =
    max l.floor (floor_among l.self l.session (drop l.script-index l.doc.scripts))
    ≡ floor_among l.self l.session l.doc.scripts
