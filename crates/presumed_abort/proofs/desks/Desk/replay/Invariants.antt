use Rattle.std.proofs.Common.{◌≡◌, reverse, take}
use Rattle.presumed_abort.specs.Replays.{decided_desk}
use Rattle.presumed_abort.proofs.desks.Desk.replay.Given as goal

abbrev pub invariant-loop-rec : goal.invariant-loop-rec
invariant-loop-rec l = l.desk ≡ decided_desk (reverse (take l.rec-index l.records))
