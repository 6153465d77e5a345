use Rattle.std.proofs.Common.{◌≡◌, take}
use Rattle.history_print.proofs.summary.run_of.Given as goal

abbrev pub invariant-loop-act : goal.invariant-loop-act
invariant-loop-act l = l.run ≡ record { doc = l.doc; acts = take l.act-index l.acts }
