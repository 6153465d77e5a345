use Rattle.std.proofs.Common.{◌-◌, take}
use Rattle.score_base.specs.Tables.{Narrows}
use Rattle.score_base.proofs.ordered.place_among.Given as goal

abbrev pub invariant-loop-first : goal.invariant-loop-first
invariant-loop-first g l = record { narrows : Narrows g.K.Ord.cmp (take l.low l.items) l.key l.first l.last }

abbrev pub decreases-loop-first : goal.decreases-loop-first
decreases-loop-first g l = l.last - l.first
