use Rattle.std.proofs.Common.{◌≡◌, drop}
use Rattle.score_base.specs.Numbers.{digits_from}
use Rattle.score_base.proofs.numbers.digits.Given as goal

abbrev pub invariant-loop-b : goal.invariant-loop-b
invariant-loop-b l = digits_from l.n (drop l.b-index l.word) ≡ digits_from 0 l.word
