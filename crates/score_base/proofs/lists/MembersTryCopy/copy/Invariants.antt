use Rattle.std.proofs.Common.{◌≡◌, take}
use Rattle.score_base.proofs.lists.MembersTryCopy.copy.Given as goal

abbrev pub invariant-loop-member : goal.invariant-loop-member
invariant-loop-member g l = l.copies ≡ take l.member-index l.source
