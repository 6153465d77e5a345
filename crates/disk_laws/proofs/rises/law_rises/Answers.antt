use Rattle.std.proofs.Common.{refl}
use Rattle.disk_laws.proofs.CountRises.{rise-none, rise-both, joint-none, joint-both}
use Rattle.disk_laws.proofs.rises.law_rises.Goals as goal

pub returns-clause-none : goal.returns-clause-none
returns-clause-none c = λ given. rise-none given given refl

pub returns-clause-both : goal.returns-clause-both
returns-clause-both c = rise-both

pub returns-clause-joint_none : goal.returns-clause-joint_none
returns-clause-joint_none c = λ first second. joint-none first second first second refl refl

pub returns-clause-joint_both : goal.returns-clause-joint_both
returns-clause-joint_both c = joint-both
