use Rattle.std.proofs.Common.{refl}
use Rattle.grid_model.proofs.DiskLists.{disk-small, disk-fit, disk-alike}
use Rattle.grid_model.proofs.laws.law_disklog.Goals as goal

pub returns-clause-small : goal.returns-clause-small
returns-clause-small c = disk-small

pub returns-clause-fit : goal.returns-clause-fit
returns-clause-fit c = disk-fit

pub returns-clause-alike : goal.returns-clause-alike
returns-clause-alike c = disk-alike

pub returns-clause-view : goal.returns-clause-view
returns-clause-view c d past n m = refl
