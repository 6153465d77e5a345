use Rattle.grid_laws.proofs.CutRuns.{lawful-whole, lawful-least}
use Rattle.disk_laws.proofs.Steps.{so_far-start, so_far-disk, so_far-quiet}
use Rattle.disk_laws.proofs.lawful.law_lawful.Goals as goal

pub returns-clause-start : goal.returns-clause-start
returns-clause-start c = so_far-start

pub returns-clause-disk : goal.returns-clause-disk
returns-clause-disk c = so_far-disk

pub returns-clause-quiet : goal.returns-clause-quiet
returns-clause-quiet c = so_far-quiet

pub returns-clause-whole : goal.returns-clause-whole
returns-clause-whole c = lawful-whole

pub returns-clause-front : goal.returns-clause-front
returns-clause-front c = lawful-least
