use Rattle.disk_laws.proofs.Openings.{new-stands, first-up, first-fails}
use Rattle.disk_laws.proofs.Others.{new-other}
use Rattle.disk_laws.proofs.seats_new.law_seats_new.Goals as goal

pub returns-clause-empty : goal.returns-clause-empty
returns-clause-empty c = new-stands

pub returns-clause-others : goal.returns-clause-others
returns-clause-others c = new-other

pub returns-clause-opens : goal.returns-clause-opens
returns-clause-opens c = first-up

pub returns-clause-fails : goal.returns-clause-fails
returns-clause-fails c = first-fails
