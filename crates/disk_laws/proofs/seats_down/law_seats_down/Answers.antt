use Rattle.disk_laws.proofs.Openings.{arms-down, opens-up, fails-down}
use Rattle.disk_laws.proofs.seats_down.law_seats_down.Goals as goal

pub returns-clause-arms : goal.returns-clause-arms
returns-clause-arms c = arms-down

pub returns-clause-opens : goal.returns-clause-opens
returns-clause-opens c = opens-up

pub returns-clause-fails : goal.returns-clause-fails
returns-clause-fails c = fails-down
