use Rattle.disk_laws.proofs.Ups.{keeps-up, compacts-up, arms-up}
use Rattle.disk_laws.proofs.Downs.{cut-down, small-down, crashes-down}
use Rattle.disk_laws.proofs.seats_up.law_seats_up.Goals as goal

pub returns-clause-keeps : goal.returns-clause-keeps
returns-clause-keeps c = keeps-up

pub returns-clause-stops : goal.returns-clause-stops
returns-clause-stops c = cut-down

pub returns-clause-compacts : goal.returns-clause-compacts
returns-clause-compacts c = compacts-up

pub returns-clause-stops_small : goal.returns-clause-stops_small
returns-clause-stops_small c = small-down

pub returns-clause-crashes : goal.returns-clause-crashes
returns-clause-crashes c = crashes-down

pub returns-clause-arms : goal.returns-clause-arms
returns-clause-arms c = arms-up
