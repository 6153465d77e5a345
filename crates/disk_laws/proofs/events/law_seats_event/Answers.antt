use Rattle.disk_laws.proofs.Others.{turn-event, up-quiet, down-quiet, up-other, down-other, up-event, down-event, up-behind, down-behind}
use Rattle.disk_laws.proofs.events.law_seats_event.Goals as goal

pub returns-clause-turn : goal.returns-clause-turn
returns-clause-turn c = turn-event

pub returns-clause-up_quiet : goal.returns-clause-up_quiet
returns-clause-up_quiet c = up-quiet

pub returns-clause-down_quiet : goal.returns-clause-down_quiet
returns-clause-down_quiet c = down-quiet

pub returns-clause-up_other : goal.returns-clause-up_other
returns-clause-up_other c = up-other

pub returns-clause-down_other : goal.returns-clause-down_other
returns-clause-down_other c = down-other

pub returns-clause-up_event : goal.returns-clause-up_event
returns-clause-up_event c = up-event

pub returns-clause-down_event : goal.returns-clause-down_event
returns-clause-down_event c = down-event

pub returns-clause-up_behind : goal.returns-clause-up_behind
returns-clause-up_behind c = up-behind

pub returns-clause-down_behind : goal.returns-clause-down_behind
returns-clause-down_behind c = down-behind
