use Rattle.view_laws.proofs.AlikeRows.{alike-outs}
use Rattle.view_laws.proofs.AlikeNext.{alike-next}
use Rattle.view_laws.proofs.ShownNext.{shown-next}
use Rattle.view_laws.proofs.alike.law_alike_views.Goals as goal

pub returns-clause-rows : goal.returns-clause-rows
returns-clause-rows c = alike-outs

pub returns-clause-next : goal.returns-clause-next
returns-clause-next c = alike-next

pub returns-clause-shown : goal.returns-clause-shown
returns-clause-shown c = shown-next
