use Rattle.view_laws.proofs.OpenedViews.{alike-opened, opened-run, opened-start}
use Rattle.view_laws.proofs.opened.law_opened_view.Goals as goal

pub returns-clause-opened : goal.returns-clause-opened
returns-clause-opened c = opened-run

pub returns-clause-start : goal.returns-clause-start
returns-clause-start c = opened-start

pub returns-clause-alike : goal.returns-clause-alike
returns-clause-alike c = alike-opened
