use Rattle.grid_model.specs.declared.acts.Act.TheVariants as act
use Rattle.grid_model.proofs.ViewSteps.{here}
use Rattle.view_laws.proofs.OtherViews.{event-unmoved, opened-unmoved, one-unmoved, missed-unmoved, dropped-unmoved, void-unmoved}
use Rattle.view_laws.proofs.others.law_other_views.Goals as goal

pub returns-clause-event : goal.returns-clause-event
returns-clause-event c = event-unmoved

pub returns-clause-opened : goal.returns-clause-opened
returns-clause-opened c = opened-unmoved

pub returns-clause-down : goal.returns-clause-down
returns-clause-down c d past n h m other = one-unmoved d past (act.Down n h) n m (here n) other

pub returns-clause-still_down : goal.returns-clause-still_down
returns-clause-still_down c d past n m other = one-unmoved d past (act.StillDown n) n m (here n) other

pub returns-clause-armed : goal.returns-clause-armed
returns-clause-armed c d past n k how m other = one-unmoved d past (act.Armed n k how) n m (here n) other

pub returns-clause-compacted : goal.returns-clause-compacted
returns-clause-compacted c d past n m other = one-unmoved d past (act.Compacted n) n m (here n) other

pub returns-clause-missed : goal.returns-clause-missed
returns-clause-missed c = missed-unmoved

pub returns-clause-dropped : goal.returns-clause-dropped
returns-clause-dropped c = dropped-unmoved

pub returns-clause-void : goal.returns-clause-void
returns-clause-void c = void-unmoved
