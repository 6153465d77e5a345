use Rattle.text_parts.proofs.RunParts.{part-start, part-event, part-summary, part-tally, part-run, run-start}
use Rattle.text_parts.proofs.PartPlaces.{part-placed}
use Rattle.text_parts.proofs.laws.law_parts.Goals as goal

pub returns-clause-start : goal.returns-clause-start
returns-clause-start c = part-start

pub returns-clause-event : goal.returns-clause-event
returns-clause-event c = part-event

pub returns-clause-summary : goal.returns-clause-summary
returns-clause-summary c = part-summary

pub returns-clause-tally : goal.returns-clause-tally
returns-clause-tally c = part-tally

pub returns-clause-run : goal.returns-clause-run
returns-clause-run c = part-run

pub returns-clause-first : goal.returns-clause-first
returns-clause-first c = run-start

pub returns-clause-placed : goal.returns-clause-placed
returns-clause-placed c = part-placed
