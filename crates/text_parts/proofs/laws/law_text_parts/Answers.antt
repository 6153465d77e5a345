use Rattle.text_parts.proofs.TextParts.{text-parts, run-parts, lines-append}
use Rattle.text_parts.proofs.laws.law_text_parts.Goals as goal

pub returns-clause-rows : goal.returns-clause-rows
returns-clause-rows c = text-parts

pub returns-clause-run : goal.returns-clause-run
returns-clause-run c = run-parts

pub returns-clause-lines : goal.returns-clause-lines
returns-clause-lines c = lines-append
