use Rattle.std.proofs.KnownBytes.{Appends-trans}
use Rattle.text_parts.proofs.Behind.{part-behind, part-first}
use Rattle.text_parts.proofs.laws.law_appends_behind.Goals as goal

pub returns-clause-whole : goal.returns-clause-whole
returns-clause-whole c = Appends-trans

pub returns-clause-part : goal.returns-clause-part
returns-clause-part c = part-behind

pub returns-clause-first : goal.returns-clause-first
returns-clause-first c = part-first
