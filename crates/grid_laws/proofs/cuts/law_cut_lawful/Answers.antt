use Rattle.grid_laws.proofs.CutRuns.{lawful-front, lawful-least, lawful-faultless, lawful-whole}
use Rattle.grid_laws.proofs.cuts.law_cut_lawful.Goals as goal

pub returns-clause-front : goal.returns-clause-front
returns-clause-front c = lawful-front

pub returns-clause-least : goal.returns-clause-least
returns-clause-least c = lawful-least

pub returns-clause-faultless : goal.returns-clause-faultless
returns-clause-faultless c = lawful-faultless

pub returns-clause-whole : goal.returns-clause-whole
returns-clause-whole c = lawful-whole
