use Rattle.journal_words.proofs.AlikeWords.{alike-by-small, alike-small}
use Rattle.journal_words.proofs.AlikeFits.{alike-fits, alike-more}
use Rattle.journal_words.proofs.laws.law_alike.Goals as goal

pub returns-clause-small : goal.returns-clause-small
returns-clause-small c = alike-small

pub returns-clause-same_small : goal.returns-clause-same_small
returns-clause-same_small c = alike-by-small

pub returns-clause-more : goal.returns-clause-more
returns-clause-more c = alike-more

pub returns-clause-fits : goal.returns-clause-fits
returns-clause-fits c = alike-fits
