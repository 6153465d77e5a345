use Rattle.command_words.proofs.Spelled.{command_range, one_word, two_words}
use Rattle.command_words.proofs.laws.law_command_words.Goals as goal

pub returns-clause-words : goal.returns-clause-words
returns-clause-words c = two_words

pub returns-clause-joined : goal.returns-clause-joined
returns-clause-joined c = one_word

pub returns-clause-range : goal.returns-clause-range
returns-clause-range c = command_range
