use Rattle.std.proofs.Common.{ap, codes, ◌∙◌}
use Rattle.std.specs.Option.{option_and_then}
use Rattle.clap.specs.Words.{found_of}
use Rattle.clap.proofs.WalkLemmas.{first_value-rows}
use Rattle.command_words.specs.Commands.{size_of}
use Rattle.command_words.proofs.reading.size_given.Goals as goal

pub returns-in-Some : goal.returns-in-Some
returns-in-Some c = c.size.ensures ∙ ap size_of c.as_bytes.ensures.value
    ∙ ap (option_and_then size_of) (c.in-Some.ensures ∙ first_value-rows (found_of c.args.matches.now) (codes "size"))

pub returns-in-None : goal.returns-in-None
returns-in-None c = ap (option_and_then size_of) (c.in-None.ensures ∙ first_value-rows (found_of c.args.matches.now) (codes "size"))
