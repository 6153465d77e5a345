use Rattle.std.proofs.Common.{ap, codes, ◌∙◌}
use Rattle.std.specs.Option.{option_and_then}
use Rattle.clap.specs.Words.{found_of}
use Rattle.clap.proofs.WalkLemmas.{first_value-rows}
use Rattle.score_base.specs.Numbers.{number}
use Rattle.command_words.proofs.reading.seed_given.Goals as goal

pub returns-in-Some : goal.returns-in-Some
returns-in-Some c = c.number.ensures ∙ ap number c.as_bytes.ensures.value
    ∙ ap (option_and_then number) (c.in-Some.ensures ∙ first_value-rows (found_of c.args.matches.now) (codes "seed"))

pub returns-in-None : goal.returns-in-None
returns-in-None c = ap (option_and_then number) (c.in-None.ensures ∙ first_value-rows (found_of c.args.matches.now) (codes "seed"))
