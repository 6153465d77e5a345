use Rattle.std.proofs.Common.{◌≡◌, ◌∙◌, false, map, string_bytes, sym}
use Rattle.command_words.specs.Commands.{has_dashes}
use Rattle.command_words.proofs.Answered.{answers}
use Rattle.command_words.proofs.reading.command_of.Goals as goal

pub returns-in-Ok : goal.returns-in-Ok
returns-in-Ok c =
    let clean : has_dashes (map string_bytes c.args.words.now) ≡ false = sym c.has_dashes.ensures ∙ c.if-has_dashes.false in
    let parse = c.try_get_matches_from.ensures in
    answers _ _ c.try_get_matches_from.result _ c.in-Ok.ensures clean parse.kinds parse.matches c.answer.ensures
