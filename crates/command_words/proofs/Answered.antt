-- What an answer of `clap` says of the words.
use Rattle.std.proofs.Common.{◌≡◌, ◌∙◌, ⊎_elim, sym, List, [], Option, Some, None, Result, Ok, Err, IfOk, cond, false, true, refl, ap, subst}
use Rattle.std.specs.Option.{option_and_then}
use Rattle.clap.specs.Words.{App, FailsBy, HasKind, HasMatchesOf, Text, fault_of, is_simple_and_free, kind_of, subcommand_rows_of}
use Rattle.clap.specs.declared.error.Error.{Error}
use Rattle.clap.specs.declared.error.kind.ErrorKind.TheVariants.{OutOfMemory}
use Rattle.clap.specs.declared.parser.matches.ArgMatches.{ArgMatches}
use Rattle.command_words.specs.Grammar.{Tells, command_at, command_line, told}
use Rattle.command_words.specs.Commands.{Answers, command_in, command_of}
use Rattle.command_words.specs.declared.commands.Command.{Command}
use Rattle.command_words.specs.declared.commands.NoCommand.{NoCommand}
use Rattle.command_words.specs.Commands.{has_dashes}
use Rattle.command_words.proofs.SameWords.{refused_command, taken_command}

without_dashes : (ws : List Text) → has_dashes ws ≡ false → command_of ws ≡ command_in ws
without_dashes ws e = ap (λ b. cond b None (command_in ws)) e

pub ok_command : (a : App) (ws : List Text) (m : ArgMatches) → a ≡ command_line → has_dashes ws ≡ false
    → (is_simple_and_free a ≡ true → fault_of a ws ≡ []) → HasMatchesOf a ws m
    → command_of ws ≡ option_and_then command_at (subcommand_rows_of m)
ok_command a ws m is e fails found =
    let passes = subst (λ b. is_simple_and_free b ≡ true → fault_of b ws ≡ []) is fails refl in
    let given = subst (λ b. HasMatchesOf b ws m) is found refl in
    without_dashes ws e ∙ sym (taken_command ws e passes) ∙ ap (option_and_then command_at) (sym given.1)

pub err_command : (a : App) (ws : List Text) (error : Error) → a ≡ command_line → has_dashes ws ≡ false
    → (is_simple_and_free a ≡ true → HasKind (fault_of a ws) error) → (kind_of error ≡ OutOfMemory → ⊥)
    → command_of ws ≡ None
err_command a ws error is e fails other =
    let kinds = subst (λ b. is_simple_and_free b ≡ true → HasKind (fault_of b ws) error) is fails refl in
    without_dashes ws e ∙ ⊎_elim (λ m. absurd (other m)) (λ k. refused_command ws (kind_of error) e k) kinds

-- the answer over `clap`'s
pub answers : (a : App) (ws : List Text) (parsed : Result ArgMatches Error) (answer : Result Command NoCommand)
    → a ≡ command_line → has_dashes ws ≡ false → (is_simple_and_free a ≡ true → FailsBy (fault_of a ws) parsed)
    → IfOk parsed (HasMatchesOf a ws) → Tells parsed answer → Answers (command_of ws) answer
answers a ws (Ok m) answer is e fails found tells =
    subst (Answers (command_of ws)) (sym tells) (by (command_of ws) _ (ok_command a ws m is e fails found))
  where
    by : (meant found : Option Command) → meant ≡ found → Answers meant (told found)
    by meant (Some c) e = e
    by meant None e = e
answers a ws (Err x) answer is e fails found tells = ⊎_elim (λ m. subst (Answers (command_of ws)) (sym m.1) tt)
    (λ u. subst (Answers (command_of ws)) (sym u.1) (err_command a ws x is e fails u.0)) tells
