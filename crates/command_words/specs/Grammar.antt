-- What `clap` is told of the words, and what its matches mean.
use Rattle.std.specs.Prelude.{◌≡◌, ◌≢◌, ◌⊎◌, List, Option, Some, None, Result, Ok, Err, true, codes, if◌then◌else◌, option_and_then}
use Rattle.std.specs.Str.{bytes_eq}
use Rattle.clap.specs.declared.error.Error.{Error}
use Rattle.clap.specs.declared.error.kind.ErrorKind.TheVariants.{OutOfMemory}
use Rattle.clap.specs.declared.parser.matches.ArgMatches.{ArgMatches}
use Rattle.clap.specs.Words.{App, Row, Rule, first_of, kind_of, new_app, subcommand_rows_of, new_rule, with_rule, with_subcommand}
use Rattle.clap.specs.Simple.{on_top}
use Rattle.clap.specs.declared.builder.action.ArgAction.TheVariants.{Set}
use Rattle.score_base.specs.Numbers.{number}
use Rattle.command_words.specs.declared.commands.Command.{Command}
use Rattle.command_words.specs.declared.commands.Command.TheVariants.{Run}
use Rattle.command_words.specs.declared.commands.NoCommand.{NoCommand}
use Rattle.command_words.specs.declared.commands.NoCommand.TheVariants.{Usage, Memory}
use Rattle.command_words.specs.Commands.{Text, drill_by, size_of}

-- ---- the command line

-- a required option with one value
abbrev pub option_rule : Text → Rule
option_rule name = record (new_rule name) { long = Some name; action = Some Set; required = true }

-- `run` has no options
abbrev pub run_app : App
run_app = new_app (codes "run")

-- `drill` has two
abbrev pub drill_app : App
drill_app = with_rule (with_rule (new_app (codes "drill")) (option_rule (codes "seed"))) (option_rule (codes "size"))

-- no word is the program's name, there is no help, and one of the commands is wanted
abbrev pub bare_line : App
bare_line = on_top (λ s. record s {
  no_binary_name = true;
  disable_help_flag = true;
  disable_help_subcommand = true;
  subcommand_required = true;
}) (new_app (codes "score"))

-- the whole command line
abbrev pub command_line : App
command_line = with_subcommand (with_subcommand bare_line run_app.top) drill_app.top

-- ---- what the matches mean

-- the command of a subcommand and what was given to it
abbrev pub command_at : Text × List Row → Option Command
command_at p =
    if bytes_eq p.0 (codes "run") then Some Run
    else drill_by (option_and_then number (first_of (codes "seed") p.1))
    (option_and_then size_of (first_of (codes "size") p.1))

-- a command, or `Usage`
abbrev pub told : Option Command → Result Command NoCommand
told (Some command) = Ok command
told None = Err Usage

-- the matches tell a command or none; memory is wanting where `clap` says so, and nowhere else
abbrev pub Tells : Result ArgMatches Error → Result Command NoCommand → Type 0
Tells (Ok m) answer = answer ≡ told (option_and_then command_at (subcommand_rows_of m))
Tells (Err e) answer = ((kind_of e ≡ OutOfMemory) × (answer ≡ Err Memory))
    ⊎ ((kind_of e ≢ OutOfMemory) × (answer ≡ Err Usage))
