-- Which words ask for which command.
use Rattle.std.specs.Prelude.{ℕ, Bool, ◌≡◌, ◌≤◌, ⊤, Result, Ok, Err, ◌==◌, ◌&&◌, nat_le, List, [], ◌∷◌, Option, Some, None, if◌then◌else◌, option_map, option_and_then, codes}
use Rattle.std.specs.List.{list_any}
use Rattle.std.specs.Option.{option_map_or}
use Rattle.std.specs.Str.{bytes_eq}
use Rattle.score_base.specs.Numbers.{number}
use Rattle.command_words.specs.declared.limits.TheConstants.{MAX_SIZE}
use Rattle.command_words.specs.declared.commands.Command.{Command}
use Rattle.command_words.specs.declared.commands.Command.TheVariants.{Run, Drill}
use Rattle.command_words.specs.declared.commands.NoCommand.{NoCommand}
use Rattle.command_words.specs.declared.commands.NoCommand.TheVariants.{Usage, Memory}

-- a word, as its bytes
abbrev pub Text : Type 0
Text = List ℕ

-- ---- options

-- what stands before the first `=`, and behind it
abbrev pub joined : Text → Option (Text × Text)
joined [] = None
joined (c ∷ cs) = if c == 61 then Some ([], cs) else option_map (λ p. (c ∷ p.0, p.1)) (joined cs)

-- options with their values, as they stand
abbrev pub Pairs : Type 0
Pairs = List (Text × Text)

-- one more in front
abbrev pub with_pair : Text × Text → Option Pairs → Option Pairs
with_pair p = option_map (λ ps. p ∷ ps)

-- each option with its value, which stands behind a `=` or is the next word
abbrev pub pairs_of : List Text → Option Pairs
pairs_of [] = Some []
pairs_of (word ∷ []) = option_map (λ p. p ∷ []) (joined word)
pairs_of (word ∷ value ∷ rest) =
    option_map_or (λ p. with_pair p (pairs_of (value ∷ rest))) (joined word)
    (with_pair (word, value) (pairs_of rest))

-- ---- commands

-- a size is a number from 1 to the greatest
abbrev pub in_range : ℕ → Option ℕ
in_range n = if nat_le 1 n && nat_le n MAX_SIZE then Some n else None

-- the size that a word spells
abbrev pub size_of : Text → Option ℕ
size_of word = option_and_then in_range (number word)

-- the drill with this seed and this size, where there are both
abbrev pub drill_by : Option ℕ → Option ℕ → Option Command
drill_by (Some seed) (Some size) = Some (Drill seed size)
drill_by _ _ = None

-- the two options, in either order
abbrev pub drill_of : Pairs → Option Command
drill_of (a ∷ b ∷ []) =
    if bytes_eq (codes "--seed") a.0 && bytes_eq (codes "--size") b.0
    then drill_by (number a.1) (size_of b.1)
    else (if bytes_eq (codes "--size") a.0 && bytes_eq (codes "--seed") b.0
    then drill_by (number b.1) (size_of a.1) else None)
drill_of _ = None

-- no word stands behind `run`
abbrev pub run_of : List Text → Option Command
run_of [] = Some Run
run_of _ = None

-- the first word names the command
abbrev pub command_in : List Text → Option Command
command_in [] = None
command_in (word ∷ rest) =
    if bytes_eq (codes "run") word then run_of rest
    else (if bytes_eq (codes "drill") word then option_and_then drill_of (pairs_of rest) else None)

-- a word is `--`
abbrev pub has_dashes : List Text → Bool
has_dashes words = list_any (λ word. bytes_eq word (codes "--")) words

-- the command that the words ask for
abbrev pub command_of : List Text → Option Command
command_of words = if has_dashes words then None else command_in words

-- the size of a drill is from 1 to the greatest
abbrev pub IsSized : Command → Type 0
IsSized Run = ⊤
IsSized (Drill seed size) = (1 ≤ size) × (size ≤ MAX_SIZE)

-- the answer is that of the words, or memory ran out
abbrev pub Answers : Option Command → Result Command NoCommand → Type 0
Answers meant (Ok command) = meant ≡ Some command
Answers meant (Err Usage) = meant ≡ None
Answers meant (Err Memory) = ⊤
