-- The definition of the words on worked rows.
use Rattle.std.proofs.Common.{◌≡◌, codes, refl, [], ◌∷◌, Some, None}
use Rattle.command_words.specs.declared.commands.Command.TheVariants.{Run, Drill}
use Rattle.command_words.specs.Commands.{command_of}

run_alone : command_of (codes "run" ∷ []) ≡ Some Run
run_alone = refl

no_word : command_of [] ≡ None
no_word = refl

run_and_dashes : command_of (codes "run" ∷ codes "--" ∷ []) ≡ None
run_and_dashes = refl

run_and_more : command_of (codes "run" ∷ codes "run" ∷ []) ≡ None
run_and_more = refl

help : command_of (codes "--help" ∷ []) ≡ None
help = refl

either_form : command_of (codes "drill" ∷ codes "--size=1000" ∷ codes "--seed" ∷ codes "0" ∷ []) ≡ Some (Drill 0 1000)
either_form = refl

size_alone : command_of (codes "drill" ∷ codes "--size" ∷ codes "1" ∷ []) ≡ None
size_alone = refl

size_zero : command_of (codes "drill" ∷ codes "--seed" ∷ codes "0" ∷ codes "--size" ∷ codes "0" ∷ []) ≡ None
size_zero = refl

size_too_great : command_of (codes "drill" ∷ codes "--seed" ∷ codes "0" ∷ codes "--size" ∷ codes "1001" ∷ []) ≡ None
size_too_great = refl

seed_twice : command_of (codes "drill" ∷ codes "--seed" ∷ codes "0" ∷ codes "--seed" ∷ codes "0" ∷ codes "--size"
    ∷ codes "1" ∷ []) ≡ None
seed_twice = refl

option_as_value : command_of (codes "drill" ∷ codes "--seed" ∷ codes "--size=1" ∷ codes "--size" ∷ codes "1" ∷ [])
    ≡ None
option_as_value = refl

short_option : command_of (codes "drill" ∷ codes "-seed" ∷ codes "0" ∷ codes "--size" ∷ codes "1" ∷ []) ≡ None
short_option = refl
