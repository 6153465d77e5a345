-- The numbers of the reasons why an event changes nothing.
use Rattle.std.specs.Prelude.{ℕ, List, [], ◌∷◌}
use Rattle.grid_model.specs.declared.acts.Act.{Act}
use Rattle.grid_model.specs.declared.acts.Act.TheVariants as act
use Rattle.grid_model.specs.declared.voids.Void.{Void}
use Rattle.grid_model.specs.declared.voids.Void.TheVariants as void

-- the number of a reason
abbrev pub void_code : Void → ℕ
void_code void.Begun = 1
void_code void.HomeDown = 2
void_code void.NotSent = 3
void_code void.NoneLeft = 4
void_code void.NothingOwed = 5
void_code void.NotPending = 6
void_code void.IsDown = 7
void_code void.IsUp = 8
void_code void.SessionBusy = 9
void_code void.NotPart = 10
void_code void.NotUp = 11

-- the acts of an event that changes nothing
abbrev pub voided : Void → List Act
voided why = act.Void (void_code why) ∷ []
