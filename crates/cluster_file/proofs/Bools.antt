-- Tests by their parts: what std says of them, and turns of three.
use Rattle.std.proofs.Common.{◌≡◌, Bool, true, false, ◌||◌, refl}
pub use Rattle.std.proofs.lemmas.Bool.{and_parts}

pub or_twice : (a b : Bool) → (a || b) ≡ (a || (a || b))
or_twice true b = refl
or_twice false b = refl

pub or_turn : (a b c : Bool) → ((a || b) || c) ≡ (b || (a || c))
or_turn true true c = refl
or_turn true false c = refl
or_turn false b c = refl
