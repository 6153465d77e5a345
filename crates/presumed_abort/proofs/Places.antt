-- An insertion at a key that is there needs no memory.
use Rattle.std.proofs.Common.{◌≡◌, true, Option, None, Result, Ok, Err, arith}
use Rattle.std.specs.Prelude.{is_some, OnOk, OnErr}

-- what an insertion leaves, where it fails only at a key that is not there
pub in-place :
    {A E X : Type 0} (P : Type 0) (x : Option X) (r : Result A E)
    → OnOk r P → OnErr r (x ≡ None) → is_some x ≡ true → P
in-place P x (Ok y) there missing is = there
in-place P x (Err e) there missing is = absurd (grind (arith, missing, is))
