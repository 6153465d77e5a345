-- What holds of whatever a reading gives.
use Rattle.std.proofs.Common.{◌≡◌, Bool, true, false, cond, Result, Ok, Err, IfOk, refl, subst}
use Rattle.script_lang.specs.Reading.{◌>>=◌}
use Rattle.script_lang.specs.declared.whys.Why.{Why}

-- one reader behind another
pub behind : {A B : Type 0} (m : Result A Why) (f : A → Result B Why) (Q : A → Type 0) (P : B → Type 0) → IfOk m Q
    → ((x : A) → Q x → IfOk (f x) P) → IfOk (m >>= f) P
behind (Ok x) f Q P h k = k x h
behind (Err e) f Q P h k = tt

-- the same where nothing is said of the first
pub then : {A B : Type 0} (m : Result A Why) (f : A → Result B Why) (P : B → Type 0) → ((x : A) → IfOk (f x) P)
    → IfOk (m >>= f) P
then (Ok x) f P k = k x
then (Err e) f P k = tt

-- a reading by a test
pub either : {A E : Type 0} (b : Bool) (x y : Result A E) (P : A → Type 0) → (b ≡ true → IfOk x P)
    → (b ≡ false → IfOk y P) → IfOk (cond b x y) P
either true x y P h k = h refl
either false x y P h k = k refl

-- what holds of all that a reading gives, and what follows from it
pub weaken : {A E : Type 0} (m : Result A E) (P Q : A → Type 0) → IfOk m P → ((x : A) → P x → Q x) → IfOk m Q
weaken (Ok x) P Q h k = k x h
weaken (Err e) P Q h k = tt

-- what a reading gives is of a kind
pub at_ok : {A E : Type 0} (m : Result A E) (P : A → Type 0) (x : A) → IfOk m P → m ≡ Ok x → P x
at_ok (Ok y) P x h e = let same : y ≡ x = cc in subst P same h
at_ok (Err w) P x h e = cc
