-- From what an answer ensures to what is asked of it.
use Rattle.std.proofs.Common.{◌≡◌, ◌≤◌, arith, true, false, nat_lt, Result, Ok, Err, IfOk, List, [], ◌∷◌, length, refl, sym, subst}
use Rattle.std.specs.Prelude.{OnOk}
use Rattle.std.proofs.lemmas.Bool.Decides.{nat_tests}
use Rattle.grid_model.specs.declared.acts.Act.{Act}

-- What is asked of the acts of an answer that are these, where something else holds besides.
pub told-ok : {A E T : Type 0} (r : Result A E) (items : A → List Act) (P : List Act → Type 0)
    (acts : List Act) → OnOk r T → IfOk r (λ a. items a ≡ acts) → (T → P acts) → IfOk r (λ a. P (items a))
told-ok (Ok a) items P acts t is f = subst P (sym is) (f t)
told-ok (Err e) items P acts t is f = tt

pub ok-map : {A E : Type 0} {P Q : A → Type 0} (r : Result A E) → ((a : A) → P a → Q a) → IfOk r P → IfOk r Q
ok-map (Ok a) f p = f a p
ok-map (Err e) f p = tt

pub on-ok-map : {A E P Q : Type 0} (r : Result A E) → (P → Q) → OnOk r P → OnOk r Q
on-ok-map (Ok a) f p = f p
on-ok-map (Err e) f p = tt

-- there is an act, or there is none
pub any-none : (acts : List Act) → nat_lt 0 (length acts) ≡ false → acts ≡ []
any-none [] is = refl
any-none (a ∷ acts) is =
    let some : 1 ≤ length (a ∷ acts) = omega arith in absurd (grind (arith, nat_tests, is, some))

pub any-some : (acts : List Act) → nat_lt 0 (length acts) ≡ true → acts ≡ [] → ⊥
any-some [] is none = cc
any-some (a ∷ acts) is none = cc
