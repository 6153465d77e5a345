-- Claims on single acts: one of them, a weaker one, and the same in the order of time.
use Rattle.std.proofs.Common.{◌≡◌, ◌∙◌, sym, refl, Bool, true, List, [], ◌∷◌, ◌++◌}
use Rattle.std.specs.List.{list_all}
use Rattle.std.proofs.lemmas.Bool.{and_parts, and_from}
use Rattle.std.proofs.lemmas.List.Folds.{list_all-append}
use Rattle.grid_model.specs.declared.acts.Act.{Act}
use Rattle.grid_model.specs.Histories.{after}
use Rattle.grid_model.specs.Acts.{EachAct}

-- the claim on one of the acts
pub claim-at : (P : Act → Type 0) (front : List Act) (x : Act) (rest : List Act) → EachAct P (front ++ x ∷ rest) → P x
claim-at P [] x rest each = each.0
claim-at P (y ∷ front) x rest each = claim-at P front x rest each.1

-- a claim that follows from another
pub each-act-more : (P Q : Act → Type 0) (past : List Act) → ((a : Act) → P a → Q a) → EachAct P past → EachAct Q past
each-act-more P Q [] go h = tt
each-act-more P Q (a ∷ past) go h = (go a h.0, each-act-more P Q past go h.1)

each-before : (P : Act → Type 0) (past h : List Act) → EachAct P (after past h) → EachAct P past
each-before P past [] all = all
each-before P past (a ∷ h) all = (each-before P (a ∷ past) h all).1

-- what holds of each act of a past holds of each act in the order of time
pub each-timed : (P : Act → Type 0) (past h : List Act) → EachAct P (after past h) → EachAct P h
each-timed P past [] all = tt
each-timed P past (a ∷ h) all = ((each-before P (a ∷ past) h all).0, each-timed P (a ∷ past) h all)

-- ---- tests

-- what passes one test passes a weaker one
pub tests-more : {A : Type 0} (f g : A → Bool) → ((a : A) → f a ≡ true → g a ≡ true) → (xs : List A)
    → list_all f xs ≡ true → list_all g xs ≡ true
tests-more f g go [] h = refl
tests-more f g go (a ∷ xs) h =
    let both = and_parts (f a) (list_all f xs) h in
    and_from (g a) (list_all g xs) (go a both.0) (tests-more f g go xs both.1)

pub tests-append : {A : Type 0} (f : A → Bool) (xs ys : List A) → list_all f xs ≡ true → list_all f ys ≡ true
    → list_all f (xs ++ ys) ≡ true
tests-append f xs ys h k = list_all-append f xs ys ∙ and_from (list_all f xs) (list_all f ys) h k

pub tests-parts : {A : Type 0} (f : A → Bool) (xs ys : List A) → list_all f (xs ++ ys) ≡ true
    → (list_all f xs ≡ true) × (list_all f ys ≡ true)
tests-parts f xs ys h = and_parts (list_all f xs) (list_all f ys) (sym (list_all-append f xs ys) ∙ h)

-- a past and the acts behind it
pub tests-after : (f : Act → Bool) (past acts : List Act) → list_all f past ≡ true → list_all f acts ≡ true
    → list_all f (after past acts) ≡ true
tests-after f past [] h k = h
tests-after f past (a ∷ acts) h k =
    let both = and_parts (f a) (list_all f acts) k in
    tests-after f (a ∷ past) acts (and_from (f a) (list_all f past) both.0 h) both.1

tests-before : (f : Act → Bool) (past acts : List Act) → list_all f (after past acts) ≡ true → list_all f past ≡ true
tests-before f past [] h = h
tests-before f past (a ∷ acts) h = (and_parts (f a) (list_all f past) (tests-before f (a ∷ past) acts h)).1

-- what each act of a past passes, each act passes in the order of time
pub tests-timed : (f : Act → Bool) (past acts : List Act) → list_all f (after past acts) ≡ true → list_all f acts ≡ true
tests-timed f past [] h = refl
tests-timed f past (a ∷ acts) h =
    and_from (f a) (list_all f acts) (and_parts (f a) (list_all f past) (tests-before f (a ∷ past) acts h)).0
    (tests-timed f (a ∷ past) acts h)
