-- The losses of a node that is opened send no message and hold no read.
use Rattle.std.proofs.Common.{◌≡◌, ℕ, ◌==◌, ◌&&◌, Bool, true, false, List, [], ◌∷◌, ◌++◌, refl, Option, Some, None, if◌then◌else◌}
use Rattle.std.specs.List.{flat_map}
use Rattle.script_lang.specs.Scripts.{ScriptData}
use Rattle.grid_model.specs.declared.acts.Act.{Act}
use Rattle.grid_model.specs.declared.acts.Act.TheVariants as act
use Rattle.grid_model.specs.Documents.{DocumentData, number_order, script_numbers}
use Rattle.grid_model.specs.Nodes.{script_of}
use Rattle.grid_model.specs.Stories.{phase, is_open}
use Rattle.grid_model.specs.Schedules.{lost_at, losses}
use Rattle.count_laws.proofs.Posts.{posts, holdings}

abbrev pub are_lost : List Act → Bool
are_lost [] = true
are_lost (act.Lost t ∷ acts) = are_lost acts
are_lost (a ∷ acts) = false

lost-append : (xs ys : List Act) → are_lost xs ≡ true → are_lost ys ≡ true → are_lost (xs ++ ys) ≡ true
lost-append [] ys p q = q
lost-append (act.Lost t ∷ xs) ys p q = lost-append xs ys p q
lost-append (x ∷ xs) ys p q = cc

lost-if : (b : Bool) (t : ℕ) → are_lost (if b then act.Lost t ∷ [] else []) ≡ true
lost-if true t = refl
lost-if false t = refl

lost-one : (d : DocumentData) (past : List Act) (n : ℕ) (s : Option ScriptData) → are_lost (lost_at d past n s) ≡ true
lost-one d past n None = refl
lost-one d past n (Some s) = lost-if ((s.home == n) && is_open (phase d past s)) s.number

lost-all : (d : DocumentData) (past : List Act) (n : ℕ) (ts : List ℕ)
    → are_lost (flat_map (λ t. lost_at d past n (script_of t d.scripts)) ts) ≡ true
lost-all d past n [] = refl
lost-all d past n (t ∷ ts) = lost-append (lost_at d past n (script_of t d.scripts)) (flat_map (λ u. lost_at d past n (script_of u d.scripts)) ts) (lost-one d past n (script_of t d.scripts)) (lost-all d past n ts)

pub losses-lost : (d : DocumentData) (past : List Act) (n : ℕ) → are_lost (losses d past n) ≡ true
losses-lost d past n = lost-all d past n (number_order (script_numbers d.scripts))

pub lost-posts : (acts : List Act) → are_lost acts ≡ true → posts acts ≡ 0
lost-posts [] e = refl
lost-posts (act.Lost t ∷ acts) e = lost-posts acts e
lost-posts (a ∷ acts) e = cc

pub lost-holdings : (acts : List Act) → are_lost acts ≡ true → holdings acts ≡ 0
lost-holdings [] e = refl
lost-holdings (act.Lost t ∷ acts) e = lost-holdings acts e
lost-holdings (a ∷ acts) e = cc
