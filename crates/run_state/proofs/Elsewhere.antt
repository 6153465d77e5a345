-- An act changes no node but the one that it is of.
use Rattle.std.proofs.Common.{◌≡◌, ◌≢◌, ◌≤◌, ◌-◌, ℕ, ◌==◌, Bool, true, false, List, length, Option, Some, None, refl, subst, ◌∙◌, inl, inr, arith, slice_set}
use Rattle.std.proofs.lemmas.Bool.{cases_eq}
use Rattle.std.proofs.lemmas.Bool.Decides.{nat_tests}
use Rattle.std.proofs.lemmas.List.{get_or-set_same, get_or-set_other}
use Rattle.script_lang.specs.Scripts.{ScriptData}
use Rattle.grid_model.specs.declared.acts.Act.{Act}
use Rattle.grid_model.specs.declared.acts.Act.TheVariants as act
use Rattle.grid_model.specs.declared.messages.Envelope.{Envelope}
use Rattle.grid_model.specs.Documents.{DocumentData}
use Rattle.grid_model.specs.Nodes.{Node, blank, Nothing, Change, where_at, change, changed, is_home_in, script_of}
use Rattle.run_state.specs.Kept.{place_of, home_in, is_number, node_in}

not-home : (o : Option ScriptData) (n : ℕ) → is_number (home_in o) n ≡ false → is_home_in o n ≡ false
not-home None n e = refl
not-home (Some s) n e = e

not-there : (b : Bool) (x : Change) → b ≡ false → where_at b x ≡ Nothing
not-there true x e = cc
not-there false x e = refl

pub elsewhere : (d : DocumentData) (e : Option Envelope) (a : Act) (n : ℕ) → is_number (place_of d a) n ≡ false
    → change d e a n ≡ Nothing
elsewhere d e (act.Decided t f) n h = not-there _ _ (not-home (script_of t d.scripts) n h)
elsewhere d e (act.Closed t) n h = not-there _ _ (not-home (script_of t d.scripts) n h)
elsewhere d e (act.Prepared m t p) n h = not-there (m == n) _ h
elsewhere d e (act.Ended m t o) n h = not-there (m == n) _ h
elsewhere d e (act.Ceiling m c) n h = not-there (m == n) _ h
elsewhere d e (act.Raised m sid) n h = not-there (m == n) _ h
elsewhere d e (act.Held m t op sid) n h = not-there (m == n) _ h
elsewhere d e (act.Served m t op k sid vn v) n h = not-there (m == n) _ h
elsewhere d e (act.Down m x) n h = not-there (m == n) _ h
elsewhere d e (act.Up m f) n h = not-there (m == n) _ h
elsewhere d e (act.StillDown m) n h = not-there (m == n) _ h
elsewhere d e a n h = refl

places-apart : (m n : ℕ) → 1 ≤ m → 1 ≤ n → n ≢ m → m - 1 ≢ n - 1
places-apart m n p q other = omega (arith, other)

-- an act of node n, by what it makes of it
pub nodes-one : (d : DocumentData) (e : Option Envelope) (a : Act) (xs : List Node) (n : ℕ) (v : Node) → 1 ≤ n → n ≤ 16
    → length xs ≡ 16 → place_of d a ≡ Some n → v ≡ changed (change d e a n) (node_in xs n) → (m : ℕ) → 1 ≤ m → m ≤ 16
    → node_in (slice_set xs (n - 1) v) m ≡ changed (change d e a m) (node_in xs m)
nodes-one d e a xs n v least most count at made m p q = elim (cases_eq n m) [
  | inl same ↦ subst (λ k. node_in (slice_set xs (n - 1) v) k ≡ changed (change d e a k) (node_in xs k)) same (get_or-set_same xs (n - 1) v blank (omega (arith, count)) ∙ made)
  | inr other ↦
      let away : is_number (place_of d a) m ≡ false = rw at (grind (arith, nat_tests, other)) in
      rw (elsewhere d e a m away) (get_or-set_other xs (n - 1) (m - 1) v blank (places-apart m n p least other))
]
