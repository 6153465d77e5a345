-- The floor of a session covers each of its transactions, and none of them is open where it is not busy.
use Rattle.std.proofs.Common.{◌≡◌, ◌≤◌, ℕ, Bool, true, false, List, [], ◌∷◌, Some, refl, subst, ◌∙◌, arith}
use Rattle.std.proofs.Math.Nat.{le-max_left, le-max_right}
use Rattle.std.proofs.lemmas.Bool.Decides.{nat_tests}
use Rattle.std.proofs.lemmas.Option.{same_Some}
use Rattle.std.specs.List.{list_any}
use Rattle.std.specs.Prelude.{if◌then◌else◌, max, ◌==◌, ◌||◌}
use Rattle.score_base.specs.declared.ids.TxId.{TxId}
use Rattle.script_lang.specs.Scripts.{ScriptData}
use Rattle.grid_model.specs.Nodes.{script_of}
use Rattle.grid_model.specs.Sessions.{floor_among, is_of, left_on}
use Rattle.grid_model.specs.States.{State}

-- a script of a document is among its scripts
pub script-none : (p : ScriptData → Bool) (t : TxId) (s : ScriptData) (ss : List ScriptData) → script_of t ss ≡ Some s
    → list_any p ss ≡ false → p s ≡ false
script-none p t s [] is e = cc
script-none p t s (x ∷ ss) is e =
    go (x.number == t) (p x) (list_any p ss) refl refl (λ at i. script-none p t s ss at i) is e
  where
    go : (b c m : Bool) → p x ≡ c → list_any p ss ≡ m → (script_of t ss ≡ Some s → list_any p ss ≡ false → p s ≡ false)
        → (if b then Some x else script_of t ss) ≡ Some s → (c || m) ≡ false → p s ≡ false
    go b true m i j rest at e = cc
    go true false m i j rest at e = subst (λ z. p z ≡ false) (same_Some x s at) i
    go false false m i j rest at e = rest at (j ∙ e)

-- ---- the session of a script

-- the session of which a script is
pub session-is : (k : ℕ) (s : ScriptData) → is_of k s ≡ true → s.session ≡ k
session-is k s e = grind (arith, nat_tests, e)

-- ---- the floor

-- it is at least what a transaction of the session leaves
pub floor-covers : (st : State) (k : ℕ) (t : TxId) (s : ScriptData) (ss : List ScriptData) → script_of t ss ≡ Some s
    → is_of k s ≡ true → left_on st s ≤ floor_among st k ss
floor-covers st k t s [] is e = cc
floor-covers st k t s (x ∷ ss) is e = go (x.number == t) (is_of k x) refl (λ at. floor-covers st k t s ss at e) is
  where
    neither : (y z : ScriptData) → y ≡ z → is_of k y ≡ false → is_of k z ≡ true → ⊥
    neither y z same i j = cc

    go : (b c : Bool) → is_of k x ≡ c → (script_of t ss ≡ Some s → left_on st s ≤ floor_among st k ss)
        → (if b then Some x else script_of t ss) ≡ Some s
        → left_on st s ≤ (if c then max (left_on st x) (floor_among st k ss) else floor_among st k ss)
    go true false i rest at = absurd (neither x s (same_Some x s at) i e)
    go true true i rest at =
        let P : ScriptData → Type 0 = λ z. left_on st z ≤ max (left_on st x) (floor_among st k ss) in
        subst P (same_Some x s at) (le-max_left (left_on st x) (floor_among st k ss))
    go false true i rest at =
        let below : left_on st s ≤ floor_among st k ss = rest at in
        let more = le-max_right (left_on st x) (floor_among st k ss) in
        omega arith
    go false false i rest at = rest at
