-- What does a transaction wait for, and what do its reads show, as it takes one value more?
use Rattle.std.proofs.Common.{ℕ, ◌+◌, ◌-◌, ◌≤◌, ◌<◌, ◌≡◌, ◌≢◌, Bool, true, false, List, [], ◌∷◌, ◌++◌, Option, Some, None, refl, sym, ap, subst, ◌∙◌, arith, zero, suc, if◌then◌else◌}
use Rattle.std.proofs.lemmas.Bool.{or_parts}
use Rattle.std.proofs.lemmas.Bool.Decides.{nat_tests}
use Rattle.std.specs.Prelude.{◌==◌, nat_lt, filter, slice_get}
use Rattle.score_base.specs.declared.ids.Value.{Value}
use Rattle.score_base.specs.declared.keys.Key.{Key}
use Rattle.score_base.specs.Keys.{same_key}
use Rattle.script_lang.specs.declared.scripts.Op.{Op}
use Rattle.script_lang.specs.declared.scripts.Op.TheVariants as op
use Rattle.script_lang.specs.Reads.{is_key_among}
use Rattle.script_runs.specs.Waits.{value_taken, first_open, waiting_from, waiting}
use Rattle.script_runs.specs.Walks.{Walk, read_step, taken_step, write_step, if_taken, own_reads, op_at}

-- ---- the values taken

pub taken-stays : (a : ℕ) (u : Value) (values more : List (ℕ × Value)) → value_taken a values ≡ Some u
    → value_taken a (values ++ more) ≡ Some u
taken-stays a u [] more h = absurd (grind (arith, h))
taken-stays a u (x ∷ xs) more h = go (x.0 == a) h (taken-stays a u xs more)
  where
    go : (b : Bool) → (if b then Some x.1 else value_taken a xs) ≡ Some u
        → (value_taken a xs ≡ Some u → value_taken a (xs ++ more) ≡ Some u)
        → (if b then Some x.1 else value_taken a (xs ++ more)) ≡ Some u
    go true h rest = h
    go false h rest = rest h

pub taken-new : (i : ℕ) (v : Value) (values : List (ℕ × Value)) → value_taken i values ≡ None
    → value_taken i (values ++ (i, v) ∷ []) ≡ Some v
taken-new i v [] h = grind (arith, nat_tests)
taken-new i v (x ∷ xs) h = go (x.0 == i) h (taken-new i v xs)
  where
    go : (b : Bool) → (if b then Some x.1 else value_taken i xs) ≡ None
        → (value_taken i xs ≡ None → value_taken i (xs ++ (i, v) ∷ []) ≡ Some v)
        → (if b then Some x.1 else value_taken i (xs ++ (i, v) ∷ [])) ≡ Some v
    go true h rest = absurd (grind (arith, h))
    go false h rest = rest h

pub taken-other : (a i : ℕ) (v : Value) (values : List (ℕ × Value)) → a ≢ i
    → value_taken a (values ++ (i, v) ∷ []) ≡ value_taken a values
taken-other a i v [] ne = grind (arith, nat_tests)
taken-other a i v (x ∷ xs) ne = ap (λ o. if x.0 == a then Some x.1 else o) (taken-other a i v xs ne)

-- ---- the operation that is waited for

-- what is waited for is a remote read without a value
pub record IsOpen (j : ℕ) (seen : List Key) (values : List (ℕ × Value)) (ops : List Op) (i : ℕ) : Type 0 where
  pub least : j ≤ i
  pub untaken : value_taken i values ≡ None
  pub key : Key
  pub read : slice_get ops (i - j) ≡ Some (op.Read key)
  pub remote : is_key_among key seen ≡ false

open-later : (j i : ℕ) (x : Key) (o : Op) (seen seen' : List Key) (values : List (ℕ × Value)) (ops : List Op)
    → ((k : Key) → is_key_among k seen' ≡ false → is_key_among k seen ≡ false) → IsOpen (j + 1) seen' values ops i
    → IsOpen j seen values (o ∷ ops) i
open-later j i x o seen seen' values ops less h =
    let le = h.least in
    let step : i - j ≡ suc (i - (j + 1)) = omega arith in
    let P : ℕ → Type 0 = λ a. slice_get (o ∷ ops) a ≡ Some (op.Read h.key) in
    record { least = omega arith; untaken = h.untaken; key = h.key; read = subst P (sym step) h.read; remote = less h.key h.remote }

less-seen : (x : Key) (seen : List Key) (k : Key) → is_key_among k (x ∷ seen) ≡ false → is_key_among k seen ≡ false
less-seen x seen k h = (or_parts (same_key k x) (is_key_among k seen) h).1

pub waiting-open : (j i : ℕ) (seen : List Key) (values : List (ℕ × Value)) (ops : List Op)
    → waiting_from j seen values ops ≡ Some i → IsOpen j seen values ops i
waiting-open j i seen values [] h = absurd (grind (arith, h))
waiting-open j i seen values (op.Read k ∷ ops) h = go (is_key_among k seen) (value_taken j values) refl refl h (waiting-open (j + 1) i seen values ops) (waiting-open (j + 1) i (k ∷ seen) values ops)
  where
    here : (i : ℕ) → is_key_among k seen ≡ false → value_taken j values ≡ None → j ≡ i
        → IsOpen j seen values (op.Read k ∷ ops) i
    here i new none e =
        let first : j - j ≡ 0 = omega arith in
        let P : ℕ → Type 0 = λ a. slice_get (op.Read k ∷ ops) a ≡ Some (op.Read k) in
        subst (IsOpen j seen values (op.Read k ∷ ops)) e (record { least = omega arith; untaken = none; key = k; read = subst P (sym first) refl; remote = new })

    go : (b : Bool) (o : Option Value) → is_key_among k seen ≡ b → value_taken j values ≡ o → (if b
        then waiting_from (j + 1) seen values ops else first_open o j (waiting_from (j + 1) (k ∷ seen) values ops))
        ≡ Some i → (waiting_from (j + 1) seen values ops ≡ Some i → IsOpen (j + 1) seen values ops i)
        → (waiting_from (j + 1) (k ∷ seen) values ops ≡ Some i → IsOpen (j + 1) (k ∷ seen) values ops i)
        → IsOpen j seen values (op.Read k ∷ ops) i
    go true o e f h own far = open-later j i k (op.Read k) seen seen values ops (λ x n. n) (own h)
    go false (Some v) e f h own far = open-later j i k (op.Read k) seen (k ∷ seen) values ops (less-seen k seen) (far h)
    go false None e f h own far = here i e f (grind (arith, h))
waiting-open j i seen values (op.Write k e ∷ ops) h = open-later j i k (op.Write k e) seen (k ∷ seen) values ops (less-seen k seen) (waiting-open (j + 1) i (k ∷ seen) values ops h)

-- operation i is the one at place i - 1
pub op-place : (ops : List Op) (i : ℕ) → 1 ≤ i → op_at ops i ≡ slice_get ops (i - 1)
op-place ops zero least = absurd (grind (arith, least))
op-place ops (suc i) least = ap (slice_get ops) (omega arith)

-- it is that operation of the script
pub waiting-read : (i : ℕ) (ops : List Op) (values : List (ℕ × Value)) → waiting ops values ≡ Some i
    → (k : Key) × (op_at ops i ≡ Some (op.Read k)) × (1 ≤ i)
waiting-read i ops values h =
    let x = waiting-open 1 i [] values ops h in
    (x.key, op-place ops i x.least ∙ x.read, x.least)

-- ---- a value more

-- operation i has a value in the second list alone, and any other the same in both
pub record IsMore (i : ℕ) (v : Value) (values values' : List (ℕ × Value)) : Type 0 where
  pub untaken : value_taken i values ≡ None
  pub taken : value_taken i values' ≡ Some v
  pub others : (a : ℕ) → a ≢ i → value_taken a values' ≡ value_taken a values

pub more-taken : (i : ℕ) (v : Value) (values : List (ℕ × Value)) → value_taken i values ≡ None
    → IsMore i v values (values ++ (i, v) ∷ [])
more-taken i v values h = record { untaken = h; taken = taken-new i v values h; others = λ a ne. taken-other a i v values ne }

-- how a read at or before the open one stands: an own read, a remote one with its value, or the open one
pub data IsCase (i j : ℕ) (v : Value) (among : Bool) (o o' : Option Value) : Type 0 where
  own : among ≡ true → IsCase i j v among o o'
  far : (u : Value) → among ≡ false → o ≡ Some u → o' ≡ Some u → IsCase i j v among o o'
  here : among ≡ false → o ≡ None → o' ≡ Some v → j ≡ i → IsCase i j v among o o'

pub case-of : (i j : ℕ) (v : Value) (k : Key) (seen : List Key) (values values' : List (ℕ × Value)) (ops : List Op)
    → IsMore i v values values' → waiting_from j seen values (op.Read k ∷ ops) ≡ Some i
    → IsCase i j v (is_key_among k seen) (value_taken j values) (value_taken j values')
case-of i j v k seen values values' ops more h = go (is_key_among k seen) (value_taken j values) refl refl h
  where
    go : (b : Bool) (o : Option Value) → is_key_among k seen ≡ b → value_taken j values ≡ o → (if b
        then waiting_from (j + 1) seen values ops else first_open o j (waiting_from (j + 1) (k ∷ seen) values ops))
        ≡ Some i → IsCase i j v b o (value_taken j values')
    go true o e f h = own refl
    go false (Some u) e f h =
        let ne : j ≢ i = λ same. (let P : ℕ → Type 0 = λ a. value_taken a values ≡ Some u in let t = subst P same f in let t' = more.untaken in grind (arith, t, t')) in
        far u refl refl (more.others j ne ∙ f)
    go false None e f h =
        let same : j ≡ i = grind (arith, h) in
        let P : ℕ → Type 0 = λ a. value_taken a values' ≡ Some v in
        here refl refl (subst P (sym same) more.taken) same

-- ---- the own reads

-- they have numbers from j on
pub record IsFrom (j : ℕ) (xs : List (ℕ × Value)) : Type 0 where
  pub kept : (i : ℕ) → i < j → filter (λ y. nat_lt i y.0) xs ≡ xs

own-step : (j : ℕ) (v : Value) (xs : List (ℕ × Value)) → IsFrom (j + 1) xs → IsFrom j ((j, v) ∷ xs)
own-step j v xs h = record {
  kept = λ i lt.
      let test : nat_lt i j ≡ true = grind (arith, nat_tests) in
      rw test (ap (λ ys. (j, v) ∷ ys) (h.kept i (omega arith)));
}

from-later : (j : ℕ) (xs : List (ℕ × Value)) → IsFrom (j + 1) xs → IsFrom j xs
from-later j xs h = record { kept = λ i lt. h.kept i (omega arith) }

pub own-from : (j : ℕ) (seen : List Key) (w : Walk) (values : List (ℕ × Value)) (ops : List Op)
    → IsFrom j (own_reads j seen w values ops)
own-from j seen w values [] = record { kept = λ i lt. refl }
own-from j seen w values (op.Read k ∷ ops) = go (is_key_among k seen) (value_taken j values) (own-from (j + 1) seen (read_step k w) values ops) (λ v. own-from (j + 1) (k ∷ seen) (taken_step k v w) values ops)
  where
    go : (b : Bool) (o : Option Value) → IsFrom (j + 1) (own_reads (j + 1) seen (read_step k w) values ops)
        → ((v : Value) → IsFrom (j + 1) (own_reads (j + 1) (k ∷ seen) (taken_step k v w) values ops)) → IsFrom j (if b
        then (j, w.mine k) ∷ own_reads (j + 1) seen (read_step k w) values ops
        else if_taken o [] (λ v. own_reads (j + 1) (k ∷ seen) (taken_step k v w) values ops))
    go true o same new = own-step j (w.mine k) _ same
    go false (Some v) same new = from-later j _ (new v)
    go false None same new = record { kept = λ i lt. refl }
own-from j seen w values (op.Write k x ∷ ops) = from-later j _ (own-from (j + 1) (k ∷ seen) (write_step k x w) values ops)
