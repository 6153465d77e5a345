-- Which reads of a script are remote, and which of them comes next when the first of them are taken?
use Rattle.std.proofs.Common.{ℕ, ◌+◌, ◌-◌, ◌≤◌, ◌<◌, ◌≡◌, inl, inr, Bool, true, false, ◌||◌, map, List, [], ◌∷◌, ◌++◌, Option, Some, None, is_some, refl, sym, ap, subst, ◌∙◌, arith, suc, if◌then◌else◌}
use Rattle.std.proofs.lemmas.Bool.{or_parts, or_cases, or_left, or_right}
use Rattle.std.proofs.lemmas.Bool.Decides.{nat_tests}
use Rattle.std.specs.Prelude.{◌==◌, slice_get}
use Rattle.score_base.specs.declared.ids.Value.{Value}
use Rattle.score_base.specs.declared.keys.Key.{Key}
use Rattle.score_base.specs.Keys.{same_key}
use Rattle.script_lang.specs.declared.scripts.Op.{Op}
use Rattle.script_lang.specs.declared.scripts.Op.TheVariants as op
use Rattle.script_lang.specs.Reads.{is_key_among, remote_keys}
use Rattle.script_runs.specs.Waits.{value_taken, first_open, waiting_from, waiting}
use Rattle.script_lang.proofs.KeyLists.{among-here, among-later}

-- ---- the numbers of the remote reads

-- the numbers of the remote reads of these operations, the first of which has number j
abbrev pub remote_numbers : ℕ → List Key → List Op → List ℕ
remote_numbers j seen [] = []
remote_numbers j seen (op.Read k ∷ ops) =
    if is_key_among k seen then remote_numbers (j + 1) seen ops else j ∷ remote_numbers (j + 1) (k ∷ seen) ops
remote_numbers j seen (op.Write k e ∷ ops) = remote_numbers (j + 1) (k ∷ seen) ops

abbrev pub has_number : ℕ → List ℕ → Bool
has_number a [] = false
has_number a (n ∷ ns) = (n == a) || has_number a ns

-- rising numbers from j on
abbrev pub AreRising : ℕ → List ℕ → Type 0
AreRising j [] = Unit {0}
AreRising j (n ∷ ns) = (j ≤ n) × AreRising (suc n) ns

rising-lower : (j i : ℕ) (ns : List ℕ) → i ≤ j → AreRising j ns → AreRising i ns
rising-lower j i [] le h = tt
rising-lower j i (n ∷ ns) le h = (omega (arith, h.0), h.1)

pub numbers-rise : (j : ℕ) (seen : List Key) (ops : List Op) → AreRising j (remote_numbers j seen ops)
numbers-rise j seen [] = tt
numbers-rise j seen (op.Read k ∷ ops) = go (is_key_among k seen) (numbers-rise (j + 1) seen ops) (numbers-rise (j + 1) (k ∷ seen) ops)
  where
    go : (b : Bool) → AreRising (j + 1) (remote_numbers (j + 1) seen ops)
        → AreRising (j + 1) (remote_numbers (j + 1) (k ∷ seen) ops)
        → AreRising j (if b then remote_numbers (j + 1) seen ops else j ∷ remote_numbers (j + 1) (k ∷ seen) ops)
    go true old new = rising-lower (j + 1) j (remote_numbers (j + 1) seen ops) (omega arith) old
    go false old new = (omega arith, rising-lower (j + 1) (suc j) (remote_numbers (j + 1) (k ∷ seen) ops) (omega arith) new)
numbers-rise j seen (op.Write k e ∷ ops) = rising-lower (j + 1) j (remote_numbers (j + 1) (k ∷ seen) ops) (omega arith) (numbers-rise (j + 1) (k ∷ seen) ops)

-- a remote read: its key, that no operation before it names
pub record IsRemote (j : ℕ) (seen : List Key) (ops : List Op) (a : ℕ) : Type 0 where
  pub least : j ≤ a
  pub key : Key
  pub read : slice_get ops (a - j) ≡ Some (op.Read key)
  pub new : is_key_among key seen ≡ false
  pub listed : is_key_among key (remote_keys seen ops) ≡ true

remote-later : (j a : ℕ) (o : Op) (seen seen' : List Key) (ops : List Op)
    → ((k : Key) → is_key_among k seen' ≡ false → is_key_among k seen ≡ false)
    → ((k : Key) → is_key_among k (remote_keys seen' ops) ≡ true → is_key_among k (remote_keys seen (o ∷ ops)) ≡ true)
    → IsRemote (j + 1) seen' ops a → IsRemote j seen (o ∷ ops) a
remote-later j a o seen seen' ops less more h =
    let le = h.least in
    let step : a - j ≡ suc (a - (j + 1)) = omega arith in
    let P : ℕ → Type 0 = λ i. slice_get (o ∷ ops) i ≡ Some (op.Read h.key) in
    record { least = omega arith; key = h.key; read = subst P (sym step) h.read; new = less h.key h.new; listed = more h.key h.listed }

pub number-remote : (j a : ℕ) (seen : List Key) (ops : List Op) → has_number a (remote_numbers j seen ops) ≡ true
    → IsRemote j seen ops a
number-remote j a seen [] h = absurd (grind (arith, h))
number-remote j a seen (op.Read k ∷ ops) h = go (is_key_among k seen) refl h (number-remote (j + 1) a seen ops) (number-remote (j + 1) a (k ∷ seen) ops)
  where
    here : is_key_among k seen ≡ false → j ≡ a → IsRemote j seen (op.Read k ∷ ops) a
    here e is =
        let first : j - j ≡ 0 = omega arith in
        let P : ℕ → Type 0 = λ i. slice_get (op.Read k ∷ ops) i ≡ Some (op.Read k) in
        subst (IsRemote j seen (op.Read k ∷ ops)) is (record { least = omega arith; key = k; read = subst P (sym first) refl; new = e; listed = rw e (among-here k (remote_keys (k ∷ seen) ops)) })

    go : (b : Bool) → is_key_among k seen ≡ b
        → has_number a (if b then remote_numbers (j + 1) seen ops else j ∷ remote_numbers (j + 1) (k ∷ seen) ops) ≡ true
        → (has_number a (remote_numbers (j + 1) seen ops) ≡ true → IsRemote (j + 1) seen ops a)
        → (has_number a (remote_numbers (j + 1) (k ∷ seen) ops) ≡ true → IsRemote (j + 1) (k ∷ seen) ops a)
        → IsRemote j seen (op.Read k ∷ ops) a
    go true e h old new = remote-later j a (op.Read k) seen seen ops (λ x n. n) (λ x n. rw e n) (old h)
    go false e h old new = elim (or_cases (j == a) (has_number a (remote_numbers (j + 1) (k ∷ seen) ops)) h) [
      | inl is ↦ here e (grind (arith, nat_tests, is))
      | inr more ↦ remote-later j a (op.Read k) seen (k ∷ seen) ops (λ x n. (or_parts (same_key x k) (is_key_among x seen) n).1) (λ x n. rw e (among-later x k (remote_keys (k ∷ seen) ops) n)) (new more)
    ]
number-remote j a seen (op.Write k e ∷ ops) h = remote-later j a (op.Write k e) seen (k ∷ seen) ops (λ x n. (or_parts (same_key x k) (is_key_among x seen) n).1) (λ x n. n) (number-remote (j + 1) a (k ∷ seen) ops h)

-- ---- the first without a value

abbrev pub first_without : List (ℕ × Value) → List ℕ → Option ℕ
first_without values [] = None
first_without values (n ∷ ns) = first_open (value_taken n values) n (first_without values ns)

pub waiting-is : (j : ℕ) (seen : List Key) (values : List (ℕ × Value)) (ops : List Op)
    → waiting_from j seen values ops ≡ first_without values (remote_numbers j seen ops)
waiting-is j seen values [] = refl
waiting-is j seen values (op.Read k ∷ ops) = go (is_key_among k seen) (waiting-is (j + 1) seen values ops) (waiting-is (j + 1) (k ∷ seen) values ops)
  where
    go : (b : Bool) → waiting_from (j + 1) seen values ops ≡ first_without values (remote_numbers (j + 1) seen ops)
        → waiting_from (j + 1) (k ∷ seen) values ops ≡ first_without values (remote_numbers (j + 1) (k ∷ seen) ops)
        → (if b then waiting_from (j + 1) seen values ops
        else first_open (value_taken j values) j (waiting_from (j + 1) (k ∷ seen) values ops)) ≡ first_without values
        (if b then remote_numbers (j + 1) seen ops else j ∷ remote_numbers (j + 1) (k ∷ seen) ops)
    go true old new = old
    go false old new = ap (first_open (value_taken j values) j) new
waiting-is j seen values (op.Write k e ∷ ops) = waiting-is (j + 1) (k ∷ seen) values ops

-- ---- values taken in order

-- the values taken are those of the first remote reads, and these remote reads are left
pub record InOrder (ops : List Op) (values : List (ℕ × Value)) (rest : List ℕ) : Type 0 where
  pub numbers : map (λ y. y.0) values ++ rest ≡ remote_numbers 1 [] ops

pub order-first : (ops : List Op) → InOrder ops [] (remote_numbers 1 [] ops)
order-first ops = record { numbers = refl }

pub taken-among : (a : ℕ) (values : List (ℕ × Value))
    → is_some (value_taken a values) ≡ has_number a (map (λ y. y.0) values)
taken-among a [] = refl
taken-among a (x ∷ xs) = go (x.0 == a) (taken-among a xs)
  where
    go : (b : Bool) → is_some (value_taken a xs) ≡ has_number a (map (λ y. y.0) xs)
        → is_some (if b then Some x.1 else value_taken a xs) ≡ (b || has_number a (map (λ y. y.0) xs))
    go true h = refl
    go false h = h

has-append : (a : ℕ) (ns ms : List ℕ) → has_number a (ns ++ ms) ≡ (has_number a ns || has_number a ms)
has-append a [] ms = refl
has-append a (n ∷ ns) ms = grind (arith, has-append a ns ms)

-- rising numbers before n are below it
rising-below : (j n a : ℕ) (ns rest : List ℕ) → AreRising j (ns ++ n ∷ rest) → has_number a ns ≡ true → a < n
rising-below j n a [] rest h is = absurd (grind (arith, is))
rising-below j n a (m ∷ ns) rest h is = elim (or_cases (m == a) (has_number a ns) is) [
  | inl here ↦
      let least : suc m ≤ n = rising-least (suc m) n ns rest h.1 in
      grind (arith, nat_tests, here)
  | inr more ↦ rising-below (suc m) n a ns rest h.1 more
]
  where
    rising-least : (j n : ℕ) (ns rest : List ℕ) → AreRising j (ns ++ n ∷ rest) → j ≤ n
    rising-least j n [] rest h = h.0
    rising-least j n (m ∷ ns) rest h = omega (arith, h.0, rising-least (suc m) n ns rest h.1)

untaken-from : (n : ℕ) (values : List (ℕ × Value)) (rest : List ℕ) (a : ℕ)
    → AreRising 1 (map (λ y. y.0) values ++ n ∷ rest) → n ≤ a → value_taken a values ≡ None
untaken-from n values rest a up le = go (value_taken a values) (taken-among a values)
  where
    go : (o : Option Value) → is_some o ≡ has_number a (map (λ y. y.0) values) → o ≡ None
    go None e = refl
    go (Some v) e = absurd (let lt = rising-below 1 n a (map (λ y. y.0) values) rest up (sym e) in omega arith)

pass-taken : (values : List (ℕ × Value)) (ns rest : List ℕ)
    → ((a : ℕ) → has_number a ns ≡ true → is_some (value_taken a values) ≡ true)
    → first_without values (ns ++ rest) ≡ first_without values rest
pass-taken values [] rest each = refl
pass-taken values (n ∷ ns) rest each = go (value_taken n values) (each n (grind (arith, nat_tests))) (pass-taken values ns rest (λ a h. each a (or_right (n == a) (has_number a ns) h)))
  where
    go : (o : Option Value) → is_some o ≡ true → first_without values (ns ++ rest) ≡ first_without values rest
        → first_open o n (first_without values (ns ++ rest)) ≡ first_without values rest
    go None h more = absurd (grind (arith, h))
    go (Some v) h more = more

-- what is waited for is the first that is left
pub order-waiting : (ops : List Op) (values : List (ℕ × Value)) (rest : List ℕ) → InOrder ops values rest
    → waiting ops values ≡ slice_get rest 0
order-waiting ops values rest h =
    waiting-is 1 [] values ops
    ∙ ap (first_without values) (sym h.numbers)
    ∙ pass-taken values (map (λ y. y.0) values) rest (λ a is. taken-among a values ∙ is)
    ∙ first rest (let P : List ℕ → Type 0 = λ ns. AreRising 1 ns in subst P (sym h.numbers) (numbers-rise 1 [] ops))
  where
    first : (rest : List ℕ) → AreRising 1 (map (λ y. y.0) values ++ rest) → first_without values rest ≡ slice_get rest 0
    first [] up = refl
    first (n ∷ rest) up = rw (untaken-from n values rest n up (omega arith)) refl

-- nothing behind it is taken
pub order-untaken : (ops : List Op) (values : List (ℕ × Value)) (n : ℕ) (rest : List ℕ) (a : ℕ)
    → InOrder ops values (n ∷ rest) → n ≤ a → value_taken a values ≡ None
order-untaken ops values n rest a h le = untaken-from n values rest a (let P : List ℕ → Type 0 = λ ns. AreRising 1 ns in subst P (sym h.numbers) (numbers-rise 1 [] ops)) le

-- what is taken is of a remote read
pub order-remote : (ops : List Op) (values : List (ℕ × Value)) (rest : List ℕ) (a : ℕ) (v : Value)
    → InOrder ops values rest → value_taken a values ≡ Some v → IsRemote 1 [] ops a
order-remote ops values rest a v h e =
    let is : has_number a (map (λ y. y.0) values) ≡ true = sym (taken-among a values) ∙ ap is_some e in
    let all : has_number a (remote_numbers 1 [] ops) ≡ true = ap (has_number a) (sym h.numbers) ∙ has-append a (map (λ y. y.0) values) rest ∙ or_left (has_number a (map (λ y. y.0) values)) (has_number a rest) is in
    number-remote 1 a [] ops all

map-append : (values : List (ℕ × Value)) (y : ℕ × Value) (rest : List ℕ)
    → map (λ y. y.0) (values ++ y ∷ []) ++ rest ≡ map (λ y. y.0) values ++ y.0 ∷ rest
map-append [] y rest = refl
map-append (x ∷ xs) y rest = ap (λ ns. x.0 ∷ ns) (map-append xs y rest)

-- the first that is left takes its value
pub order-more : (ops : List Op) (values : List (ℕ × Value)) (n : ℕ) (v : Value) (rest : List ℕ)
    → InOrder ops values (n ∷ rest) → InOrder ops (values ++ (n, v) ∷ []) rest
order-more ops values n v rest h = record { numbers = map-append values (n, v) rest ∙ h.numbers }

-- who waits has reads left, the first of which is the one waited for
pub order-left : (ops : List Op) (values : List (ℕ × Value)) (rest : List ℕ) (i : ℕ) → InOrder ops values rest
    → waiting ops values ≡ Some i → (more : List ℕ) × (rest ≡ i ∷ more)
order-left ops values rest i h w = go rest (sym (order-waiting ops values rest h) ∙ w)
  where
    go : (ns : List ℕ) → slice_get ns 0 ≡ Some i → (more : List ℕ) × (ns ≡ i ∷ more)
    go [] e = absurd (grind (arith, e))
    go (n ∷ ns) e = (let is : n ≡ i = grind (arith, e) in (ns, ap (λ m. m ∷ ns) is))
