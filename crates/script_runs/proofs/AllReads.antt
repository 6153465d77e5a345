-- Which values do the reads of a transaction show, in order, up to the read that it waits for?
use Rattle.std.proofs.Common.{ℕ, ◌+◌, ◌≤◌, ◌<◌, ◌≡◌, Bool, true, false, List, [], ◌∷◌, ◌++◌, Some, None, refl, sym, ap, subst, ◌∙◌, arith, if◌then◌else◌}
use Rattle.std.proofs.lemmas.Bool.Decides.{nat_tests}
use Rattle.std.specs.Prelude.{nat_lt, filter}
use Rattle.score_base.specs.declared.ids.Value.{Value}
use Rattle.score_base.specs.declared.keys.Key.{Key}
use Rattle.script_lang.specs.declared.scripts.Op.{Op}
use Rattle.script_lang.specs.declared.scripts.Op.TheVariants as op
use Rattle.script_lang.specs.Reads.{is_key_among}
use Rattle.script_runs.specs.Waits.{value_taken, waiting_from, waiting}
use Rattle.script_runs.specs.Walks.{Walk, unread, read_step, taken_step, write_step, if_taken, own_reads, walked}
use Rattle.script_runs.proofs.RemoteReads.{InOrder, order-left, order-untaken}
use Rattle.script_runs.proofs.Walks.{waiting-open, IsMore, more-taken, IsCase, own, far, here, case-of, own-from}

-- ---- all reads

-- the reads of these operations in order, the remote ones with the values taken and the own ones with the
-- walk's, up to the first remote read without a taken value
abbrev pub all_reads : ℕ → List Key → Walk → List (ℕ × Value) → List Op → List (ℕ × Value)
all_reads j seen w values [] = []
all_reads j seen w values (op.Read k ∷ ops) =
    if is_key_among k seen
    then (j, w.mine k) ∷ all_reads (j + 1) seen (read_step k w) values ops
    else if_taken (value_taken j values) [] (λ v. (j, v) ∷ all_reads (j + 1) (k ∷ seen) (taken_step k v w) values ops)
all_reads j seen w values (op.Write k e ∷ ops) = all_reads (j + 1) (k ∷ seen) (write_step k e w) values ops

-- the reads of a script by the values taken
abbrev pub reads_by : List (ℕ × Value) → List Op → List (ℕ × Value)
reads_by values ops = all_reads 1 [] unread values ops

-- ---- where nothing is taken from j on, these are the own reads

pub untaken-reads : (j : ℕ) (seen : List Key) (w : Walk) (values : List (ℕ × Value)) (ops : List Op)
    → ((a : ℕ) → j ≤ a → value_taken a values ≡ None) → all_reads j seen w values ops ≡ own_reads j seen w values ops
untaken-reads j seen w values [] none = refl
untaken-reads j seen w values (op.Read k ∷ ops) none = go (is_key_among k seen) (untaken-reads (j + 1) seen (read_step k w) values ops (λ a le. none a (omega arith)))
  where
    go : (b : Bool)
        → all_reads (j + 1) seen (read_step k w) values ops ≡ own_reads (j + 1) seen (read_step k w) values ops → (if b
        then (j, w.mine k) ∷ all_reads (j + 1) seen (read_step k w) values ops else if_taken (value_taken j values) []
        (λ v. (j, v) ∷ all_reads (j + 1) (k ∷ seen) (taken_step k v w) values ops)) ≡ (if b
        then (j, w.mine k) ∷ own_reads (j + 1) seen (read_step k w) values ops
        else if_taken (value_taken j values) [] (λ v. own_reads (j + 1) (k ∷ seen) (taken_step k v w) values ops))
    go true same = ap (λ ys. (j, w.mine k) ∷ ys) same
    go false same = (let e : value_taken j values ≡ None = none j (omega arith) in rw e refl)
untaken-reads j seen w values (op.Write k x ∷ ops) none = untaken-reads (j + 1) (k ∷ seen) (write_step k x w) values ops (λ a le. none a (omega arith))

-- at the begin
pub first-reads : (ops : List Op) → reads_by [] ops ≡ filter (λ y. nat_lt 0 y.0) (own_reads 1 [] unread [] ops)
first-reads ops = untaken-reads 1 [] unread [] ops (λ a le. refl) ∙ sym ((own-from 1 [] unread [] ops).kept 0 (omega arith))

-- ---- as the open read takes its value, it is shown, and the own reads behind it

pub reads-extend : (j i : ℕ) (v : Value) (seen : List Key) (w : Walk) (values values' : List (ℕ × Value))
    (ops : List Op) → IsMore i v values values' → ((a : ℕ) → i < a → value_taken a values' ≡ None)
    → waiting_from j seen values ops ≡ Some i → all_reads j seen w values' ops
    ≡ all_reads j seen w values ops ++ (i, v) ∷ filter (λ y. nat_lt i y.0) (own_reads j seen w values' ops)
reads-extend j i v seen w values values' [] more none h = absurd (grind (arith, h))
reads-extend j i v seen w values values' (op.Read k ∷ ops) more none h = go (case-of i j v k seen values values' ops more h) (reads-extend (j + 1) i v seen (read_step k w) values values' ops more none) (λ u. reads-extend (j + 1) i v (k ∷ seen) (taken_step k u w) values values' ops more none)
  where
    drops : (u : Value) (xs : List (ℕ × Value)) → j ≤ i
        → filter (λ y. nat_lt i y.0) ((j, u) ∷ xs) ≡ filter (λ y. nat_lt i y.0) xs
    drops u xs le = (let test : nat_lt i j ≡ false = grind (arith, nat_tests) in rw test refl)

    go : IsCase i j v (is_key_among k seen) (value_taken j values) (value_taken j values')
        → (waiting_from (j + 1) seen values ops ≡ Some i → all_reads (j + 1) seen (read_step k w) values' ops
        ≡ all_reads (j + 1) seen (read_step k w) values ops ++ (i, v)
        ∷ filter (λ y. nat_lt i y.0) (own_reads (j + 1) seen (read_step k w) values' ops)) → ((u : Value)
        → waiting_from (j + 1) (k ∷ seen) values ops ≡ Some i
        → all_reads (j + 1) (k ∷ seen) (taken_step k u w) values' ops
        ≡ all_reads (j + 1) (k ∷ seen) (taken_step k u w) values ops ++ (i, v)
        ∷ filter (λ y. nat_lt i y.0) (own_reads (j + 1) (k ∷ seen) (taken_step k u w) values' ops))
        → all_reads j seen w values' (op.Read k ∷ ops) ≡ all_reads j seen w values (op.Read k ∷ ops) ++ (i, v)
        ∷ filter (λ y. nat_lt i y.0) (own_reads j seen w values' (op.Read k ∷ ops))
    go (own e) same new =
        let le = (waiting-open j i seen values (op.Read k ∷ ops) h).least in
        rw (e, drops (w.mine k) (own_reads (j + 1) seen (read_step k w) values' ops) le) (ap (λ ys. (j, w.mine k) ∷ ys) (same (rw e at h)))
    go (far u e f f') same new = rw (e, f, f') (ap (λ ys. (j, u) ∷ ys) (new u (rw (e, f) at h)))
    go (here e f f' is) same new =
        let rest = untaken-reads (j + 1) (k ∷ seen) (taken_step k v w) values' ops (λ a le. none a (omega arith)) in
        let kept = (own-from (j + 1) (k ∷ seen) (taken_step k v w) values' ops).kept i (omega arith) in
        let P : ℕ → Type 0 = λ a. (j, v) ∷ all_reads (j + 1) (k ∷ seen) (taken_step k v w) values' ops ≡ (a, v) ∷ filter (λ y. nat_lt i y.0) (own_reads (j + 1) (k ∷ seen) (taken_step k v w) values' ops) in
        rw (e, f, f') (subst P is (ap (λ ys. (j, v) ∷ ys) (rest ∙ sym kept)))
reads-extend j i v seen w values values' (op.Write k x ∷ ops) more none h = reads-extend (j + 1) i v (k ∷ seen) (write_step k x w) values values' ops more none h

-- so it is with a value appended, where none was taken behind it
pub reads-more : (i : ℕ) (v : Value) (values : List (ℕ × Value)) (ops : List Op)
    → ((a : ℕ) → i < a → value_taken a values ≡ None) → waiting ops values ≡ Some i
    → reads_by (values ++ (i, v) ∷ []) ops
    ≡ reads_by values ops ++ (i, v) ∷ filter (λ y. nat_lt i y.0) (own_reads 1 [] unread (values ++ (i, v) ∷ []) ops)
reads-more i v values ops none h =
    let more = more-taken i v values (waiting-open 1 i [] values ops h).untaken in
    reads-extend 1 i v [] unread values (values ++ (i, v) ∷ []) ops more (λ a lt. more.others a (λ same. omega arith) ∙ none a lt) h

-- and so where the values are taken in order
pub reads-next : (i : ℕ) (v : Value) (values : List (ℕ × Value)) (rest : List ℕ) (ops : List Op)
    → InOrder ops values rest → waiting ops values ≡ Some i → reads_by (values ++ (i, v) ∷ []) ops
    ≡ reads_by values ops ++ (i, v) ∷ filter (λ y. nat_lt i y.0) (own_reads 1 [] unread (values ++ (i, v) ∷ []) ops)
reads-next i v values rest ops h w =
    let left = order-left ops values rest i h w in
    let h' : InOrder ops values (i ∷ left.0) = subst (InOrder ops values) left.1 h in
    reads-more i v values ops (λ a lt. order-untaken ops values i left.0 a h' (omega arith)) w

-- ---- a value behind the open read changes nothing

-- the two lists give the operations up to i the same values
abbrev pub SameTo : ℕ → List (ℕ × Value) → List (ℕ × Value) → Type 0
SameTo i values values' = (a : ℕ) → a ≤ i → value_taken a values' ≡ value_taken a values

-- what a walk up to the open read gives
pub record IsSameWalk (j : ℕ) (seen : List Key) (w : Walk) (values values' : List (ℕ × Value)) (ops : List Op) : Type 0
  where
    pub waits : waiting_from j seen values' ops ≡ waiting_from j seen values ops
    pub owns : own_reads j seen w values' ops ≡ own_reads j seen w values ops
    pub reads : all_reads j seen w values' ops ≡ all_reads j seen w values ops
    pub walk : walked j seen w values' ops ≡ walked j seen w values ops
