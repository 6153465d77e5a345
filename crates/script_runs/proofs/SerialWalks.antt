-- Does a script that is run alone on one map read and write what a transaction did?
use Rattle.std.proofs.Common.{ℕ, ◌+◌, ◌≡◌, inl, inr, Bool, true, false, ◌||◌, List, [], ◌∷◌, Option, Some, None, refl, sym, ap, subst, ◌∙◌, arith, suc, if◌then◌else◌}
use Rattle.std.proofs.lemmas.Bool.{cases_Bool, or_parts}
use Rattle.std.specs.Prelude.{slice_get}
use Rattle.score_base.specs.declared.ids.Value.{Value}
use Rattle.score_base.specs.declared.keys.Key.{Key}
use Rattle.score_base.specs.Keys.{same_key}
use Rattle.script_lang.specs.declared.exprs.Expr.{Expr}
use Rattle.script_lang.specs.declared.scripts.Op.{Op}
use Rattle.script_lang.specs.declared.scripts.Op.TheVariants as op
use Rattle.script_lang.specs.Exprs.{expr_value}
use Rattle.script_lang.specs.Reads.{is_key_among, written_keys}
use Rattle.script_runs.specs.Serials.{Map, put, zeros, serial_reads, serial_map, reads_on, map_behind}
use Rattle.script_runs.specs.Waits.{value_taken, first_open, waiting_from, waiting}
use Rattle.script_runs.specs.Walks.{Walk, unread, read_step, taken_step, write_step, walked, own_map, op_at, op_key}
use Rattle.script_lang.proofs.KeyLists.{same_key-is, same_key-turned}
use Rattle.script_runs.proofs.AllReads.{all_reads, reads_by}

-- ---- the values taken are those of a map

-- each value taken for one of these operations, the first of which has number j, is that of its key
abbrev pub AreOf : Map → ℕ → List (ℕ × Value) → List Op → Type 0
AreOf m j values ops =
    (i : ℕ) (k : Key) (v : Value) → op_key (slice_get ops i) ≡ Some k → value_taken (j + i) values ≡ Some v → v ≡ m k

-- each value taken for an operation of a script is that of its key
abbrev pub AreOfKeys : Map → List (ℕ × Value) → List Op → Type 0
AreOfKeys m values ops =
    (j : ℕ) (k : Key) (v : Value) → op_key (op_at ops j) ≡ Some k → value_taken j values ≡ Some v → v ≡ m k

pub keys-of : (m : Map) (values : List (ℕ × Value)) (ops : List Op) → AreOfKeys m values ops → AreOf m 1 values ops
keys-of m values ops each i k v is e =
    let same : 1 + i ≡ suc i = omega arith in
    let P : ℕ → Type 0 = λ a. value_taken a values ≡ Some v in
    each (suc i) k v is (subst P same e)

of-here : (m : Map) (j : ℕ) (k : Key) (v : Value) (values : List (ℕ × Value)) (ops : List Op)
    → AreOf m j values (op.Read k ∷ ops) → value_taken j values ≡ Some v → v ≡ m k
of-here m j k v values ops each e =
    let same : j + 0 ≡ j = omega arith in
    let P : ℕ → Type 0 = λ a. value_taken a values ≡ Some v in
    each 0 k v refl (subst P (sym same) e)

of-later : (m : Map) (j : ℕ) (o : Op) (values : List (ℕ × Value)) (ops : List Op) → AreOf m j values (o ∷ ops)
    → AreOf m (j + 1) values ops
of-later m j o values ops each i k v is e =
    let same : j + 1 + i ≡ j + suc i = omega arith in
    let P : ℕ → Type 0 = λ a. value_taken a values ≡ Some v in
    each (suc i) k v is (subst P same e)

-- ---- the walk beside the run alone

-- the run's map has the walk's values at the keys seen, and the first map's at all others; what was read
-- last is the same
pub record IsBeside (m : Map) (seen : List Key) (w : Walk) (now latest : Map) : Type 0 where
  pub same : (k : Key) → is_key_among k seen ≡ true → now k ≡ w.mine k
  pub old : (k : Key) → is_key_among k seen ≡ false → now k ≡ m k
  pub read : latest ≡ w.latest

pub beside-first : (m : Map) → IsBeside m [] unread m zeros
beside-first m = record { same = λ k h. absurd (grind (arith, h)); old = λ k h. refl; read = refl }

read-beside : (m : Map) (seen : List Key) (w : Walk) (now latest : Map) (k : Key) → IsBeside m seen w now latest
    → is_key_among k seen ≡ true → IsBeside m seen (read_step k w) now (put latest k (now k))
read-beside m seen w now latest k h there =
    record { same = h.same; old = h.old; read = ap (λ l. put l k (now k)) h.read ∙ ap (λ v. put w.latest k v) (h.same k there) }

at-put : (m : Map) (k x : Key) (v : Value) → same_key x k ≡ true → put m k v x ≡ v
at-put m k x v h = rw (same_key-turned k x, h) refl

off-put : (m : Map) (k x : Key) (v : Value) → same_key x k ≡ false → put m k v x ≡ m x
off-put m k x v h = rw (same_key-turned k x, h) refl

taken-beside : (m : Map) (seen : List Key) (w : Walk) (now latest : Map) (k : Key) (v : Value)
    → IsBeside m seen w now latest → is_key_among k seen ≡ false → v ≡ m k
    → IsBeside m (k ∷ seen) (taken_step k v w) now (put latest k (now k))
taken-beside m seen w now latest k v h new e =
    let is : now k ≡ v = h.old k new ∙ sym e in
    record {
      same = λ x there. elim (cases_Bool (same_key x k)) [
        | inl here ↦ (let P : Key → Type 0 = λ z. now z ≡ v in subst P (sym (same_key-is x k here)) is ∙ sym (at-put w.mine k x v here))
        | inr other ↦ h.same x (grind (arith, there, other)) ∙ sym (off-put w.mine k x v other)
      ];
      old = λ x gone. h.old x (or_parts (same_key x k) (is_key_among x seen) gone).1;
      read = ap (λ l. put l k (now k)) h.read ∙ ap (λ u. put w.latest k u) is;
    }

write-beside : (m : Map) (seen : List Key) (w : Walk) (now latest : Map) (k : Key) (e : Expr)
    → IsBeside m seen w now latest → IsBeside m (k ∷ seen) (write_step k e w) (put now k (expr_value latest e)) latest
write-beside m seen w now latest k e h =
    let is : expr_value latest e ≡ expr_value w.latest e = ap (λ l. expr_value l e) h.read in
    record {
      same = λ x there. elim (cases_Bool (same_key x k)) [
        | inl here ↦ at-put now k x (expr_value latest e) here ∙ is ∙ sym (at-put w.mine k x (expr_value w.latest e) here)
        | inr other ↦ off-put now k x (expr_value latest e) other ∙ h.same x (grind (arith, there, other)) ∙ sym (off-put w.mine k x (expr_value w.latest e) other)
      ];
      old = λ x gone. (let parts = or_parts (same_key x k) (is_key_among x seen) gone in off-put now k x (expr_value latest e) parts.0 ∙ h.old x parts.1);
      read = h.read;
    }

-- ---- the reads

-- how a read stands where none is waited for: an own read, or a remote one with its value
pub data IsTold (among : Bool) (o : Option Value) : Type 0 where
  own : among ≡ true → IsTold among o
  far : (u : Value) → among ≡ false → o ≡ Some u → IsTold among o

told-of : (j : ℕ) (k : Key) (seen : List Key) (values : List (ℕ × Value)) (ops : List Op)
    → waiting_from j seen values (op.Read k ∷ ops) ≡ None → IsTold (is_key_among k seen) (value_taken j values)
told-of j k seen values ops h = go (is_key_among k seen) (value_taken j values) h
  where
    go : (b : Bool) (o : Option Value) → (if b then waiting_from (j + 1) seen values ops
        else first_open o j (waiting_from (j + 1) (k ∷ seen) values ops)) ≡ None → IsTold b o
    go true o h = own refl
    go false (Some u) h = far u refl refl
    go false None h = absurd (grind (arith, h))

serial-all : (m : Map) (j : ℕ) (seen : List Key) (w : Walk) (now latest : Map) (values : List (ℕ × Value))
    (ops : List Op) → waiting_from j seen values ops ≡ None → AreOf m j values ops → IsBeside m seen w now latest
    → serial_reads j now latest ops ≡ all_reads j seen w values ops
serial-all m j seen w now latest values [] full each h = refl
serial-all m j seen w now latest values (op.Read k ∷ ops) full each h = go (told-of j k seen values ops full) (serial-all m (j + 1) seen (read_step k w) now (put latest k (now k)) values ops) (λ u. serial-all m (j + 1) (k ∷ seen) (taken_step k u w) now (put latest k (now k)) values ops)
  where
    go : IsTold (is_key_among k seen) (value_taken j values)
        → (waiting_from (j + 1) seen values ops ≡ None → AreOf m (j + 1) values ops
        → IsBeside m seen (read_step k w) now (put latest k (now k))
        → serial_reads (j + 1) now (put latest k (now k)) ops ≡ all_reads (j + 1) seen (read_step k w) values ops)
        → ((u : Value) → waiting_from (j + 1) (k ∷ seen) values ops ≡ None → AreOf m (j + 1) values ops
        → IsBeside m (k ∷ seen) (taken_step k u w) now (put latest k (now k))
        → serial_reads (j + 1) now (put latest k (now k)) ops
        ≡ all_reads (j + 1) (k ∷ seen) (taken_step k u w) values ops)
        → serial_reads j now latest (op.Read k ∷ ops) ≡ all_reads j seen w values (op.Read k ∷ ops)
    go (own e) old new = rw e (ap (λ ys. (j, now k) ∷ ys) (old (rw e at full) (of-later m j (op.Read k) values ops each) (read-beside m seen w now latest k h e)) ∙ ap (λ v. (j, v) ∷ all_reads (j + 1) seen (read_step k w) values ops) (h.same k e))
    go (far u e f) old new =
        let is : u ≡ m k = of-here m j k u values ops each f in
        let now' : now k ≡ u = h.old k e ∙ sym is in
        rw (e, f) (ap (λ ys. (j, now k) ∷ ys) (new u (rw (e, f) at full) (of-later m j (op.Read k) values ops each) (taken-beside m seen w now latest k u h e is)) ∙ ap (λ v. (j, v) ∷ all_reads (j + 1) (k ∷ seen) (taken_step k u w) values ops) now')
serial-all m j seen w now latest values (op.Write k e ∷ ops) full each h = serial-all m (j + 1) (k ∷ seen) (write_step k e w) (put now k (expr_value latest e)) latest values ops full (of-later m j (op.Write k e) values ops each) (write-beside m seen w now latest k e h)

-- a full transaction whose values are those of a map was shown what its script reads on that map
pub reads-serial : (m : Map) (values : List (ℕ × Value)) (ops : List Op) → waiting ops values ≡ None
    → AreOf m 1 values ops → reads_on m ops ≡ reads_by values ops
reads-serial m values ops full each = serial-all m 1 [] unread m zeros values ops full each (beside-first m)

-- ---- the writes

abbrev pub is_written : Key → List Op → Bool
is_written k [] = false
is_written k (op.Read x ∷ ops) = is_written k ops
is_written k (op.Write x e ∷ ops) = same_key k x || is_written k ops

serial-old : (m latest : Map) (k : Key) (ops : List Op) → is_written k ops ≡ false → serial_map m latest ops k ≡ m k
serial-old m latest k [] h = refl
serial-old m latest k (op.Read x ∷ ops) h = serial-old m (put latest x (m x)) k ops h
serial-old m latest k (op.Write x e ∷ ops) h =
    let parts = or_parts (same_key k x) (is_written k ops) h in
    serial-old (put m x (expr_value latest e)) latest k ops parts.1 ∙ off-put m x k (expr_value latest e) parts.0

serial-new : (m : Map) (j : ℕ) (seen : List Key) (w : Walk) (now latest : Map) (values : List (ℕ × Value)) (k : Key)
    (ops : List Op) → waiting_from j seen values ops ≡ None → AreOf m j values ops → IsBeside m seen w now latest
    → (is_key_among k seen || is_written k ops) ≡ true
    → serial_map now latest ops k ≡ (walked j seen w values ops).mine k
serial-new m j seen w now latest values k [] full each h is = h.same k (grind (arith, is))
serial-new m j seen w now latest values k (op.Read x ∷ ops) full each h is = go (told-of j x seen values ops full) (serial-new m (j + 1) seen (read_step x w) now (put latest x (now x)) values k ops) (λ u. serial-new m (j + 1) (x ∷ seen) (taken_step x u w) now (put latest x (now x)) values k ops)
  where
    go : IsTold (is_key_among x seen) (value_taken j values)
        → (waiting_from (j + 1) seen values ops ≡ None → AreOf m (j + 1) values ops
        → IsBeside m seen (read_step x w) now (put latest x (now x)) → (is_key_among k seen || is_written k ops) ≡ true
        → serial_map now (put latest x (now x)) ops k ≡ (walked (j + 1) seen (read_step x w) values ops).mine k)
        → ((u : Value) → waiting_from (j + 1) (x ∷ seen) values ops ≡ None → AreOf m (j + 1) values ops
        → IsBeside m (x ∷ seen) (taken_step x u w) now (put latest x (now x))
        → ((same_key k x || is_key_among k seen) || is_written k ops) ≡ true
        → serial_map now (put latest x (now x)) ops k
        ≡ (walked (j + 1) (x ∷ seen) (taken_step x u w) values ops).mine k)
        → serial_map now latest (op.Read x ∷ ops) k ≡ (walked j seen w values (op.Read x ∷ ops)).mine k
    go (own e) old new = rw (e, walked) (old (rw e at full) (of-later m j (op.Read x) values ops each) (read-beside m seen w now latest x h e) is)
    go (far u e f) old new = rw (e, f, walked) (new u (rw (e, f) at full) (of-later m j (op.Read x) values ops each) (taken-beside m seen w now latest x u h e (of-here m j x u values ops each f)) (grind (arith, is)))
serial-new m j seen w now latest values k (op.Write x e ∷ ops) full each h is = serial-new m (j + 1) (x ∷ seen) (write_step x e w) (put now x (expr_value latest e)) latest values k ops full (of-later m j (op.Write x e) values ops each) (write-beside m seen w now latest x e h) (grind (arith, is))

written-named : (k : Key) (seen : List Key) (ops : List Op)
    → (is_key_among k seen || is_key_among k (written_keys seen ops)) ≡ (is_key_among k seen || is_written k ops)
written-named k seen [] = refl
written-named k seen (op.Read x ∷ ops) = written-named k seen ops
written-named k seen (op.Write x e ∷ ops) = go (is_key_among x seen) same (written-named k seen ops) (written-named k (x ∷ seen) ops)
  where
    same : same_key k x ≡ true → is_key_among k seen ≡ is_key_among x seen
    same h = ap (λ z. is_key_among z seen) (same_key-is k x h)

    go : (b : Bool) → (same_key k x ≡ true → is_key_among k seen ≡ b)
        → (is_key_among k seen || is_key_among k (written_keys seen ops)) ≡ (is_key_among k seen || is_written k ops)
        → ((same_key k x || is_key_among k seen) || is_key_among k (written_keys (x ∷ seen) ops))
        ≡ ((same_key k x || is_key_among k seen) || is_written k ops)
        → (is_key_among k seen || is_key_among k (if b then written_keys seen ops else x ∷ written_keys (x ∷ seen) ops))
        ≡ (is_key_among k seen || (same_key k x || is_written k ops))
    go true e old new = grind (arith, e, old)
    go false e old new = grind (arith, new)

-- the map behind a script: what the transaction wrote, and the map that it was run on at all other keys
pub map-serial : (m : Map) (values : List (ℕ × Value)) (ops : List Op) (k : Key) → waiting ops values ≡ None
    → AreOf m 1 values ops
    → map_behind m ops k ≡ (if is_key_among k (written_keys [] ops) then own_map ops values k else m k)
map-serial m values ops k full each = go (is_written k ops) refl
  where
    go : (b : Bool) → is_written k ops ≡ b
        → map_behind m ops k ≡ (if is_key_among k (written_keys [] ops) then own_map ops values k else m k)
    go true e = rw (written-named k [] ops ∙ e) (serial-new m 1 [] unread m zeros values k ops full each (beside-first m) e)
    go false e = rw (written-named k [] ops ∙ e) (serial-old m zeros k ops e)
