-- Each key has a holder, and a holder of a key that a script names is a part of the script.
use Rattle.grid_laws.proofs.ScriptKeys.{any-among}
use Rattle.std.proofs.Common.{◌≡◌, ℕ, ◌+◌, ◌≤◌, ◌<◌, inl, inr, Bool, true, false, List, [], ◌∷◌, Some, refl, sym, ap, subst, ◌∙◌, arith, zero, suc, length, ◌%◌}
use Rattle.std.proofs.lemmas.Bool.Decides.{nat_tests}
use Rattle.std.proofs.lemmas.Bool.{and_parts, or_left, or_right, or_cases, cases_eq}
use Rattle.std.specs.Prelude.{◌==◌, ◌||◌, IsTrue, filter, slice_get, slice_index_or, if◌then◌else◌}
use Rattle.std.specs.List.{list_all, list_any, range_with_len}
use Rattle.score_base.specs.declared.ids.TxId.{TxId}
use Rattle.score_base.specs.declared.ids.NodeId.{NodeId}
use Rattle.score_base.specs.declared.keys.Key.{Key}
use Rattle.score_base.specs.Keys.{same_key}
use Rattle.script_lang.specs.declared.scripts.Op.{Op}
use Rattle.script_lang.specs.declared.scripts.Op.TheVariants as op
use Rattle.script_lang.specs.Scripts.{ScriptData}
use Rattle.script_lang.specs.Reads.{is_key_among, keys_named, keys_of, distinct_keys, remote_keys, written_keys, key_of}
use Rattle.placement.specs.Places.{is_among, holds, is_partition, key_sum}
use Rattle.script_runs.specs.Walks.{op_at}
use Rattle.grid_model.specs.Documents.{DocumentData, IsOne}
use Rattle.grid_model.specs.Nodes.{script_of, parts_in, parts_of}
use Rattle.grid_model.specs.Facts.{parts_at}
use Rattle.script_lang.proofs.KeyLists.{same_key-is, same_key-self}
use Rattle.grid_laws.proofs.NodesNumbered.{holder-least, holder-most}

-- ---- a key has a holder

first-among : (ns : List NodeId) → is_partition ns ≡ true → (n : NodeId) × (is_among n ns ≡ true)
first-among [] h = cc
first-among (n ∷ ns) h = (n, grind (arith, nat_tests))

place-among : (places : List (List NodeId)) (i : ℕ) → list_all is_partition places ≡ true → i < length places
    → (n : NodeId) × (is_among n (slice_index_or places i []) ≡ true)
place-among [] i all lt = absurd (omega arith)
place-among (ns ∷ places) zero all lt = first-among ns (and_parts (is_partition ns) (list_all is_partition places) all).0
place-among (ns ∷ places) (suc i) all lt = place-among places i (and_parts (is_partition ns) (list_all is_partition places) all).1 (omega arith)

pub some-holder : (d : DocumentData) (k : Key) → IsOne d → (n : NodeId) × (holds d.cluster.places n k ≡ true)
some-holder d k one =
    let least : 1 ≤ length d.cluster.places = one.document.cluster.places.least in
    place-among d.cluster.places (key_sum k % length d.cluster.places) one.document.cluster.places.each (grind (arith, least))

-- ---- the keys of a script

-- a key that is written is named
pub written-named : (k : Key) (seen : List Key) (ops : List Op) → is_key_among k (written_keys seen ops) ≡ true
    → is_key_among k (keys_named ops) ≡ true
written-named k seen [] h = h
written-named k seen (op.Read x ∷ ops) h = or_right (same_key k x) (is_key_among k (keys_named ops)) (written-named k seen ops h)
written-named k seen (op.Write x e ∷ ops) h = go (is_key_among x seen) h (λ s i. written-named k s ops i)
  where
    go : (b : Bool) → is_key_among k (if b then written_keys seen ops else x ∷ written_keys (x ∷ seen) ops) ≡ true
        → ((s : List Key) → is_key_among k (written_keys s ops) ≡ true → is_key_among k (keys_named ops) ≡ true)
        → (same_key k x || is_key_among k (keys_named ops)) ≡ true
    go true i more = or_right (same_key k x) (is_key_among k (keys_named ops)) (more seen i)
    go false i more = elim (or_cases (same_key k x) (is_key_among k (written_keys (x ∷ seen) ops)) i) [
      | inl here ↦ or_left (same_key k x) (is_key_among k (keys_named ops)) here
      | inr later ↦ or_right (same_key k x) (is_key_among k (keys_named ops)) (more (x ∷ seen) later)
    ]

-- a key that is read remotely is named
pub remote-named : (k : Key) (seen : List Key) (ops : List Op) → is_key_among k (remote_keys seen ops) ≡ true
    → is_key_among k (keys_named ops) ≡ true
remote-named k seen [] h = h
remote-named k seen (op.Read x ∷ ops) h = go (is_key_among x seen) h (λ s i. remote-named k s ops i)
  where
    go : (b : Bool) → is_key_among k (if b then remote_keys seen ops else x ∷ remote_keys (x ∷ seen) ops) ≡ true
        → ((s : List Key) → is_key_among k (remote_keys s ops) ≡ true → is_key_among k (keys_named ops) ≡ true)
        → (same_key k x || is_key_among k (keys_named ops)) ≡ true
    go true i more = or_right (same_key k x) (is_key_among k (keys_named ops)) (more seen i)
    go false i more = elim (or_cases (same_key k x) (is_key_among k (remote_keys (x ∷ seen) ops)) i) [
      | inl here ↦ or_left (same_key k x) (is_key_among k (keys_named ops)) here
      | inr later ↦ or_right (same_key k x) (is_key_among k (keys_named ops)) (more (x ∷ seen) later)
    ]
remote-named k seen (op.Write x e ∷ ops) h = or_right (same_key k x) (is_key_among k (keys_named ops)) (remote-named k (x ∷ seen) ops h)

distinct-among : (k : Key) (seen ks : List Key) → is_key_among k seen ≡ false → is_key_among k ks ≡ true
    → is_key_among k (distinct_keys seen ks) ≡ true
distinct-among k seen [] new h = h
distinct-among k seen (x ∷ ks) new h = go (same_key k x) (is_key_among x seen) refl refl h (λ s e i. distinct-among k s ks e i)
  where
    first : (b : Bool) → same_key k x ≡ true → is_key_among x seen ≡ b → b ≡ true → ⊥
    first b e f g =
        let is : k ≡ x = same_key-is k x e in
        let there : is_key_among k seen ≡ true = subst (λ (y : Key). is_key_among y seen ≡ true) (sym is) (f ∙ g) in
        cc

    go : (a b : Bool) → same_key k x ≡ a → is_key_among x seen ≡ b → (a || is_key_among k ks) ≡ true → ((s : List Key)
        → is_key_among k s ≡ false → is_key_among k ks ≡ true → is_key_among k (distinct_keys s ks) ≡ true)
        → is_key_among k (if b then distinct_keys seen ks else x ∷ distinct_keys (x ∷ seen) ks) ≡ true
    go true true e f i more = absurd (first true e f refl)
    go true false e f i more = or_left (same_key k x) (is_key_among k (distinct_keys (x ∷ seen) ks)) e
    go false true e f i more = more seen new i
    go false false e f i more = or_right (same_key k x) (is_key_among k (distinct_keys (x ∷ seen) ks)) (more (x ∷ seen) (rw e new) i)

-- ---- parts

filter-range : (p : NodeId → Bool) (n a len : ℕ) → a ≤ n → n < a + len → p n ≡ true
    → is_among n (filter p (range_with_len a len)) ≡ true
filter-range p n a zero le lt h = absurd (omega arith)
filter-range p n a (suc len) le lt h = elim (cases_eq a n) [
  | inl same ↦ here (p a) (grind (arith, nat_tests, same)) (subst (λ (m : NodeId). p m ≡ true) (sym same) h)
  | inr other ↦ later (p a) (filter-range p n (a + 1) len (omega arith) (omega arith) h)
]
  where
    here : (b : Bool) → (a == n) ≡ true → b ≡ true
        → is_among n (if b then a ∷ filter p (range_with_len (a + 1) len) else filter p (range_with_len (a + 1) len))
        ≡ true
    here true same e = or_left (a == n) (is_among n (filter p (range_with_len (a + 1) len))) same
    here false same e = cc

    later : (b : Bool) → is_among n (filter p (range_with_len (a + 1) len)) ≡ true
        → is_among n (if b then a ∷ filter p (range_with_len (a + 1) len) else filter p (range_with_len (a + 1) len))
        ≡ true
    later true e = or_right (a == n) (is_among n (filter p (range_with_len (a + 1) len))) e
    later false e = e

-- a holder of a key that the script names is a part
pub named-part : (d : DocumentData) (s : ScriptData) (n : NodeId) (k : Key) → IsOne d
    → IsTrue (holds d.cluster.places n k) → is_key_among k (keys_named s.ops) ≡ true → is_among n (parts_of d s) ≡ true
named-part d s n k one holds' named =
    let least : 1 ≤ n = holder-least d n k one holds' in
    let low : n ≤ d.cluster.nodes = holder-most d n k one holds' in
    let most : d.cluster.nodes ≤ 16 = one.document.cluster.most in
    filter-range (λ m. list_any (holds d.cluster.places m) (keys_of s.ops)) n 1 16 least (omega arith)
    (any-among (holds d.cluster.places n) k (keys_of s.ops) holds' (distinct-among k [] (keys_named s.ops) refl named))

-- the same, for the parts of the transaction
pub named-part-at : (d : DocumentData) (t : TxId) (s : ScriptData) (n : NodeId) (k : Key) → IsOne d
    → script_of t d.scripts ≡ Some s → IsTrue (holds d.cluster.places n k) → is_key_among k (keys_named s.ops) ≡ true
    → is_among n (parts_at d t) ≡ true
named-part-at d t s n k one is holds' named =
    let same : parts_at d t ≡ parts_of d s = ap (parts_in d) is in
    rw same (named-part d s n k one holds' named)

-- ---- operations

named-at : (ops : List Op) (i : ℕ) (o : Op) → slice_get ops i ≡ Some o → is_key_among (key_of o) (keys_named ops) ≡ true
named-at [] i o e = cc
named-at (x ∷ ops) zero o e = (let is : x ≡ o = cc in let P : Op → Type 0 = λ y. is_key_among (key_of y) (key_of x ∷ keys_named ops) ≡ true in subst P is (or_left (same_key (key_of x) (key_of x)) (is_key_among (key_of x) (keys_named ops)) (same_key-self (key_of x))))
named-at (x ∷ ops) (suc i) o e = or_right (same_key (key_of o) (key_of x)) (is_key_among (key_of o) (keys_named ops)) (named-at ops i o e)

-- a holder of the key of an operation is a part
pub op-part : (d : DocumentData) (s : ScriptData) (j : ℕ) (o : Op) (y : NodeId) → IsOne d → op_at s.ops j ≡ Some o
    → holds d.cluster.places y (key_of o) ≡ true → is_among y (parts_of d s) ≡ true
op-part d s zero o y one at h = cc
op-part d s (suc i) o y one at h = named-part d s y (key_of o) one h (named-at s.ops i o at)
