-- The room that contracts see, made for what a record writes, and the chains that begin in it.
use Rattle.std.proofs.Common.{◌≡◌, ◌⊎◌, ◌≤◌, ◌+◌, ◌||◌, ℕ, inl, inr, Bool, true, false, cond, List, [], ◌∷◌, Option, Some, None, is_some, length, refl, sym, ap, subst, ◌∙◌, arith, if◌then◌else◌}
use Rattle.std.proofs.lemmas.Bool.{cases_Bool, and_parts, and_from}
use Rattle.std.proofs.lemmas.Bool.Decides.{nat_tests}
use Rattle.std.specs.Prelude.{map, OnOk}
use Rattle.std.specs.declared.result.Result.{Result}
use Rattle.std.specs.declared.result.Result.TheVariants.{Ok, Err}
use Rattle.std.specs.Ordering.{nat_cmp, eq_by_cmp}
use Rattle.std.specs.Cmp.Lexicographic.{slice_cmp, texts_ties}
use Rattle.score_base.specs.declared.ids.Value.{Value}
use Rattle.score_base.specs.declared.keys.Key.{Key}
use Rattle.score_base.specs.declared.records.Record.{Record}
use Rattle.score_base.specs.declared.records.Record.TheVariants as record'
use Rattle.score_base.specs.Keys.{same_key}
use Rattle.script_lang.specs.Reads.{is_key_among}
use Rattle.script_lang.proofs.KeyLists.{same_key-is, same_key-self}
use Rattle.version_chain.specs.Versions.{Versions}
use Rattle.version_chain.specs.Kept.{Kept, place_of, chain_at, chain_of, versions_in, versions_of, spare_in, spare_of, initial_in, StartsBy}
use Rattle.journal_words.specs.Journals.{written_value, keys_of_writes}
use Rattle.journal_words.proofs.KeyLists.{written-among}
use Rattle.grid_store.specs.Given.{room_for, is_roomy, has_room_for, new_keys, writes_of}
use Rattle.grid_store.specs.Chained.{HasPlaceRoom, HasWriteRoom, IsWider, versions_room}

-- ---- the room that contracts see

-- the room of a chain, where there is one
abbrev room_in : Option Versions → Option ℕ
room_in None = None
room_in (Some c) = Some c.spare

spare-at : (chains : List Versions) (k : Key) (places : List (Key × ℕ))
    → room_for k (map (λ x. (x.0, spare_in (chain_at chains (Some x.1)))) places) ≡ room_in (chain_at chains (place_of k places))
spare-at chains k [] = refl
spare-at chains k (x ∷ xs) = go (same_key k x.0) (eq_by_cmp (slice_cmp nat_cmp) k x.0) (texts_ties k x.0) (spare-at chains k xs)
  where
    go : (a b : Bool) → a ≡ b
        → room_for k (map (λ y. (y.0, spare_in (chain_at chains (Some y.1)))) xs) ≡ room_in (chain_at chains (place_of k xs))
        → (if a then Some (spare_in (chain_at chains (Some x.1))) else room_for k (map (λ y. (y.0, spare_in (chain_at chains (Some y.1)))) xs))
        ≡ room_in (chain_at chains (cond b (Some x.1) (place_of k xs)))
    go true true e more = refl
    go false false e more = more
    go true false e more = cc
    go false true e more = cc

room-is : (kept : Kept) (k : Key) → room_for k (versions_room kept) ≡ room_in (chain_of k kept)
room-is kept k = spare-at kept.chains k kept.places

-- contracts see room for a key that has a chain exactly where it has a place
room-place : (kept : Kept) (k : Key) → is_some (room_for k (versions_room kept)) ≡ is_some (place_of k kept.places)
room-place kept k = ap is_some (room-is kept k) ∙ go (place_of k kept.places)
  where
    go : (o : Option ℕ) → is_some (room_in (chain_at kept.chains o)) ≡ is_some o
    go None = refl
    go (Some i) = refl

roomy-has : (kept : Kept) (k : Key) → is_roomy (room_for k (versions_room kept)) ≡ true → HasPlaceRoom k kept
roomy-has kept k h = go (place_of k kept.places) (sym (ap is_roomy (room-is kept k)) ∙ h)
  where
    go : (o : Option ℕ) → is_roomy (room_in (chain_at kept.chains o)) ≡ true → is_some o ≡ true
        → 1 ≤ spare_in (chain_at kept.chains o)
    go None h some = cc
    go (Some i) h some = grind (arith, nat_tests, h)

has-roomy : (kept : Kept) (k : Key) → HasPlaceRoom k kept → is_roomy (room_for k (versions_room kept)) ≡ true
has-roomy kept k has = ap is_roomy (room-is kept k) ∙ go (place_of k kept.places) has
  where
    go : (o : Option ℕ) → (is_some o ≡ true → 1 ≤ spare_in (chain_at kept.chains o))
        → is_roomy (room_in (chain_at kept.chains o)) ≡ true
    go None has = refl
    go (Some i) has = (let one = has refl in grind (arith, nat_tests, one))

some-written : (k : Key) (x : Key × Value) (xs : List (Key × Value)) (v : Value) → written_value k xs ≡ Some v
    → (w : Value) × (written_value k (x ∷ xs) ≡ Some w)
some-written k x xs v e = go (same_key x.0 k)
  where
    go : (b : Bool) → (w : Value) × ((if b then Some x.1 else written_value k xs) ≡ Some w)
    go true = (x.1, refl)
    go false = (v, e)

-- each key that is written has room, where it has a chain
pub room-writes : (writes : List (Key × Value)) (kept : Kept) → has_room_for writes (versions_room kept) ≡ true
    → (k : Key) (v : Value) → written_value k writes ≡ Some v → HasPlaceRoom k kept
room-writes [] kept h k v w = absurd (grind (arith, w))
room-writes (x ∷ xs) kept h k v w =
    let a = and_parts (is_roomy (room_for x.0 (versions_room kept))) (has_room_for xs (versions_room kept)) h in
    elim (cases_Bool (same_key x.0 k)) [
      | inl same ↦ subst (λ (l : Key). HasPlaceRoom l kept) (same_key-is x.0 k same) (roomy-has kept x.0 a.0)
      | inr other ↦ room-writes xs kept a.1 k v (rw other at w)
    ]

pub writes-room : (writes : List (Key × Value)) (kept : Kept)
    → ((k : Key) (v : Value) → written_value k writes ≡ Some v → HasPlaceRoom k kept)
    → has_room_for writes (versions_room kept) ≡ true
writes-room [] kept each = refl
writes-room (x ∷ xs) kept each =
    let self : same_key x.0 x.0 ≡ true = same_key-self x.0 in
    and_from (is_roomy (room_for x.0 (versions_room kept))) (has_room_for xs (versions_room kept))
    (has-roomy kept x.0 (each x.0 x.1 (rw self refl)))
    (writes-room xs kept (λ k v e. (let w = some-written k x xs v e in each k w.0 w.1)))

-- ---- how many keys have no chain

-- no more than are written
pub new-few : (writes : List (Key × Value)) (versions : List (Key × ℕ)) → new_keys writes versions ≤ length writes
new-few [] versions = omega arith
new-few (w ∷ ws) versions = go (is_some (room_for w.0 versions)) (new-few ws versions)
  where
    go : (b : Bool) → new_keys ws versions ≤ length ws
        → (if b then new_keys ws versions else 1 + new_keys ws versions) ≤ length (w ∷ ws)
    go true h = omega (arith, h)
    go false h = omega (arith, h)

-- no more where more keys have a chain
new-fewer : (writes : List (Key × Value)) (old new : List (Key × ℕ))
    → ((k : Key) → is_some (room_for k old) ≡ true → is_some (room_for k new) ≡ true)
    → new_keys writes new ≤ new_keys writes old
new-fewer [] old new more = omega arith
new-fewer (w ∷ ws) old new more = go (is_some (room_for w.0 old)) (is_some (room_for w.0 new)) (more w.0) (new-fewer ws old new more)
  where
    go : (a b : Bool) → (a ≡ true → b ≡ true) → new_keys ws new ≤ new_keys ws old
        → (if b then new_keys ws new else 1 + new_keys ws new) ≤ (if a then new_keys ws old else 1 + new_keys ws old)
    go true true m h = h
    go true false m h = (let bad : false ≡ true = m refl in cc)
    go false true m h = omega (arith, h)
    go false false m h = omega (arith, h)

-- ---- room made for one

pub wider-same : (kept : Kept) → IsWider kept kept
wider-same kept = record { versions = λ k. refl; room = λ k. omega arith }

pub wider-more : (old mid new : Kept) → IsWider old mid → ((k : Key) → versions_of k new ≡ versions_of k mid)
    → ((k : Key) → spare_of k mid ≤ spare_of k new) → IsWider old new
wider-more old mid new w same more = record {
  versions = λ k. same k ∙ w.versions k;
  room = λ k. (let a = w.room k in let b = more k in omega (arith, a, b));
}

-- each key has the chain that it had
pub wider-alike : (old mid new : Kept) → IsWider old mid → ((k : Key) → chain_of k new ≡ chain_of k mid)
    → IsWider old new
wider-alike old mid new w alike =
    wider-more old mid new w (λ k. ap versions_in (alike k))
    (λ k. (let same : spare_of k new ≡ spare_of k mid = ap spare_in (alike k) in omega (arith, same)))

pub starts-alike : (init : Key → Value) (old new : Kept) → ((k : Key) → chain_of k new ≡ chain_of k old)
    → StartsBy init old → StartsBy init new
starts-alike init old new alike starts = λ k. ap (initial_in (init k)) (alike k) ∙ starts k

pub place-room-alike : (k : Key) (old new : Kept) → new.places ≡ old.places → spare_of k old ≤ spare_of k new
    → HasPlaceRoom k old → HasPlaceRoom k new
place-room-alike k old new places more has some = (let one = has (sym (ap (λ ps. is_some (place_of k ps)) places) ∙ some) in omega (arith, one, more))

-- each of all that has a chain has room, or is among the rest
abbrev pub IsMade : List (Key × Value) → List (Key × Value) → Kept → Type 0
IsMade all rest kept = (k : Key) (v : Value) → written_value k all ≡ Some v → HasPlaceRoom k kept ⊎ ((w : Value) × (written_value k rest ≡ Some w))

pub made-more : (all xs : List (Key × Value)) (x : Key × Value) (old new : Kept) → IsMade all (x ∷ xs) old
    → HasPlaceRoom x.0 new → new.places ≡ old.places → ((k : Key) → spare_of k old ≤ spare_of k new) → IsMade all xs new
made-more all xs x old new made here places more k v w = elim (made k v w) [
  | inl room ↦ inl (place-room-alike k old new places (more k) room)
  | inr later ↦ go (same_key x.0 k) refl later.1
]
  where
    go : (b : Bool) → same_key x.0 k ≡ b → {y : Value} → (if b then Some x.1 else written_value k xs) ≡ Some y
        → HasPlaceRoom k new ⊎ ((w : Value) × (written_value k xs ≡ Some w))
    go true e h = inl (subst (λ (l : Key). HasPlaceRoom l new) (same_key-is x.0 k e) here)
    go false e {y} h = inr (y, h)

pub made-all : (all : List (Key × Value)) (kept : Kept) → IsMade all [] kept → (k : Key) (v : Value)
    → written_value k all ≡ Some v → HasPlaceRoom k kept
made-all all kept made k v w = elim (made k v w) [
  | inl room ↦ room
  | inr later ↦ absurd (let e = later.1 in grind (arith, e))
]

-- what holds where there is a value
pub on-ok : {T E P Q : Type 0} (r : Result T E) → (P → Q) → OnOk r P → OnOk r Q
on-ok (Ok x) f h = f h
on-ok (Err e) f h = tt

-- ---- the chains that begin

-- what one that begins leaves
pub record IsOneBegun (key : Key) (old new : Kept) : Type 0 where
  pub room : place_of key old.places ≡ None → 1 ≤ spare_of key new
  pub kept : (k : Key) → spare_of k old ≤ spare_of k new
  pub versions : (k : Key) → versions_of k new ≡ versions_of k old
  pub keys : (k : Key) → is_some (place_of k new.places) ≡ (same_key k key || is_some (place_of k old.places))
  pub fresh : is_some (place_of key old.places) ≡ true → new.fresh ≡ old.fresh
  pub used : old.fresh ≤ new.fresh + 1

-- all but the rest of these keys have a chain with room, and there is room for the chains of the rest
pub record IsBegun (all rest : List (Key × Value)) (start now : Kept) : Type 0 where
  pub fresh : new_keys rest (versions_room now) ≤ now.fresh
  pub room : (k : Key) (v : Value) → written_value k all ≡ Some v → HasPlaceRoom k now
  pub wider : IsWider start now
  pub keys : (k : Key) → (is_key_among k (keys_of_writes rest) || is_some (place_of k now.places))
      ≡ (is_key_among k (keys_of_writes all) || is_some (place_of k start.places))

pub begun-none : (writes : List (Key × Value)) (kept : Kept) → new_keys writes (versions_room kept) ≤ kept.fresh
    → has_room_for writes (versions_room kept) ≡ true → IsBegun writes writes kept kept
begun-none writes kept fresh room = record {
  fresh = fresh;
  room = room-writes writes kept room;
  wider = wider-same kept;
  keys = λ k. refl;
}

-- where a key has no place, there is room for one chain
pub begun-can : (all xs : List (Key × Value)) (x : Key × Value) (start now : Kept) → IsBegun all (x ∷ xs) start now
    → place_of x.0 now.places ≡ None → 1 ≤ now.fresh
begun-can all xs x start now b none =
    let out : is_some (room_for x.0 (versions_room now)) ≡ false = room-place now x.0 ∙ ap is_some none in
    let fresh : (if is_some (room_for x.0 (versions_room now)) then new_keys xs (versions_room now) else 1 + new_keys xs (versions_room now)) ≤ now.fresh = b.fresh in
    let fresh' = rw out at fresh in
    omega (arith, fresh')

pub begun-more : (all xs : List (Key × Value)) (x : Key × Value) (start old new : Kept) → IsBegun all (x ∷ xs) start old
    → IsOneBegun x.0 old new → IsBegun all xs start new
begun-more all xs x start old new b one = record {
  fresh = fresh (place_of x.0 old.places) refl;
  room = λ k v w. room k (b.room k v w) (place_of k old.places) refl;
  wider = wider-more start old new b.wider one.versions one.kept;
  keys = λ k. keys k;
}
  where
    more : (k : Key) → is_some (room_for k (versions_room old)) ≡ true → is_some (room_for k (versions_room new)) ≡ true
    more k h =
        let before : is_some (place_of k old.places) ≡ true = sym (room-place old k) ∙ h in
        room-place new k ∙ one.keys k ∙ rw before (or-true (same_key k x.0))
      where
        or-true : (a : Bool) → (a || true) ≡ true
        or-true true = refl
        or-true false = refl

    less : new_keys xs (versions_room new) ≤ new_keys xs (versions_room old)
    less = new-fewer xs (versions_room old) (versions_room new) more

    fresh : (o : Option ℕ) → place_of x.0 old.places ≡ o → new_keys xs (versions_room new) ≤ new.fresh
    fresh None e =
        let out : is_some (room_for x.0 (versions_room old)) ≡ false = room-place old x.0 ∙ ap is_some e in
        let before : (if is_some (room_for x.0 (versions_room old)) then new_keys xs (versions_room old) else 1 + new_keys xs (versions_room old)) ≤ old.fresh = b.fresh in
        let before' = rw out at before in
        let used = one.used in
        omega (arith, less, before', used)
    fresh (Some i) e =
        let there : is_some (place_of x.0 old.places) ≡ true = ap is_some e in
        let here : is_some (room_for x.0 (versions_room old)) ≡ true = room-place old x.0 ∙ there in
        let before : (if is_some (room_for x.0 (versions_room old)) then new_keys xs (versions_room old) else 1 + new_keys xs (versions_room old)) ≤ old.fresh = b.fresh in
        let before' = rw here at before in
        let same = one.fresh there in
        omega (arith, less, before', same)

    room : (k : Key) → HasPlaceRoom k old → (o : Option ℕ) → place_of k old.places ≡ o → HasPlaceRoom k new
    room k has (Some i) e some = (let before = has (ap is_some e) in let kept = one.kept k in omega (arith, before, kept))
    room k has None e some =
        let now : (same_key k x.0 || is_some (place_of k old.places)) ≡ true = sym (one.keys k) ∙ some in
        let out : is_some (place_of k old.places) ≡ false = ap is_some e in
        let same : same_key k x.0 ≡ true = (let n = rw out at now in or-false (same_key k x.0) n) in
        let is : x.0 ≡ k = sym (same_key-is k x.0 same) in
        subst (λ (l : Key). 1 ≤ spare_of l new) is (one.room (subst (λ (l : Key). place_of l old.places ≡ None) (sym is) e))
      where
        or-false : (a : Bool) → (a || false) ≡ true → a ≡ true
        or-false true h = refl
        or-false false h = h

    keys : (k : Key)
        → (is_key_among k (keys_of_writes xs) || is_some (place_of k new.places)) ≡ (is_key_among k (keys_of_writes all) || is_some (place_of k start.places))
    keys k = ap (λ p. is_key_among k (keys_of_writes xs) || p) (one.keys k)
        ∙ turned (is_key_among k (keys_of_writes xs)) (same_key k x.0) (is_some (place_of k old.places)) ∙ b.keys k
      where
        turned : (a b c : Bool) → (a || (b || c)) ≡ ((b || a) || c)
        turned true true c = refl
        turned true false c = refl
        turned false true c = refl
        turned false false c = refl

-- each key that is written has room in the end
pub begun-room : (all : List (Key × Value)) (start now : Kept) → IsBegun all [] start now
    → (k : Key) (v : Value) → written_value k all ≡ Some v → 1 ≤ spare_of k now
begun-room all start now b k v w =
    let among : is_key_among k (keys_of_writes all) ≡ true = written-among k all ∙ ap is_some w in
    b.room k v w (b.keys k ∙ rw among refl)

-- and where this is known of the writes of a record, there is room for it
pub has-write-room : (x : Record) (kept : Kept)
    → ((k : Key) (v : Value) → written_value k (writes_of x) ≡ Some v → 1 ≤ spare_of k kept)
    → HasWriteRoom x kept
has-write-room (record'.Prepared t home parts sid p reads writes) kept h = h
has-write-room (record'.Ended t o) kept h = tt
has-write-room (record'.Ceiling d) kept h = tt
has-write-room (record'.Decided t f parts) kept h = tt
has-write-room (record'.Closed t) kept h = tt
