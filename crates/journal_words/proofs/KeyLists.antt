-- Which keys do two lists share, and when do two transactions conflict in one?
use Rattle.std.proofs.Common.{◌≡◌, inl, inr, Bool, true, false, ◌||◌, List, [], ◌∷◌, Some, is_some, if◌then◌else◌, refl, sym, ◌∙◌, arith}
use Rattle.std.proofs.lemmas.Bool.{cases_Bool, or_left, or_right}
use Rattle.score_base.specs.declared.ids.Value.{Value}
use Rattle.score_base.specs.declared.keys.Key.{Key}
use Rattle.score_base.specs.Keys.{same_key}
use Rattle.script_lang.specs.Reads.{is_key_among}
use Rattle.script_lang.proofs.KeyLists.{same_key-is, same_key-turned, among-here, among-later}
use Rattle.journal_words.specs.Journals.{written_value, keys_of_writes, shares, conflict}

-- ---- one list

-- a key that a list writes has a value there
pub written-among : (k : Key) (ws : List (Key × Value))
    → is_key_among k (keys_of_writes ws) ≡ is_some (written_value k ws)
written-among k [] = refl
written-among k (w ∷ ws) = go (same_key k w.0) (same_key w.0 k) (same_key-turned k w.0) (written-among k ws)
  where
    go : (a b : Bool) → a ≡ b → is_key_among k (keys_of_writes ws) ≡ is_some (written_value k ws)
        → (a || is_key_among k (keys_of_writes ws)) ≡ is_some (if b then Some w.1 else written_value k ws)
    go true b e h = rw (← e) refl
    go false b e h = rw (← e) h

-- ---- two lists

-- a key of both
pub record IsShared (k : Key) (xs ys : List Key) : Type 0 where
  pub first : is_key_among k xs ≡ true
  pub second : is_key_among k ys ≡ true

pub shares-both : (k : Key) (xs ys : List Key) → IsShared k xs ys → shares xs ys ≡ true
shares-both k [] ys h = let e = h.first in cc
shares-both k (x ∷ xs) ys h = elim (cases_Bool (same_key k x)) [
  | inl same ↦
      let is : k ≡ x = same_key-is k x same in
      let there : is_key_among x ys ≡ true = rw is at h.second in
      rw there refl
  | inr other ↦
      let first = h.first in
      let rest : shares xs ys ≡ true = shares-both k xs ys (record { first = grind (arith, first, other); second = h.second }) in
      grind (arith, rest)
]

pub shares-key : (xs ys : List Key) → shares xs ys ≡ true → (k : Key) × IsShared k xs ys
shares-key [] ys h = absurd (grind (arith, h))
shares-key (x ∷ xs) ys h = elim (cases_Bool (is_key_among x ys)) [
  | inl here ↦ (x, record { first = among-here x xs; second = here })
  | inr other ↦
      let more = shares-key xs ys (grind (arith, h, other)) in
      (more.0, record { first = among-later more.0 x xs more.1.first; second = more.1.second })
]

pub shares-turned : (xs ys : List Key) → shares xs ys ≡ shares ys xs
shares-turned xs ys = go (shares xs ys) (shares ys xs) refl refl
  where
    turn : (us vs : List Key) → shares us vs ≡ true → shares vs us ≡ true
    turn us vs h =
        let k = shares-key us vs h in
        shares-both k.0 vs us (record { first = k.1.second; second = k.1.first })

    go : (a b : Bool) → shares xs ys ≡ a → shares ys xs ≡ b → a ≡ b
    go true true e f = refl
    go false false e f = refl
    go true false e f = sym (turn xs ys e) ∙ f
    go false true e f = absurd (let k = turn ys xs f in grind (arith, k, e))

-- ---- conflicts

pub conflict-turned : (reads reads' : List Key) (writes writes' : List (Key × Value))
    → conflict reads writes reads' writes' ≡ conflict reads' writes' reads writes
conflict-turned reads reads' writes writes' =
    rw (shares-turned (keys_of_writes writes) reads', shares-turned (keys_of_writes writes) (keys_of_writes writes'), shares-turned reads (keys_of_writes writes'))
    (turned (shares reads' (keys_of_writes writes)) (shares (keys_of_writes writes') (keys_of_writes writes)) (shares (keys_of_writes writes') reads))
  where
    turned : (a b c : Bool) → (a || (b || c)) ≡ (c || (b || a))
    turned a b c = grind arith

-- a key that the first writes and the second reads
pub conflict-read : (k : Key) (reads reads' : List Key) (writes writes' : List (Key × Value))
    → is_key_among k (keys_of_writes writes) ≡ true → is_key_among k reads' ≡ true
    → conflict reads writes reads' writes' ≡ true
conflict-read k reads reads' writes writes' w r =
    or_left (shares (keys_of_writes writes) reads') (shares (keys_of_writes writes) (keys_of_writes writes') || shares reads (keys_of_writes writes')) (shares-both k (keys_of_writes writes) reads' (record { first = w; second = r }))

-- a key that both write
pub conflict-write : (k : Key) (reads reads' : List Key) (writes writes' : List (Key × Value))
    → is_key_among k (keys_of_writes writes) ≡ true → is_key_among k (keys_of_writes writes') ≡ true
    → conflict reads writes reads' writes' ≡ true
conflict-write k reads reads' writes writes' w w' =
    let h : shares (keys_of_writes writes) (keys_of_writes writes') ≡ true = shares-both k (keys_of_writes writes) (keys_of_writes writes') (record { first = w; second = w' }) in
    or_right (shares (keys_of_writes writes) reads') (shares (keys_of_writes writes) (keys_of_writes writes') || shares reads (keys_of_writes writes')) (or_left (shares (keys_of_writes writes) (keys_of_writes writes')) (shares reads (keys_of_writes writes')) h)
