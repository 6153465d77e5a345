-- What the lock table answers is the holder.
use Rattle.std.proofs.Common.{◌≤◌, ◌≡◌, ◌≢◌, inl, inr, Bool, true, false, ◌&&◌, ◌||◌, not, List, [], ◌∷◌, Option, Some, None, IsTrue, refl, sym, ap, subst, ◌∙◌, arith, if◌then◌else◌}
use Rattle.std.proofs.lemmas.Bool.{cases_eq, and_parts, or_cases, or_left, or_right}
use Rattle.std.proofs.lemmas.Bool.Decides.{nat_tests}
use Rattle.std.specs.Prelude.{◌==◌, nat_lt, IsNone, IfSome, ◌↔◌}
use Rattle.score_base.specs.declared.ids.TxId.{TxId}
use Rattle.score_base.specs.declared.ids.Value.{Value}
use Rattle.score_base.specs.declared.keys.Key.{Key}
use Rattle.score_base.specs.declared.records.Record.{Record}
use Rattle.script_lang.specs.Reads.{is_key_among}
use Rattle.lock_table.specs.Keys.{Held, holds_lock, writes_key, is_read, is_written, Conflicts, IsHolder}
use Rattle.journal_words.specs.Journals.{Prepared, prepared_of, prepared_all, is_locking, keys_of_writes, shares, conflict, conflicts_with, holds_out, lesser, holder_among, holder}
use Rattle.script_lang.proofs.KeyLists.{same_key-turned}
use Rattle.journal_words.proofs.KeyLists.{shares-key, conflict-turned, conflict-read, conflict-write}
use Rattle.journal_words.proofs.Locks.{is_listed, prepared-listed}
use Rattle.grid_store.specs.Keeping.{names, writes_to, KeepsLocks}

-- ---- the words of the table and of the model for a key of a list

read-is : (xs : List Key) (k : Key) → is_read xs k ≡ is_key_among k xs
read-is [] k = refl
read-is (x ∷ xs) k = rw (read-is xs k, same_key-turned x k) refl

written-is : (ws : List (Key × Value)) (k : Key) → is_written ws k ≡ is_key_among k (keys_of_writes ws)
written-is [] k = refl
written-is (w ∷ ws) k = rw (written-is ws k, same_key-turned w.0 k) refl

-- ---- who conflicts

-- a Prepared and the lists share this key, and one of the two writes it
record Shares (x : Prepared) (reads : List Key) (writes : List (Key × Value)) (k : Key) : Type 0 where
  pub named : (is_read x.reads k || is_written x.writes k) ≡ true
  pub asked : (is_read reads k || is_written writes k) ≡ true
  pub written : (is_written x.writes k || is_written writes k) ≡ true

shares-conflict : (x : Prepared) (reads : List Key) (writes : List (Key × Value)) (k : Key) → Shares x reads writes k → conflict x.reads x.writes reads writes ≡ true
shares-conflict x reads writes k s = elim (or_cases (is_written x.writes k) (is_written writes k) s.written) [
  | inl mine ↦
      let w = sym (written-is x.writes k) ∙ mine in
      elim (or_cases (is_read reads k) (is_written writes k) s.asked) [
        | inl r ↦ conflict-read k x.reads reads x.writes writes w (sym (read-is reads k) ∙ r)
        | inr w' ↦ conflict-write k x.reads reads x.writes writes w (sym (written-is writes k) ∙ w')
      ]
  | inr theirs ↦
      let w = sym (written-is writes k) ∙ theirs in
      elim (or_cases (is_read x.reads k) (is_written x.writes k) s.named) [
        | inl r ↦ conflict-turned x.reads reads x.writes writes ∙ conflict-read k reads x.reads writes x.writes w (sym (read-is x.reads k) ∙ r)
        | inr w' ↦ conflict-write k x.reads reads x.writes writes (sym (written-is x.writes k) ∙ w') w
      ]
]

conflict-shares : (x : Prepared) (reads : List Key) (writes : List (Key × Value)) → conflict x.reads x.writes reads writes ≡ true → (k : Key) × Shares x reads writes k
conflict-shares x reads writes h = elim (or_cases (shares (keys_of_writes x.writes) reads) (shares (keys_of_writes x.writes) (keys_of_writes writes) || shares x.reads (keys_of_writes writes)) h) [
  | inl a ↦
      let k = shares-key (keys_of_writes x.writes) reads a in
      let w = written-is x.writes k.0 ∙ k.1.first in
      let r = read-is reads k.0 ∙ k.1.second in
      (k.0, record { named = or_right (is_read x.reads k.0) (is_written x.writes k.0) w; asked = or_left (is_read reads k.0) (is_written writes k.0) r; written = or_left (is_written x.writes k.0) (is_written writes k.0) w })
  | inr b ↦ elim (or_cases (shares (keys_of_writes x.writes) (keys_of_writes writes)) (shares x.reads (keys_of_writes writes)) b) [
    | inl c ↦
        let k = shares-key (keys_of_writes x.writes) (keys_of_writes writes) c in
        let w = written-is x.writes k.0 ∙ k.1.first in
        let w' = written-is writes k.0 ∙ k.1.second in
        (k.0, record { named = or_right (is_read x.reads k.0) (is_written x.writes k.0) w; asked = or_right (is_read reads k.0) (is_written writes k.0) w'; written = or_left (is_written x.writes k.0) (is_written writes k.0) w })
    | inr d ↦
        let k = shares-key x.reads (keys_of_writes writes) d in
        let r = read-is x.reads k.0 ∙ k.1.first in
        let w' = written-is writes k.0 ∙ k.1.second in
        (k.0, record { named = or_left (is_read x.reads k.0) (is_written x.writes k.0) r; asked = or_right (is_read reads k.0) (is_written writes k.0) w'; written = or_right (is_written x.writes k.0) (is_written writes k.0) w' })
  ]
]

-- who conflicts in the table, but for t, holds a key against t
pub conflicts-hold : (held : Held) (r : List Record) (t u : TxId) (reads : List Key) (writes : List (Key × Value)) → KeepsLocks held r → u ≢ t → Conflicts held reads writes u → holds_out u r t reads writes ≡ true
conflicts-hold held r t u reads writes keeps ne c =
    let h : (is_locking u r && names (prepared_of u r) c.key) ≡ true = sym (keeps.keys u c.key) ∙ true-is _ c.held_by in
    let a = and_parts (is_locking u r) (names (prepared_of u r) c.key) h in
    let w : ((is_locking u r && writes_to (prepared_of u r) c.key) || is_written writes c.key) ≡ true = ap (λ b. b || is_written writes c.key) (sym (keeps.written u c.key)) ∙ true-is _ c.written in
    let other : u == t ≡ false = grind (arith, nat_tests, ne) in
    rw (other, a.0) (go (prepared_of u r) a.1 (rw a.0 at w))
  where
    true-is : (b : Bool) → IsTrue b → b ≡ true
    true-is b h = h

    go : (o : Option Prepared) → names o c.key ≡ true → (writes_to o c.key || is_written writes c.key) ≡ true → conflicts_with o reads writes ≡ true
    go None h w = absurd (grind (arith, h))
    go (Some x) h w = shares-conflict x reads writes c.key (record { named = h; asked = c.named; written = w })

-- and the other way
pub hold-conflicts : (held : Held) (r : List Record) (t u : TxId) (reads : List Key) (writes : List (Key × Value)) → KeepsLocks held r → holds_out u r t reads writes ≡ true → (u ≢ t) × Conflicts held reads writes u
hold-conflicts held r t u reads writes keeps h =
    let a = and_parts (not (u == t)) (is_locking u r && conflicts_with (prepared_of u r) reads writes) h in
    let b = and_parts (is_locking u r) (conflicts_with (prepared_of u r) reads writes) a.1 in
    (grind (arith, nat_tests, a.0), go (prepared_of u r) refl b.0 b.1)
  where
    go : (o : Option Prepared) → prepared_of u r ≡ o → is_locking u r ≡ true → conflicts_with o reads writes ≡ true → Conflicts held reads writes u
    go None e l h = absurd (grind (arith, h))
    go (Some x) e l h =
        let k = conflict-shares x reads writes h in
        let keys : holds_lock held u k.0 ≡ (is_read x.reads k.0 || is_written x.writes k.0) = rw (l, e) at (keeps.keys u k.0) in
        let wrote : writes_key held u k.0 ≡ is_written x.writes k.0 = rw (l, e) at (keeps.written u k.0) in
        record { key = k.0; held_by = keys ∙ k.1.named; named = k.1.asked; written = ap (λ b. b || is_written writes k.0) wrote ∙ k.1.written }

-- ---- the least of them

nobody : (us : List TxId) (r : List Record) (t : TxId) (reads : List Key) (writes : List (Key × Value)) → ((u : TxId) → holds_out u r t reads writes ≡ false) → holder_among us r t reads writes ≡ None
nobody [] r t reads writes h = refl
nobody (u ∷ us) r t reads writes h = rw (h u) (nobody us r t reads writes h)

-- m is at most who is found
abbrev IsBound : TxId → Option TxId → Type 0
IsBound m None = Unit {0}
IsBound m (Some w) = m ≤ w

lesser-bound : (m u : TxId) (o : Option TxId) → m ≤ u → IsBound m o → IsBound m (lesser u o)
lesser-bound m u None le h = le
lesser-bound m u (Some w) le h = go (nat_lt u w)
  where
    go : (b : Bool) → IsBound m (if b then Some u else Some w)
    go true = le
    go false = h

found-bound : (us : List TxId) (r : List Record) (t m : TxId) (reads : List Key) (writes : List (Key × Value)) → ((v : TxId) → holds_out v r t reads writes ≡ true → m ≤ v) → IsBound m (holder_among us r t reads writes)
found-bound [] r t m reads writes h = tt
found-bound (u ∷ us) r t m reads writes h = go (holds_out u r t reads writes) refl (found-bound us r t m reads writes h)
  where
    go : (b : Bool) → holds_out u r t reads writes ≡ b → IsBound m (holder_among us r t reads writes) → IsBound m (if b then lesser u (holder_among us r t reads writes) else holder_among us r t reads writes)
    go true e more = lesser-bound m u (holder_among us r t reads writes) (h u e) more
    go false e more = more

lesser-here : (m : TxId) (o : Option TxId) → IsBound m o → lesser m o ≡ Some m
lesser-here m None h = refl
lesser-here m (Some w) h = go (nat_lt m w) refl
  where
    go : (b : Bool) → nat_lt m w ≡ b → (if b then Some m else Some w) ≡ Some m
    go true e = refl
    go false e = (let is : w ≡ m = grind (arith, nat_tests, e, h) in ap Some is)

lesser-later : (m u : TxId) → m ≤ u → lesser u (Some m) ≡ Some m
lesser-later m u le = go (nat_lt u m) refl
  where
    go : (b : Bool) → nat_lt u m ≡ b → (if b then Some u else Some m) ≡ Some m
    go true e = absurd (grind (arith, nat_tests, e, le))
    go false e = refl

found : (us : List TxId) (r : List Record) (t m : TxId) (reads : List Key) (writes : List (Key × Value)) → holds_out m r t reads writes ≡ true → ((v : TxId) → holds_out v r t reads writes ≡ true → m ≤ v) → is_listed m us ≡ true → holder_among us r t reads writes ≡ Some m
found [] r t m reads writes is least l = absurd (grind (arith, l))
found (u ∷ us) r t m reads writes is least l = elim (cases_eq u m) [
  | inl same ↦
      let P : TxId → Type 0 = λ v. (if holds_out v r t reads writes then lesser v (holder_among us r t reads writes) else holder_among us r t reads writes) ≡ Some m in
      subst P (sym same) (rw is (lesser-here m (holder_among us r t reads writes) (found-bound us r t m reads writes least)))
  | inr other ↦
      let more = found us r t m reads writes is least (grind (arith, nat_tests, other, l)) in
      go (holds_out u r t reads writes) refl more
]
  where
    go : (b : Bool) → holds_out u r t reads writes ≡ b → holder_among us r t reads writes ≡ Some m → (if b then lesser u (holder_among us r t reads writes) else holder_among us r t reads writes) ≡ Some m
    go true e more = rw more (lesser-later m u (least u e))
    go false e more = more

-- what the table answers is the holder
pub answers-holder : (held : Held) (r : List Record) (t : TxId) (reads : List Key) (writes : List (Key × Value)) (o : Option TxId) → KeepsLocks held r → IsNone o ↔ ((u : TxId) → u ≢ t → ¬ Conflicts held reads writes u) → IfSome o (IsHolder held reads writes t) → o ≡ holder r t reads writes
answers-holder held r t reads writes None keeps none some = sym (nobody (prepared_all r) r t reads writes (λ u. go u (holds_out u r t reads writes) refl))
  where
    go : (u : TxId) (b : Bool) → holds_out u r t reads writes ≡ b → b ≡ false
    go u false e = refl
    go u true e = absurd (let x = hold-conflicts held r t u reads writes keeps e in none.0 refl u x.0 x.1)
answers-holder held r t reads writes (Some m) keeps none some =
    let is = conflicts-hold held r t m reads writes keeps some.other some.conflicts in
    let a = and_parts (not (m == t)) (is_locking m r && conflicts_with (prepared_of m r) reads writes) is in
    let b = and_parts (is_locking m r) (conflicts_with (prepared_of m r) reads writes) a.1 in
    sym (found (prepared_all r) r t m reads writes is (λ v h. (let x = hold-conflicts held r t v reads writes keeps h in some.least v x.0 x.1)) (listed (prepared_of m r) refl b.1))
  where
    listed : (o : Option Prepared) → prepared_of m r ≡ o → conflicts_with o reads writes ≡ true → is_listed m (prepared_all r) ≡ true
    listed None e h = absurd (grind (arith, h))
    listed (Some x) e h = prepared-listed m r (rw e refl)
