-- The keys of lists, and when two transactions conflict.
use Rattle.std.specs.Prelude.{◌≢◌, ℕ, ◌≤◌, Bool, ◌||◌, nat_eq, List, IsTrue, refl}
use Rattle.std.specs.declared.cmp.Ordering.{Ordering}
use Rattle.std.specs.Ordering.{nat_cmp, ordering_then}
use Rattle.std.specs.Cmp.Lexicographic.{pointwise, slice_cmp}
use Rattle.std.specs.List.{list_any}
use Rattle.std.specs.FinSet as set
use Rattle.std.specs.Coded.{Coded, code_by, coded×, coded_ℕ, coded_list}

-- whether the lists read a key
abbrev pub is_read : List (List ℕ) → List ℕ → Bool
is_read reads k = list_any (λ x. pointwise nat_eq x k) reads

-- whether the lists write a key
abbrev pub is_written : List (List ℕ × ℕ) → List ℕ → Bool
is_written writes k = list_any (λ w. pointwise nat_eq w.0 k) writes

-- by transaction, then by key
abbrev pub by_transaction : ℕ × List ℕ → ℕ × List ℕ → Ordering
by_transaction a b = ordering_then (nat_cmp a.0 b.0) (slice_cmp nat_cmp a.1 b.1)

-- a set of pairs of a transaction and a key
abbrev pub Pairs : Type 0
Pairs = set.FinSet by_transaction

-- the keys that each transaction holds, those of them that it writes, and the room for more
pub record Held : Type 0 where
  pub keys : Pairs
  pub written : Pairs
  pub spare : ℕ

-- a record is stored as the triple of its fields
abbrev pub held_code : Coded Held
held_code =
    let pairs : Coded Pairs = set.code (coded× coded_ℕ (coded_list coded_ℕ)) in
    code_by (Pairs × (Pairs × ℕ)) (coded× pairs (coded× pairs coded_ℕ))
    (λ h. (h.keys, (h.written, h.spare))) (λ p. record { keys = p.0; written = p.1.0; spare = p.1.1 }) (λ _. refl)

-- whether t holds a key
abbrev pub holds_lock : Held → ℕ → List ℕ → Bool
holds_lock held t k = set.contains held.keys (t, k)

-- whether t holds a key that it writes
abbrev pub writes_key : Held → ℕ → List ℕ → Bool
writes_key held t k = set.contains held.written (t, k)

-- u and the lists share a key that at least one of the two writes
pub record Conflicts (held : Held) (reads : List (List ℕ)) (writes : List (List ℕ × ℕ)) (u : ℕ) : Type 0 where
  pub key : List ℕ
  pub held_by : IsTrue (holds_lock held u key)
  pub named : IsTrue (is_read reads key || is_written writes key)
  pub written : IsTrue (writes_key held u key || is_written writes key)

-- u is the least transaction other than t that conflicts with the lists
pub record IsHolder (held : Held) (reads : List (List ℕ)) (writes : List (List ℕ × ℕ)) (t u : ℕ) : Type 0 where
  pub other : u ≢ t
  pub conflicts : Conflicts held reads writes u
  pub least : (v : ℕ) → v ≢ t → Conflicts held reads writes v → u ≤ v
