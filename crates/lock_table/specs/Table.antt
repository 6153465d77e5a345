-- How the locks lie in a list.
use Rattle.std.specs.Prelude.{◌≡◌, ◌≢◌, ℕ, ◌<◌, ◌≤◌, Bool, IsTrue, false, cond, ◌&&◌, ◌||◌, nat_eq, List, [], ◌∷◌, length, slice_index_or, map, filter, All, Option, None, Some}
use Rattle.std.specs.List.{list_any}
use Rattle.std.specs.Cmp.Lexicographic.{pointwise, slice_cmp}
use Rattle.std.specs.declared.cmp.Ordering.{Ordering}
use Rattle.std.specs.declared.cmp.Ordering.TheVariants.{Less}
use Rattle.std.specs.Ordering.{nat_cmp, ordering_then}

-- a key that a transaction holds, and whether it writes it
pub record Lock : Type 0 where
  pub t : ℕ
  pub key : List ℕ
  pub writes : Bool

-- the lock that a pair of a table is
abbrev pub lock_of : (List ℕ × ℕ) × Bool → Lock
lock_of p = record { t = p.0.1; key = p.0.0; writes = p.1 }

-- the locks of a table
abbrev pub locks_of : List ((List ℕ × ℕ) × Bool) → List Lock
locks_of ps = map lock_of ps

-- the transaction and the key of a lock
abbrev pub place : Lock → ℕ × List ℕ
place l = (l.t, l.key)

-- the places of all locks
abbrev pub places : List Lock → List (ℕ × List ℕ)
places ls = map place ls

-- the places of the locks that write
abbrev pub written_places : List Lock → List (ℕ × List ℕ)
written_places ls = places (filter (λ (l : Lock). l.writes) ls)

-- whether a lock is u's on k
abbrev pub is_at : Lock → ℕ → List ℕ → Bool
is_at l u k = nat_eq u l.t && pointwise nat_eq l.key k

-- whether one of these locks is u's on k
abbrev pub holds_in : List Lock → ℕ → List ℕ → Bool
holds_in [] u k = false
holds_in (l ∷ ls) u k = is_at l u k || holds_in ls u k

-- whether one of these locks is u's on k and writes it
abbrev pub writes_in : List Lock → ℕ → List ℕ → Bool
writes_in [] u k = false
writes_in (l ∷ ls) u k = (is_at l u k && l.writes) || writes_in ls u k

-- whether one of these locks is u's on k and blocks who reads k, or who writes it
abbrev pub blocks_in : Bool → List Lock → ℕ → List ℕ → Bool
blocks_in writes ls u k = cond writes (holds_in ls u k) (writes_in ls u k)

-- whether u has a lock on a key that the lists write, or one that writes a key that they read
abbrev pub meets_in : List Lock → List (List ℕ) → List (List ℕ × ℕ) → ℕ → Bool
meets_in ls reads writes u = list_any (λ w. holds_in ls u w.0) writes || list_any (λ k. writes_in ls u k) reads

-- p is the least number other than t that passes a test
pub record IsLeastPassing (test : ℕ → Bool) (t p : ℕ) : Type 0 where
  pub other : p ≢ t
  pub passes : IsTrue (test p)
  pub least : (v : ℕ) → v ≢ t → IsTrue (test v) → p ≤ v

-- the least number other than t that passes a test, or none where none does
abbrev pub IsLeastOther : (ℕ → Bool) → ℕ → Option ℕ → Type 0
IsLeastOther test t None = (u : ℕ) → u ≢ t → ¬ IsTrue (test u)
IsLeastOther test t (Some p) = IsLeastPassing test t p

-- by key, then by transaction
abbrev pub by_key : List ℕ × ℕ → List ℕ × ℕ → Ordering
by_key a b = ordering_then (slice_cmp nat_cmp a.0 b.0) (nat_cmp a.1 b.1)

-- every transaction of a table is at least 1
abbrev pub AreNumbered : List ((List ℕ × ℕ) × Bool) → Type 0
AreNumbered ps = All (λ p. 1 ≤ p.0.1) ps

-- the locks before i are on keys below k, and none from i on is
pub record IsStart (ps : List ((List ℕ × ℕ) × Bool)) (k : List ℕ) (i : ℕ) : Type 0 where
  pub within : i ≤ length ps
  pub below : (j : ℕ) (d : (List ℕ × ℕ) × Bool) → j < i → slice_cmp nat_cmp (slice_index_or ps j d).0.0 k ≡ Less
  pub above : (j : ℕ) (d : (List ℕ × ℕ) × Bool) → i ≤ j → j < length ps
      → slice_cmp nat_cmp (slice_index_or ps j d).0.0 k ≢ Less
