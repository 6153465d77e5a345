-- Commits that wait to be applied: pairs of a final identifier and a transaction.
use Rattle.std.specs.Prelude.{◌≡◌, ℕ, ◌<◌, ◌≤◌, Bool, true, nat_lt, IsTrue, List, map, Option, Some, None, ◌⊎◌, refl}
use Rattle.std.specs.declared.cmp.Ordering.{Ordering}
use Rattle.std.specs.Ordering.{nat_cmp, ordering_then}
use Rattle.std.specs.FinSet as set
use Rattle.std.specs.Coded.{Coded, code_by, coded×, coded_ℕ}

-- by final identifier, then by transaction
abbrev pub by_final : ℕ × ℕ → ℕ × ℕ → Ordering
by_final m n = ordering_then (nat_cmp m.0 n.0) (nat_cmp m.1 n.1)

-- a set of commits
abbrev pub Commits : Type 0
Commits = set.FinSet by_final

-- what waits, and the room for more
pub record Queue : Type 0 where
  pub commits : Commits
  pub spare : ℕ

-- a queue is stored as the pair of its fields
abbrev pub queue_code : Coded Queue
queue_code =
    code_by (Commits × ℕ) (coded× (set.code (coded× coded_ℕ coded_ℕ)) coded_ℕ)
    (λ q. (q.commits, q.spare)) (λ p. record { commits = p.0; spare = p.1 }) (λ _. refl)

-- f is below the limit, or there is no limit
abbrev pub is_below : Option ℕ → ℕ → Bool
is_below None f = true
is_below (Some limit) f = nat_lt f limit

-- m has the lesser final identifier, or the same and a transaction that is at most that of n
abbrev pub IsAtMost : ℕ × ℕ → ℕ × ℕ → Type 0
IsAtMost m n = (m.0 < n.0) ⊎ ((m.0 ≡ n.0) × (m.1 ≤ n.1))

-- m is the least of the commits below the limit
pub record IsLeastBelow (commits : Commits) (limit : Option ℕ) (m : ℕ × ℕ) : Type 0 where
  pub member : IsTrue (set.contains commits m)
  pub below : IsTrue (is_below limit m.0)
  pub least : (n : ℕ × ℕ) → IsTrue (set.contains commits n) → IsTrue (is_below limit n.0) → IsAtMost m n

-- the commits of a table that has nothing but them
abbrev pub commits_of : List ((ℕ × ℕ) × Unit {0}) → Commits
commits_of ps = set.from_list (map (λ p. p.0) ps)
