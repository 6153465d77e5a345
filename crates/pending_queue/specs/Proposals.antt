-- Pending transactions and their proposals.
use Rattle.std.specs.Prelude.{◌≡◌, ℕ, ◌≤◌, Bool, false, ◌==◌, List, Option, Some, None, is_some, refl}
use Rattle.std.specs.declared.cmp.Ordering.{Ordering}
use Rattle.std.specs.Ordering.{nat_cmp, ordering_then}
use Rattle.std.specs.FinMap as map
use Rattle.std.specs.Coded.{Coded, code_by, coded×, coded_ℕ}

-- the proposal of each transaction that has one
abbrev pub Proposals : Type 0
Proposals = map.FinMap nat_cmp ℕ

-- what is pending, and the room for more
pub record Queue : Type 0 where
  pub proposals : Proposals
  pub spare : ℕ

-- a queue is stored as the pair of its fields
abbrev pub queue_code : Coded Queue
queue_code =
    code_by (Proposals × ℕ) (coded× (map.code coded_ℕ coded_ℕ) coded_ℕ)
    (λ q. (q.proposals, q.spare)) (λ p. record { proposals = p.0; spare = p.1 }) (λ _. refl)

-- p is the least proposal
pub record IsLeast (proposals : Proposals) (p : ℕ) : Type 0 where
  pub pending : (t : ℕ) × (map.get proposals t ≡ Some p)
  pub least : (t q : ℕ) → map.get proposals t ≡ Some q → p ≤ q

-- by proposal, then by transaction
abbrev pub by_proposal : ℕ × ℕ → ℕ × ℕ → Ordering
by_proposal a b = ordering_then (nat_cmp a.0 b.0) (nat_cmp a.1 b.1)

-- whether a table has this pair of a proposal and a transaction
abbrev pub has : List ((ℕ × ℕ) × Unit {0}) → ℕ × ℕ → Bool
has ps q = is_some (map.find by_proposal q ps)

-- whether what was found is this proposal
abbrev pub is_proposal : Option ℕ → ℕ → Bool
is_proposal None p = false
is_proposal (Some q) p = p == q

-- a table by transaction and one by proposal have the same
abbrev pub AreAlike : List (ℕ × ℕ) → List ((ℕ × ℕ) × Unit {0}) → Type 0
AreAlike es ps = (t p : ℕ) → has ps (p, t) ≡ is_proposal (map.find nat_cmp t es) p
