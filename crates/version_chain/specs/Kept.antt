-- The chains of a node's keys.
use Rattle.std.specs.Prelude.{◌≡◌, ℕ, ◌+◌, ◌*◌, ◌^◌, ◌<◌, ◌≤◌, List, [], length, slice_index_or, Option, Some, None}
use Rattle.std.specs.Ordering.{nat_cmp}
use Rattle.std.specs.Cmp.Lexicographic.{slice_cmp}
use Rattle.std.specs.FinMap as map
use Rattle.version_chain.specs.Versions.{Versions}

-- the place of each key that has a chain, the chains by place, and how many keys more may get a chain
pub record Kept : Type 0 where
  pub places : List (List ℕ × ℕ)
  pub chains : List Versions
  pub fresh : ℕ

-- the place of a key
abbrev pub place_of : List ℕ → List (List ℕ × ℕ) → Option ℕ
place_of k places = map.find (slice_cmp nat_cmp) k places

-- the chain at a place, where there is a place
abbrev pub chain_at : List Versions → Option ℕ → Option Versions
chain_at chains None = None
chain_at chains (Some i) = Some (slice_index_or chains i (record { initial = 0; versions = []; spare = 0 }))

-- the chain of a key, where it has one
abbrev pub chain_of : List ℕ → Kept → Option Versions
chain_of k kept = chain_at kept.chains (place_of k kept.places)

-- the versions of a chain; none where there is no chain
abbrev pub versions_in : Option Versions → List (ℕ × ℕ)
versions_in None = []
versions_in (Some c) = c.versions

-- the versions of a key
abbrev pub versions_of : List ℕ → Kept → List (ℕ × ℕ)
versions_of k kept = versions_in (chain_of k kept)

-- for how many versions a chain has room
abbrev pub spare_in : Option Versions → ℕ
spare_in None = 0
spare_in (Some c) = c.spare

-- for how many versions of a key there is room
abbrev pub spare_of : List ℕ → Kept → ℕ
spare_of k kept = spare_in (chain_of k kept)

-- the initial value of a chain, or this value where there is no chain
abbrev pub initial_in : ℕ → Option Versions → ℕ
initial_in initial None = initial
initial_in initial (Some c) = c.initial

-- each chain has the initial value of its key
abbrev pub StartsBy : (List ℕ → ℕ) → Kept → Type 0
StartsBy init kept = (k : List ℕ) → initial_in (init k) (chain_of k kept) ≡ init k

-- a chain without versions that has room for one
pub record IsBlank (c : Versions) : Type 0 where
  pub none : c.versions ≡ []
  pub room : 1 ≤ c.spare

-- the chains of the keys come first, no two keys have the same, and those behind them are blank
pub record ArePlaces (places : List (List ℕ × ℕ)) (chains : List Versions) : Type 0 where
  pub inside : (k : List ℕ) (i : ℕ) → place_of k places ≡ Some i → i < length places
  pub apart : (k l : List ℕ) (i : ℕ) → place_of k places ≡ Some i → place_of l places ≡ Some i → k ≡ l
  pub few : length places ≤ length chains
  pub blank : (j : ℕ) (d : Versions) → length places ≤ j → j < length chains → IsBlank (slice_index_or chains j d)

-- at least these chains, and each that is new is blank
pub record IsLonger (old new : List Versions) : Type 0 where
  pub more : length old ≤ length new
  pub kept : (j : ℕ) (d : Versions) → j < length old → slice_index_or new j d ≡ slice_index_or old j d
  pub blank : (j : ℕ) (d : Versions) → length old ≤ j → j < length new → IsBlank (slice_index_or new j d)

-- so many comparisons are a look-up by halving among m keys, and one among n versions
pub record AreTwoLookups (m n steps : ℕ) : Type 0 where
  pub keys : ℕ
  pub versions : ℕ
  pub all : steps ≡ keys + versions
  pub among_keys : 2 ^ keys ≤ 2 * m + 1
  pub among_versions : 2 ^ versions ≤ 2 * n + 1
