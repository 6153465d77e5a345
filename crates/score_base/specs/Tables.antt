-- Ordered tables: pairs of a key and a value, in rising order of distinct keys.
use Rattle.std.specs.Prelude.{◌≡◌, ℕ, ◌<◌, ◌≤◌, List, [], ◌∷◌, length, slice_index_or}
use Rattle.std.specs.List.{AllPairs}
use Rattle.std.specs.declared.cmp.Ordering.{Ordering}
use Rattle.std.specs.declared.cmp.Ordering.TheVariants.{Less, Greater}
use Rattle.std.specs.Ordering.{match_ordering}

-- the pairs of a table, and the room for more
pub record Table (K V : Type 0) : Type 0 where
  pub pairs : List (K × V)
  pub spare : ℕ

-- each key is below those behind it
abbrev pub IsRising : {K V : Type 0} → (K → K → Ordering) → List (K × V) → Type 0
IsRising cmp pairs = AllPairs (λ p q. cmp p.0 q.0 ≡ Less) pairs

-- the keys before low are below this key, and those from high on are above it
pub record Narrows {K V : Type 0} (cmp : K → K → Ordering) (pairs : List (K × V)) (key : K) (low high : ℕ) : Type 0
  where
    pub order : low ≤ high
    pub within : high ≤ length pairs
    pub below : (j : ℕ) (d : K × V) → j < low → cmp (slice_index_or pairs j d).0 key ≡ Less
    pub above : (j : ℕ) (d : K × V) → high ≤ j → j < length pairs → cmp (slice_index_or pairs j d).0 key ≡ Greater

-- the key is not there, and i is the number of keys below it
abbrev pub IsGap : {K V : Type 0} → (K → K → Ordering) → List (K × V) → K → ℕ → Type 0
IsGap cmp pairs key i = Narrows cmp pairs key i i

-- a table with one pair more, which takes the place of one with an equal key
unfoldable pub put : {K V : Type 0} → (K → K → Ordering) → K × V → List (K × V) → List (K × V)
put cmp p [] = p ∷ []
put cmp p (q ∷ qs) = match_ordering (cmp p.0 q.0) (p ∷ q ∷ qs) (p ∷ qs) (q ∷ put cmp p qs)

-- a table with the pairs of another, each of which takes the place of one with an equal key
unfoldable pub merged : {K V : Type 0} → (K → K → Ordering) → List (K × V) → List (K × V) → List (K × V)
merged cmp pairs [] = pairs
merged cmp pairs (p ∷ ps) = put cmp p (merged cmp pairs ps)
