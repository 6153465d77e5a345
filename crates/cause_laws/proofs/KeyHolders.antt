-- Each key has a holder, and a node that is asked for it first.
use Rattle.grid_model.specs.Documents.{DocumentData, IsOne}
use Rattle.placement.specs.Places.{holders, holds, is_partition, key_sum, others, preferred}
use Rattle.score_base.specs.declared.ids.NodeId.{NodeId}
use Rattle.score_base.specs.declared.keys.Key.{Key}
use Rattle.std.proofs.Common.{Bool, List, Some, [], arith, false, length, refl, suc, true, zero, ℕ, ◌<◌, ◌∷◌, ◌≡◌, ◌≤◌}
use Rattle.std.proofs.lemmas.Bool.{and_parts}
use Rattle.std.specs.List.{list_all}
use Rattle.std.specs.Prelude.{if◌then◌else◌, slice_get, slice_index_or, ◌%◌}

all-in : (p : List NodeId → Bool) (places : List (List NodeId)) (i : ℕ) → i < length places → list_all p places ≡ true
    → p (slice_index_or places i []) ≡ true
all-in p [] i low h = absurd (omega arith)
all-in p (ns ∷ places) zero low h = (and_parts (p ns) (list_all p places) h).0
all-in p (ns ∷ places) (suc i) low h = all-in p places i (omega arith) (and_parts (p ns) (list_all p places) h).1

first-some : (ns : List NodeId) → is_partition ns ≡ true → (y : NodeId) × (slice_get ns 0 ≡ Some y)
first-some [] h = cc
first-some (n ∷ ns) h = (n, refl)

pub holders-some : (d : DocumentData) (k : Key) → IsOne d
    → (y : NodeId) × (slice_get (holders d.cluster.places k) 0 ≡ Some y)
holders-some d k one =
    let places : List (List NodeId) = d.cluster.places in
    let least : 1 ≤ length places = one.document.cluster.places.least in
    first-some (holders places k) (all-in is_partition places (key_sum k % length places) (omega arith) one.document.cluster.places.each)

-- the node that a home asks first
pub preferred-some : (d : DocumentData) (home : NodeId) (k : Key) → IsOne d
    → (y : NodeId) × (slice_get (preferred d.cluster.places home k) 0 ≡ Some y)
preferred-some d home k one = go (holds d.cluster.places home k)
  where
    go : (b : Bool) → (y : NodeId)
        × (slice_get (if b then home ∷ others home (holders d.cluster.places k) else holders d.cluster.places k) 0
        ≡ Some y)
    go true = (home, refl)
    go false = holders-some d k one
