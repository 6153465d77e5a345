-- Which keys and values does a Prepare bring to a node?
use Rattle.std.proofs.Common.{◌≡◌, Bool, true, false, ◌&&◌, ◌||◌, map, List, [], ◌∷◌, Some, None, refl, sym, ap, ◌∙◌, arith, if◌then◌else◌}
use Rattle.std.specs.Prelude.{filter}
use Rattle.score_base.specs.declared.ids.Value.{Value}
use Rattle.score_base.specs.declared.keys.Key.{Key}
use Rattle.score_base.specs.Keys.{same_key}
use Rattle.script_lang.specs.Reads.{is_key_among, written_keys}
use Rattle.script_runs.specs.Serials.{Map}
use Rattle.script_runs.specs.Walks.{own_map}
use Rattle.score_base.specs.declared.ids.NodeId.{NodeId}
use Rattle.placement.specs.Places.{holds}
use Rattle.placement.specs.Clusters.{ClusterData}
use Rattle.grid_model.specs.Views.{Open}
use Rattle.journal_words.specs.Journals.{written_value, keys_of_writes}
use Rattle.grid_model.specs.Advances.{prepare_for}
use Rattle.script_lang.proofs.KeyLists.{same_key-is, same_key-turned}

-- ---- lists of keys with a value each

-- each key with its value
abbrev pub with_values : Map → List Key → List (Key × Value)
with_values m ks = map (λ k. (k, m k)) ks

pub with_values-keys : (m : Map) (ks : List Key) → keys_of_writes (with_values m ks) ≡ ks
with_values-keys m [] = refl
with_values-keys m (k ∷ ks) = ap (λ xs. k ∷ xs) (with_values-keys m ks)

pub with_values-at : (m : Map) (k : Key) (ks : List Key)
    → written_value k (with_values m ks) ≡ (if is_key_among k ks then Some (m k) else None)
with_values-at m k [] = refl
with_values-at m k (x ∷ ks) = go (same_key k x) (same_key x k) (same_key-turned k x) same (with_values-at m k ks)
  where
    same : same_key k x ≡ true → m x ≡ m k
    same h = ap m (sym (same_key-is k x h))

    go : (a b : Bool) → a ≡ b → (a ≡ true → m x ≡ m k)
        → written_value k (with_values m ks) ≡ (if is_key_among k ks then Some (m k) else None)
        → (if b then Some (m x) else written_value k (with_values m ks))
        ≡ (if a || is_key_among k ks then Some (m k) else None)
    go true b e is rest = rw (← e) (ap (λ v. Some v) (is refl))
    go false b e is rest = rw (← e) rest

pub among-filter : (p : Key → Bool) (k : Key) (ks : List Key)
    → is_key_among k (filter p ks) ≡ (is_key_among k ks && p k)
among-filter p k [] = refl
among-filter p k (x ∷ ks) = go (p x) same (among-filter p k ks)
  where
    same : same_key k x ≡ true → p k ≡ p x
    same h = ap p (same_key-is k x h)

    go : (b : Bool) → (same_key k x ≡ true → p k ≡ b) → is_key_among k (filter p ks) ≡ (is_key_among k ks && p k)
        → is_key_among k (if b then x ∷ filter p ks else filter p ks) ≡ ((same_key k x || is_key_among k ks) && p k)
    go true e rest = grind (arith, e, rest)
    go false e rest = grind (arith, e, rest)

-- ---- the Prepare for a node

-- with the value that the transaction wrote last
pub prepare-value : (c : ClusterData) (x : Open) (n : NodeId) (k : Key) → written_value k (prepare_for c x n).writes
    ≡ (if is_key_among k (written_keys [] x.script.ops) && holds c.places n k
    then Some (own_map x.script.ops x.progress.values k) else None)
prepare-value c x n k =
    with_values-at (own_map x.script.ops x.progress.values) k (filter (holds c.places n) (written_keys [] x.script.ops))
    ∙ ap (λ b. if b then Some (own_map x.script.ops x.progress.values k) else None) (among-filter (holds c.places n) k (written_keys [] x.script.ops))
