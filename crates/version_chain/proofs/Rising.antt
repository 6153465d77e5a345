-- What a rising list of versions says of its last one, of one more, and of the one that a read sees.
use Prim.Native.Nat.{zero, suc}
use Rattle.std.proofs.Common.{◌≡◌, ℕ, ◌+◌, ◌<◌, ◌≤◌, List, [], ◌∷◌, ◌++◌, length, get_or, refl, sym, subst, arith}
use Rattle.std.proofs.lemmas.Grind.{common_steps}
use Rattle.version_chain.specs.Versions.{RisesFrom, newest_in_chain, version_in_chain}

pub RisesFrom-push : (n : ℕ) (vs : List (ℕ × ℕ)) (v : ℕ × ℕ)
    → RisesFrom n vs → n < v.0 → newest_in_chain vs < v.0 → RisesFrom n (vs ++ v ∷ [])
RisesFrom-push n [] v up low high = (low, tt)
RisesFrom-push n (w ∷ ws) v up low high = (up.0, RisesFrom-push w.0 ws v up.1 (omega arith) (omega arith))

-- no version is newer than the newest_in_chain
pub at_most_newest : (vs : List (ℕ × ℕ)) (j : ℕ) (d : ℕ × ℕ) → j < length vs → (get_or vs j d).0 ≤ newest_in_chain vs
at_most_newest [] j d within = absurd (omega (arith, within))
at_most_newest (v ∷ vs) zero d within = omega arith
at_most_newest (v ∷ vs) (suc j) d within = omega (arith, at_most_newest vs j d (omega (arith, within)))

-- the last version is the newest_in_chain
pub newest_last : (n : ℕ) (vs : List (ℕ × ℕ)) (j : ℕ) (d : ℕ × ℕ)
    → RisesFrom n vs → j + 1 ≡ length vs → (get_or vs j d).0 ≡ newest_in_chain vs
newest_last n [] j d up last = absurd (omega (arith, last))
newest_last n (v ∷ []) zero d up last = omega arith
newest_last n (v ∷ []) (suc j) d up last = absurd (omega (arith, last))
newest_last n (v ∷ w ∷ ws) zero d up last = absurd (omega (arith, last))
newest_last n (v ∷ w ∷ ws) (suc j) d up last =
    omega (arith, newest_last v.0 (w ∷ ws) j d up.1 (omega (arith, last)), up.1.0)

above_start : (n : ℕ) (vs : List (ℕ × ℕ)) (j : ℕ) (d : ℕ × ℕ)
    → RisesFrom n vs → j < length vs → n < (get_or vs j d).0
above_start n [] j d up within = absurd (omega (arith, within))
above_start n (v ∷ vs) zero d up within = up.0
above_start n (v ∷ vs) (suc j) d up within = omega (arith, up.0, above_start v.0 vs j d up.1 (omega (arith, within)))

-- nothing that rises from at least sid is seen
seen_past : (initial n : ℕ) (vs : List (ℕ × ℕ)) (sid : ℕ)
    → RisesFrom n vs → sid ≤ n → version_in_chain initial vs sid ≡ (0, initial)
seen_past initial n [] sid up far = refl
seen_past initial n (v ∷ vs) sid up far =
    let rest = seen_past initial v.0 vs sid up.1 (omega (arith, up.0)) in
    grind (arith, common_steps, rest, up.0)

-- where the first version is above sid, the initial value is seen
pub seen_none : (initial n : ℕ) (vs : List (ℕ × ℕ)) (sid : ℕ)
    → RisesFrom n vs → ((d : ℕ × ℕ) → 0 < length vs → sid < (get_or vs 0 d).0)
    → version_in_chain initial vs sid ≡ (0, initial)
seen_none initial n [] sid up far = refl
seen_none initial n (v ∷ vs) sid up far =
    let first : sid < v.0 = far v (omega arith) in
    let rest = seen_past initial v.0 vs sid up.1 (omega (arith, first)) in
    grind (arith, common_steps, rest, first)

shifted : (i : ℕ) → suc i + 1 ≡ suc (i + 1)
shifted i = omega arith

-- a version at or below sid whose follower is above it is seen
pub seen_at : (initial n : ℕ) (vs : List (ℕ × ℕ)) (sid i : ℕ) (d : ℕ × ℕ)
    → RisesFrom n vs → i < length vs → (get_or vs i d).0 ≤ sid
    → (i + 1 < length vs → sid < (get_or vs (i + 1) d).0) → version_in_chain initial vs sid ≡ get_or vs i d
seen_at initial n [] sid i d up within low next = absurd (omega (arith, within))
seen_at initial n (v ∷ []) sid zero d up within low next = grind (arith, common_steps, up.0, low)
seen_at initial n (v ∷ w ∷ ws) sid zero d up within low next =
    let far : sid < w.0 = next (omega arith) in
    let rest = seen_past initial w.0 ws sid up.1.1 (omega (arith, far)) in
    grind (arith, common_steps, rest, far, up.0, low)
seen_at initial n (v ∷ vs) sid (suc i) d up within low next =
    let later : i + 1 < length vs → sid < (get_or vs (i + 1) d).0 =
    λ more. subst (λ k. sid < (get_or (v ∷ vs) k d).0) (shifted i) (next (omega (arith, more))) in
    let rest = seen_at initial v.0 vs sid i d up.1 (omega (arith, within)) low later in
    let less = above_start v.0 vs i d up.1 (omega (arith, within)) in
    grind (arith, common_steps, rest, less, low)

-- each version is below the next
pub rises : (n : ℕ) (vs : List (ℕ × ℕ)) (i : ℕ) (d : ℕ × ℕ)
    → RisesFrom n vs → i + 1 < length vs → (get_or vs i d).0 < (get_or vs (i + 1) d).0
rises n [] i d up more = absurd (omega (arith, more))
rises n (v ∷ vs) zero d up more = above_start v.0 vs 0 d up.1 (omega (arith, more))
rises n (v ∷ vs) (suc i) d up more =
    subst (λ k. (get_or vs i d).0 < (get_or (v ∷ vs) k d).0) (sym (shifted i))
    (rises v.0 vs i d up.1 (omega (arith, more)))

-- one version more is the newest_in_chain, or the newest_in_chain stays
pub newest-push : (vs : List (ℕ × ℕ)) (v : ℕ × ℕ) (top : ℕ)
    → newest_in_chain vs ≤ top → v.0 ≤ top → newest_in_chain (vs ++ v ∷ []) ≤ top
newest-push [] v top low last = omega (arith, last)
newest-push (w ∷ ws) v top low last =
    let rest = newest-push ws v top (omega (arith, low)) last in
    omega (arith, rest, low)

pub length-push : (vs : List (ℕ × ℕ)) (v : ℕ × ℕ) → length (vs ++ v ∷ []) ≡ length vs + 1
length-push [] v = refl
length-push (w ∷ ws) v = omega (arith, length-push ws v)
