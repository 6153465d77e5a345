use Rattle.std.proofs.Common.{◌≡◌, ℕ, ◌<◌, true, List, [], ◌∷◌, length, refl, sym, ◌∙◌, arith}
use Rattle.grid_model.specs.Fitness.{is_rising}
use Rattle.node_core.proofs.fitness.is_rising.Goals as goal

rising-short : (ns : List ℕ) → length ns < 2 → is_rising ns ≡ true
rising-short [] h = refl
rising-short (n ∷ []) h = refl
rising-short (n ∷ (m ∷ ns)) h = absurd (omega (arith, h))

pub returns : goal.returns
returns c = sym (rising-short c.loop-rest.rest.now c.in_default.len_below) ∙ c.loop-rest.invariant
