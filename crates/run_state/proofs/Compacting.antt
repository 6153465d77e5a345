-- A compaction that the acts leave in doubt is found by reading them in the order of time.
use Rattle.std.proofs.Common.{◌≡◌, ℕ, false, List, [], ◌∷◌, refl}
use Rattle.grid_model.specs.declared.acts.Act.{Act}
use Rattle.grid_model.specs.Histories.{after}
use Rattle.grid_model.specs.Disks.{is_compacting}
use Rattle.run_state.specs.Kept.{compacting_after}

compacting_more : (n : ℕ) (past acts : List Act)
    → compacting_after n (is_compacting past n) acts ≡ is_compacting (after past acts) n
compacting_more n past [] = refl
compacting_more n past (a ∷ acts) = compacting_more n (a ∷ past) acts

pub compacting_all : (n : ℕ) (acts : List Act) → compacting_after n false acts ≡ is_compacting (after [] acts) n
compacting_all n acts = compacting_more n [] acts
