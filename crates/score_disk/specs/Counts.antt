-- How the calls of a disk move its counts of faults and its fuse.
use Rattle.std.specs.Prelude.{◌≡◌, ◌⊎◌, ℕ, ◌-◌, ◌<◌, ◌≤◌, Option, Some, Result, OnOk, OnErr, IsErr}
use Rattle.std.specs.Option.{option_map}
use Rattle.score_base.specs.Faults.{Rose}

-- The count of faults and `own`, the count without a fuse's own faults, never fall. An error comes only where the count
-- rose, and the count rises only where `own` rises or the fuse has stopped a call; after Ok both are as before.
pub record Counted {T E : Type 0} (faults_old faults_new own_old own_new : ℕ) (left_new : Option ℕ)
    (result : Result T E) : Type 0 where
  pub later : faults_old ≤ faults_new
  pub own_later : own_old ≤ own_new
  pub failed : OnErr result (Rose faults_old faults_new)
  pub cause : OnErr result (Rose own_old own_new ⊎ (left_new ≡ Some 0))
  pub rises : faults_old < faults_new → (own_old < own_new) ⊎ (left_new ≡ Some 0)
  pub ok : OnOk result ((faults_new ≡ faults_old) × (own_new ≡ own_old))

-- A write, cut or sync lowers `left`, where it is a number, and fails where it is 0 then.
pub record Burns {T E : Type 0} (left_old left_new : Option ℕ) (result : Result T E) : Type 0 where
  pub falls : left_new ≡ option_map (λ k. k - 1) left_old
  pub stops : left_new ≡ Some 0 → IsErr result
