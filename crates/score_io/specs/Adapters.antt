-- Sources and sinks over std's readers and writers.
use Rattle.std.specs.Prelude.{ℕ}

-- a reader or a writer, and the count of faults of the adapter over it
pub record Adapted (A : Type 0) : Type 0 where
  pub inner : A
  pub faults : ℕ
