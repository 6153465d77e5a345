-- What contracts see of the reads that a node holds.
use Rattle.std.specs.Prelude.{ℕ, List}
use Rattle.grid_model.specs.declared.stories.HeldRead.{HeldRead}

-- the held reads in the order of their arrival, and the room for more
pub record HeldReads : Type 0 where
  pub reads : List HeldRead
  pub spare : ℕ
