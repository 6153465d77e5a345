-- What a sink got where a part of several was not written whole.
use Rattle.std.specs.Prelude.{ℕ, ◌<◌, List, ◌++◌, length, take, Option}
use Rattle.std.specs.Io.KnownBytes.{Appends}

-- a sink got the parts before one whole, and behind them a proper prefix of that part
pub record AppendsBehind (held_old held_new : Option (List ℕ)) (whole part : List ℕ) : Type 0 where
  pub count : ℕ
  pub proper : count < length part
  pub appended : Appends held_old held_new (whole ++ take count part)
