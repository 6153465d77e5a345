-- What whole reads take from a source, and what whole writes give to a sink.
use Rattle.std.specs.Prelude.{◌≡◌, ℕ, ◌<◌, ◌≤◌, List, ◌++◌, length, take, Option}
use Rattle.std.specs.Io.KnownBytes.{Consumes, Appends, IsAtEnd}

-- a source was read to its end: these bytes came, all that were left
pub record ReadWhole (left_old left_new : Option (List ℕ)) (bytes : List ℕ) : Type 0 where
  pub lost : Consumes left_old left_new bytes
  pub end : IsAtEnd left_new

-- a source lost this many bytes from its front
pub record Lost (left_old left_new : Option (List ℕ)) (count : ℕ) : Type 0 where
  pub came : List ℕ
  pub counted : length came ≡ count
  pub lost : Consumes left_old left_new came

-- a source lost some bytes from its front, this many at most
pub record LostAtMost (left_old left_new : Option (List ℕ)) (most : ℕ) : Type 0 where
  pub came : List ℕ
  pub counted : length came ≤ most
  pub lost : Consumes left_old left_new came

-- bytes are older ones with some behind them, which a source lost from its front
pub record Gained (left_old left_new : Option (List ℕ)) (old new : List ℕ) : Type 0 where
  pub came : List ℕ
  pub more : new ≡ old ++ came
  pub lost : Consumes left_old left_new came

-- a sink got a proper prefix of these bytes
pub record AppendsPart (held_old held_new : Option (List ℕ)) (bytes : List ℕ) : Type 0 where
  pub count : ℕ
  pub proper : count < length bytes
  pub appended : Appends held_old held_new (take count bytes)
