-- What several calls in a row do to a fuse, and the room that an append needs.
use Rattle.std.specs.Prelude.{◌≡◌, ℕ, ◌+◌, ◌-◌, ◌^◌, ◌≤◌, Option}
use Rattle.std.specs.Option.{option_map}

-- `left` after this many calls that a fuse counts
abbrev pub lowered : ℕ → Option ℕ → Option ℕ
lowered n left = option_map (λ k. k - n) left

-- at most so many calls were counted
pub record LoweredAtMost (most : ℕ) (old now : Option ℕ) : Type 0 where
  pub calls : ℕ
  pub within : calls ≤ most
  pub falls : now ≡ lowered calls old

-- Room for one record: on the disk for its length, a body of at most 4,096 bytes and two gates, and in memory for its
-- frame.
pub record HasRoom (spare scratch body frame gate : ℕ) : Type 0 where
  pub on_disk : 4100 ≤ spare
  pub in_scratch : 4096 ≤ scratch
  pub in_body : 4096 ≤ body
  pub in_frame : 4100 ≤ frame
  pub place : gate + 4100 ≤ 2 ^ 63
