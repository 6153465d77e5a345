-- Sources and sinks in memory, some of whose calls fail.
use Rattle.std.specs.Prelude.{◌≡◌, ℕ, ◌+◌, ◌-◌, ◌^◌, min, List, Result, MatchResult}

-- the bytes left, how many calls have come, the numbers of those that fail, and the count of faults
pub record SourceState : Type 0 where
  pub left : List ℕ
  pub calls : ℕ
  pub fails : List ℕ
  pub faults : ℕ

-- the bytes held, how many calls have come, the numbers of those that fail, and the count of faults
pub record SinkState : Type 0 where
  pub held : List ℕ
  pub calls : ℕ
  pub fails : List ℕ
  pub faults : ℕ

-- one more than a count, which stands still at the end of its type
abbrev pub next_count : ℕ → ℕ
next_count n = min (n + 1) (2 ^ 64 - 1)

-- the count of faults is one more after an error, and as before after Ok
abbrev pub CountsFaults : {T E : Type 0} → ℕ → ℕ → Result T E → Type 0
CountsFaults before now result = MatchResult result (λ _. now ≡ before) (λ _. now ≡ next_count before)
