-- By how much counts rise: from call to call, and where a call failed.
use Rattle.std.proofs.Common.{◌≡◌, ◌≤◌, inl, inr, ℕ, ◌+◌, ◌-◌, ◌^◌, min, refl, arith}
use Rattle.std.proofs.lemmas.Bool.{cases_lt}
use Rattle.score_base.specs.Faults.{Rose}
use Rattle.disk_laws.specs.SoFar.{IsRise, IsJointRise}

-- no rise
pub rise-none : (own now : ℕ) → now ≡ own → IsRise own now 0
rise-none own now is = inl (omega (arith, is))

-- one rise behind another
pub rise-both : (a b c r s : ℕ) → IsRise a b r → IsRise b c s → IsRise a c (r + s)
rise-both a b c r s (inl e) (inl f) = inl (omega (arith, e, f))
rise-both a b c r s (inl e) (inr f) = let low = f.0 in let high = f.1 in inr (low, omega (arith, e, high))
rise-both a b c r s (inr e) (inl f) = let low = e.0 in let high = e.1 in
    inr (omega (arith, low, f), omega (arith, high, f))
rise-both a b c r s (inr e) (inr f) = let low = f.0 in let high = e.1 in let most = f.1 in
    inr (low, omega (arith, high, most))

-- a rise that is at least this much
pub record Rises (own now least : ℕ) : Type 0 where
  pub rise : ℕ
  pub enough : least ≤ rise
  pub is : IsRise own now rise

-- a count that has not fallen has risen
pub rise-later : (own now : ℕ) → own ≤ now → Rises own now 0
rise-later own now later = record { rise = now - own; enough = omega arith; is = inl (omega (arith, later)) }

-- a count that rose, or stands at the end of its type, has risen by at least 1
pub rise-rose : (own now : ℕ) → own ≤ now → Rose own now → Rises own now 1
rise-rose own now later rose = elim (cases_lt own (2 ^ 64 - 1)) [
  | inl below ↦ let least : min (own + 1) (2 ^ 64 - 1) ≤ now = rose in
      record { rise = now - own; enough = omega (arith, least, below); is = inl (omega (arith, later)) }
  | inr ends ↦ record {
    rise = now - own + 1;
    enough = omega arith;
    is =
        inr (omega (arith, ends, later), omega (arith, later));
  }
]

-- ---- of two disks

pub joint-none : (first second first' second' : ℕ) → first' ≡ first → second' ≡ second →
    IsJointRise first second first' second' 0
joint-none first second first' second' e f = record {
  of_first = 0;
  of_second = 0;
  first_is =
      rise-none first first' e;
  second_is = rise-none second second' f;
  sum = refl;
}

pub joint-both : (a b c d e f r s : ℕ) → IsJointRise a b c d r → IsJointRise c d e f s → IsJointRise a b e f (r + s)
joint-both a b c d e f r s x y =
    let one = x.sum in
    let two = y.sum in
    record {
      of_first = x.of_first + y.of_first;
      of_second = x.of_second + y.of_second;
      first_is = rise-both a c e x.of_first y.of_first x.first_is y.first_is;
      second_is = rise-both b d f x.of_second y.of_second x.second_is y.second_is;
      sum = omega (arith, one, two);
    }

-- the first has risen, or the second
pub joint-first : (first second first' second' more : ℕ) → IsRise first first' more → second' ≡ second →
    IsJointRise first second first' second' more
joint-first first second first' second' more is same = record
    { of_first = more; of_second = 0; first_is = is; second_is = rise-none second second' same; sum = omega arith }

pub joint-second : (first second first' second' more : ℕ) → first' ≡ first → IsRise second second' more →
    IsJointRise first second first' second' more
joint-second first second first' second' more same is = record
    { of_first = 0; of_second = more; first_is = rise-none first first' same; second_is = is; sum = omega arith }
