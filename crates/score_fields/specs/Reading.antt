-- What stands first in the bytes: a value and the bytes behind it, or nothing that is spelled so.
use Rattle.std.specs.Prelude.{ℕ, zero, suc, ◌==◌, ◌&&◌, nat_le, nat_lt, Bool, true, List, [], ◌∷◌, length, take, drop, Option, Some, None, if◌then◌else◌}
use Rattle.std.specs.Int.{w16, w64, from_be_bytes}
use Rattle.score_base.specs.Keys.{is_key}
use Rattle.score_base.specs.declared.causes.Outcome.{Outcome}
use Rattle.score_base.specs.declared.causes.Outcome.TheVariants.{Commit, Abort}
use Rattle.score_base.specs.declared.causes.Cause.TheVariants.{Holder, Newer}
use Rattle.score_base.specs.declared.causes.Ballot.{Ballot}
use Rattle.score_base.specs.declared.causes.Ballot.TheVariants.{Yes, No}
use Rattle.score_base.specs.declared.causes.Date.{Date}
use Rattle.score_base.specs.declared.causes.Date.TheVariants.{First, At}

infixl 10 ◌>>=◌
abbrev pub ◌>>=◌ : {A B : Type 0} → Option A → (A → Option B) → Option B
None >>= f = None
(Some x) >>= f = f x

-- a byte from low to high
abbrev pub first_within : ℕ → ℕ → List ℕ → Option (ℕ × List ℕ)
first_within low high [] = None
first_within low high (b ∷ rest) = if nat_le low b && nat_le b high then Some (b, rest) else None

-- a number of two bytes
unfoldable pub first_two : List ℕ → Option (ℕ × List ℕ)
first_two bytes = if nat_lt (length bytes) 2 then None else Some (from_be_bytes w16 (take 2 bytes), drop 2 bytes)

-- the number of a transaction
unfoldable pub first_tx : List ℕ → Option (ℕ × List ℕ)
first_tx bytes = do
  t ← first_two bytes
  if t.0 == 0 then None else Some t

-- a number of eight bytes
unfoldable pub first_eight : List ℕ → Option (ℕ × List ℕ)
first_eight bytes = if nat_lt (length bytes) 8 then None else Some (from_be_bytes w64 (take 8 bytes), drop 8 bytes)

-- a length byte and that many bytes
abbrev pub first_text : List ℕ → Option (List ℕ × List ℕ)
first_text [] = None
first_text (n ∷ bytes) = if nat_le n (length bytes) then Some (take n bytes, drop n bytes) else None

-- a key behind its length
unfoldable pub first_key : List ℕ → Option (List ℕ × List ℕ)
first_key bytes = do
  text ← first_text bytes
  if is_key text.0 then Some text else None

-- each number above the one before it, the first above low, and none above 16
abbrev pub rises_above : ℕ → List ℕ → Bool
rises_above low [] = true
rises_above low (n ∷ ns) = nat_lt low n && nat_le n 16 && rises_above n ns

-- nodes behind their count
unfoldable pub first_nodes : List ℕ → Option (List ℕ × List ℕ)
first_nodes [] = None
first_nodes (n ∷ bytes) =
    if nat_le 1 n && nat_le n 16 && nat_le n (length bytes) && rises_above 0 (take n bytes)
    then Some (take n bytes, drop n bytes) else None

-- this many, one behind the other
abbrev pub first_many : {A : Type 0} → (List ℕ → Option (A × List ℕ)) → ℕ → List ℕ → Option (List A × List ℕ)
first_many one zero bytes = Some ([], bytes)
first_many one (suc n) bytes = one bytes >>= λ x. first_many one n x.1 >>= λ xs. Some (x.0 ∷ xs.0, xs.1)

-- at most 32 behind their count
abbrev pub first_list : {A : Type 0} → (List ℕ → Option (A × List ℕ)) → List ℕ → Option (List A × List ℕ)
first_list one [] = None
first_list one (n ∷ bytes) = if nat_le n 32 then first_many one n bytes else None

-- keys behind their count
unfoldable pub first_keys : List ℕ → Option (List (List ℕ) × List ℕ)
first_keys bytes = first_list first_key bytes

-- a key and its value
unfoldable pub first_write : List ℕ → Option ((List ℕ × ℕ) × List ℕ)
first_write bytes = do
  key ← first_key bytes
  value ← first_eight key.1
  Some ((key.0, value.0), value.1)

-- writes behind their count
unfoldable pub first_writes : List ℕ → Option (List (List ℕ × ℕ) × List ℕ)
first_writes bytes = first_list first_write bytes

unfoldable pub first_outcome : List ℕ → Option (Outcome × List ℕ)
first_outcome [] = None
first_outcome (zero ∷ rest) = Some (Abort, rest)
first_outcome (suc zero ∷ rest) = do
  f ← first_eight rest
  Some (Commit f.0, f.1)
first_outcome (suc (suc b) ∷ rest) = None

unfoldable pub first_ballot : List ℕ → Option (Ballot × List ℕ)
first_ballot [] = None
first_ballot (zero ∷ rest) = None
first_ballot (suc zero ∷ rest) = do
  p ← first_eight rest
  Some (Yes p.0, p.1)
first_ballot (suc (suc zero) ∷ rest) = do
  t ← first_tx rest
  Some (No (Holder t.0), t.1)
first_ballot (suc (suc (suc zero)) ∷ rest) = do
  w ← first_write rest
  Some (No (Newer w.0.0 w.0.1), w.1)
first_ballot (suc (suc (suc (suc b))) ∷ rest) = None

unfoldable pub first_date : List ℕ → Option (Date × List ℕ)
first_date [] = None
first_date (zero ∷ rest) = do
  sid ← first_eight rest
  Some (First sid.0, sid.1)
first_date (suc zero ∷ rest) = do
  sid ← first_eight rest
  Some (At sid.0, sid.1)
first_date (suc (suc b) ∷ rest) = None
