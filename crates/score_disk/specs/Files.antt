-- A file on a disk: what a read gives, and what a crash may leave of it.
use Rattle.std.specs.Prelude.{◌≡◌, ℕ, ◌+◌, ◌-◌, ◌<◌, ◌≤◌, ◌&&◌, ◌||◌, Bool, false, nat_le, nat_lt, max, min, List, [], ◌++◌, length, take, drop, slice_index, IsTrue}

-- what a read gives; the places touched since the last settled moment; the least and the greatest length since then
pub record File : Type 0 where
  pub seen : List ℕ
  pub touched : ℕ → Bool
  pub least : ℕ
  pub greatest : ℕ

-- The length is one of those that the file had, and each place past the least of them is touched.
pub record IsSound (f : File) : Type 0 where
  pub no_shorter : f.least ≤ length f.seen
  pub no_longer : length f.seen ≤ f.greatest
  pub past_least : (i : ℕ) → f.touched i ≡ false → i < f.greatest → i < f.least

-- A crash may leave these bytes: a length that the file had, and at each untouched place what a read gives.
pub record IsImage (f : File) (bytes : List ℕ) : Type 0 where
  pub no_shorter : f.least ≤ length bytes
  pub no_longer : length bytes ≤ f.greatest
  pub same : (i : ℕ) → i < length bytes → f.touched i ≡ false → slice_index bytes i ≡ slice_index f.seen i

-- nothing is touched, and the file had one length
pub record IsSettled (f : File) : Type 0 where
  pub touched : (i : ℕ) → f.touched i ≡ false
  pub least : f.least ≡ length f.seen
  pub greatest : f.greatest ≡ length f.seen

-- the condition settled: nothing is asked where the file isn't told
abbrev pub Settled : Bool → File → Type 0
Settled told f = IsTrue told → IsSettled f

-- the condition empty: the file is told, and holds no byte
abbrev pub Empty : Bool → File → Type 0
Empty told f = IsTrue told × (f.seen ≡ [])

-- xs with these bytes from a place on
abbrev pub put_at : List ℕ → ℕ → List ℕ → List ℕ
put_at xs at bytes = take at xs ++ bytes ++ drop (at + length bytes) xs

-- whether i is one of n places from `at` on
abbrev pub covers : ℕ → ℕ → ℕ → Bool
covers at n i = nat_le at i && nat_lt i (at + n)

-- after a write
abbrev pub written : ℕ → List ℕ → File → File
written at bytes f = record {
  seen = put_at f.seen at bytes;
  touched = λ i. f.touched i || covers at (length bytes) i;
  least = f.least;
  greatest = max f.greatest (at + length bytes);
}

-- after a cut: it touches the places from there up to the greatest length
abbrev pub cut_to : ℕ → File → File
cut_to at f = record {
  seen = take at f.seen;
  touched = λ i. f.touched i || covers at (f.greatest - at) i;
  least = min f.least at;
  greatest = f.greatest;
}

-- after a sync
abbrev pub synced : File → File
synced f = record { seen = f.seen; touched = λ _. false; least = length f.seen; greatest = length f.seen }

-- A write or cut failed that would have made `to` of `from`: it touched no more, and at each untouched place a read
-- gives what it gave before.
pub record Missed (from to now : File) : Type 0 where
  pub touched : (i : ℕ) → to.touched i ≡ false → now.touched i ≡ false
  pub least : to.least ≤ now.least
  pub greatest : now.greatest ≤ to.greatest
  pub no_shorter : now.least ≤ length now.seen
  pub no_longer : length now.seen ≤ now.greatest
  pub same : (i : ℕ) → now.touched i ≡ false → slice_index now.seen i ≡ slice_index from.seen i

-- A sync failed: it leaves the touched places and the two lengths, and what a read gives at untouched places.
pub record Unsynced (from now : File) : Type 0 where
  pub touched : (i : ℕ) → now.touched i ≡ from.touched i
  pub least : now.least ≡ from.least
  pub greatest : now.greatest ≡ from.greatest
  pub no_shorter : now.least ≤ length now.seen
  pub no_longer : length now.seen ≤ now.greatest
  pub same : (i : ℕ) → from.touched i ≡ false → slice_index now.seen i ≡ slice_index from.seen i

-- a crash left one of the images, and the disk is settled
pub record IsCrash (from now : File) : Type 0 where
  pub image : IsImage from now.seen
  pub settled : IsSettled now
