use Rattle.std.proofs.Common.{ℕ, List, ◌≡◌, ◌+◌, ◌≤◌, ◌&&◌, ◌||◌, nat_eq, length, drop}
use Rattle.lock_table.specs.Keys.{is_written}
use Rattle.lock_table.specs.Table.{locks_of, holds_in, writes_in, AreNumbered}
use Rattle.lock_table.proofs.take_writes.Given as goal

abbrev pub invariant-loop-write : goal.invariant-loop-write
invariant-loop-write l = record {
  idle : (k : List ℕ) → holds_in (locks_of l.locks.pairs) l.t k ≡ writes_in (locks_of l.locks.pairs) l.t k;
  keys : (u : ℕ) (k : List ℕ)
      → (holds_in (locks_of l.locks.pairs) u k || (nat_eq u l.t && is_written (drop l.write-index l.writes) k)) ≡
      (holds_in (locks_of l.initial.locks.pairs) u k || (nat_eq u l.t && is_written l.writes k));
  written : (u : ℕ) (k : List ℕ)
      → (writes_in (locks_of l.locks.pairs) u k || (nat_eq u l.t && is_written (drop l.write-index l.writes) k)) ≡
      (writes_in (locks_of l.initial.locks.pairs) u k || (nat_eq u l.t && is_written l.writes k));
  spare : l.initial.locks.spare ≤ l.locks.spare + l.write-index;
  count : length l.locks.pairs ≤ length l.initial.locks.pairs + l.write-index;
  numbered : AreNumbered l.initial.locks.pairs → AreNumbered l.locks.pairs;
}
