use Rattle.std.proofs.Common.{ℕ, List, ◌≡◌, ◌+◌, ◌≤◌, ◌&&◌, ◌||◌, nat_eq, length, drop}
use Rattle.lock_table.specs.Keys.{is_read}
use Rattle.lock_table.specs.Table.{locks_of, holds_in, writes_in, AreNumbered}
use Rattle.lock_table.proofs.take_reads.Given as goal

abbrev pub invariant-loop-key : goal.invariant-loop-key
invariant-loop-key l = record {
  keys : (u : ℕ) (k : List ℕ)
      → (holds_in (locks_of l.locks.pairs) u k || (nat_eq u l.t && is_read (drop l.key-index l.reads) k)) ≡
      (holds_in (locks_of l.initial.locks.pairs) u k || (nat_eq u l.t && is_read l.reads k));
  written : (u : ℕ) (k : List ℕ)
      → writes_in (locks_of l.locks.pairs) u k ≡ writes_in (locks_of l.initial.locks.pairs) u k;
  spare : l.initial.locks.spare ≤ l.locks.spare + l.key-index;
  count : length l.locks.pairs ≤ length l.initial.locks.pairs + l.key-index;
  numbered : AreNumbered l.initial.locks.pairs → AreNumbered l.locks.pairs;
}
