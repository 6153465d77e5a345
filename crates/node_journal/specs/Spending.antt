-- What calls do to the numbers of a disk, in one word over the disk before and behind them.
use Rattle.std.specs.Prelude.{◌≡◌, ◌≢◌, ◌⊎◌, ℕ, ◌<◌, ◌≤◌, Some, Result, OnOk, OnErr}
use Rattle.score_base.specs.Faults.{Rose}
use Rattle.score_disk.specs.declared.disk.Disk.{Ghosts}
use Rattle.node_journal.specs.Calls.{lowered, LoweredAtMost}

-- Every call went through: so many that a fuse counts, none of them stopped.
pub record Spent {D : Type 0} (d : Ghosts D) (calls : ℕ) (old now : D) : Type 0 where
  pub tells : d.tells now ≡ d.tells old
  pub left : d.left now ≡ lowered calls (d.left old)
  pub unstopped : d.left now ≢ Some 0
  pub own : d.own now ≡ d.own old
  pub faults : d.faults now ≡ d.faults old

-- A call failed: the count rose, by a fault of the disk's own or where the fuse stopped a call, and at most so many
-- calls
-- were counted.
pub record Halted {D : Type 0} (d : Ghosts D) (most : ℕ) (old now : D) : Type 0 where
  pub tells : d.tells now ≡ d.tells old
  pub left : LoweredAtMost most (d.left old) (d.left now)
  pub own : d.own old ≤ d.own now
  pub faults : d.faults old ≤ d.faults now
  pub rose : Rose (d.faults old) (d.faults now)
  pub cause : Rose (d.own old) (d.own now) ⊎ (d.left now ≡ Some 0)
  pub rises : d.faults old < d.faults now → (d.own old < d.own now) ⊎ (d.left now ≡ Some 0)

-- so many calls that a fuse counts, of which one may fail
pub record Spends {D T E : Type 0} (d : Ghosts D) (calls : ℕ) (old now : D) (result : Result T E) : Type 0 where
  pub ok : OnOk result (Spent d calls old now)
  pub err : OnErr result (Halted d calls old now)

-- no write, cut or sync was made, and no call failed
pub record Untouched {D : Type 0} (d : Ghosts D) (old now : D) : Type 0 where
  pub tells : d.tells now ≡ d.tells old
  pub file : d.file now ≡ d.file old
  pub left : d.left now ≡ d.left old
  pub own : d.own now ≡ d.own old
  pub faults : d.faults now ≡ d.faults old

-- nothing was written, or a log was made anew with two calls
abbrev pub Opened : {D : Type 0} → Ghosts D → D → D → Type 0
Opened d old now = Untouched d old now ⊎ Spent d 2 old now

-- only reads were made, of which one may have failed
pub record Looked {D T E : Type 0} (d : Ghosts D) (old now : D) (result : Result T E) : Type 0 where
  pub tells : d.tells now ≡ d.tells old
  pub file : d.file now ≡ d.file old
  pub ok : OnOk result (Untouched d old now)
  pub err : OnErr result (Halted d 0 old now)
