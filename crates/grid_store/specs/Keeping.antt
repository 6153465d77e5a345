-- What ties a store's keepers to the words over the records that it was given, the newest first.
use Rattle.std.specs.Prelude.{◌≡◌, ◌≢◌, ◌⊎◌, ℕ, ◌+◌, ◌≤◌, ◌<◌, ◌==◌, max, Bool, true, false, not, ◌&&◌, ◌||◌, IsTrue, List, [], ◌∷◌, length, reverse, slice_index_or, Option, Some, None, is_some}
use Rattle.std.specs.Ordering.{nat_cmp}
use Rattle.std.specs.FinMap as map
use Rattle.std.specs.FinSet as set
use Rattle.score_base.specs.declared.ids.TxId.{TxId}
use Rattle.score_base.specs.declared.ids.NodeId.{NodeId}
use Rattle.score_base.specs.declared.ids.Ident.{Ident}
use Rattle.score_base.specs.declared.causes.Outcome.{Outcome}
use Rattle.score_base.specs.declared.causes.Outcome.TheVariants as outcome
use Rattle.score_base.specs.declared.records.Record.{Record}
use Rattle.score_base.specs.declared.records.Record.TheVariants as record'
use Rattle.score_base.specs.declared.keys.Key.{Key}
use Rattle.score_base.specs.Tables.{Table}
use Rattle.placement.specs.Places.{is_among}
use Rattle.node_clock.specs.Clock.{Clock}
use Rattle.pending_queue.specs.Proposals.{Proposals, Queue}
use Rattle.stable_queue.specs.Commits.{Commits}
use Rattle.stable_queue.specs.Commits as stable_queue
use Rattle.lock_table.specs.Keys.{Held, holds_lock, writes_key, is_read, is_written, Conflicts}
use Rattle.journal_words.specs.Journals.{Prepared, prepared_of, pending, names_part, ended, floor, is_above, is_clear, is_locking, undone}

-- the queue has the proposal of each pending transaction
abbrev pub KeepsPending : Proposals → List Record → Type 0
KeepsPending proposals r = (t : TxId) → map.get proposals t ≡ pending t r

-- a Prepared is of a transaction that is not in the queue, and there is a place for it
abbrev pub CanPend : Queue → Record → Type 0
CanPend queue (record'.Prepared t home parts sid p reads writes) =
    (map.get queue.proposals t ≡ None) × (1 ≤ queue.spare)
CanPend queue x = Unit {0}

-- the clock has the floor, and its next proposal is above every proposal and every final identifier
pub record KeepsClock (clock : Clock) (r : List Record) : Type 0 where
  pub floor : clock.floor ≡ floor r
  pub above : is_above (1 + clock.next) r ≡ true

-- the greatest proposal and final identifier, or 0
abbrev pub highest : List Record → Ident
highest [] = 0
highest (record'.Prepared t home parts sid p reads writes ∷ r) = max p (highest r)
highest (record'.Ended t (outcome.Commit f) ∷ r) = max f (highest r)
highest (x ∷ r) = highest r

-- a Prepared, where there is one, names a key
abbrev pub names : Option Prepared → Key → Bool
names None k = false
names (Some x) k = is_read x.reads k || is_written x.writes k

-- it writes a key
abbrev pub writes_to : Option Prepared → Key → Bool
writes_to None k = false
writes_to (Some x) k = is_written x.writes k

-- each transaction that locks holds the keys of its Prepared, and no other holds any
pub record KeepsLocks (held : Held) (r : List Record) : Type 0 where
  pub keys : (u : TxId) (k : Key) → holds_lock held u k ≡ (is_locking u r && names (prepared_of u r) k)
  pub written : (u : TxId) (k : Key) → writes_key held u k ≡ (is_locking u r && writes_to (prepared_of u r) k)

-- ---- commits that wait

-- f is the final identifier of a commit
abbrev pub is_final : Ident → Option Outcome → Bool
is_final f None = false
is_final f (Some outcome.Abort) = false
is_final f (Some (outcome.Commit g)) = g == f

-- each commit that is not applied waits, and nothing else does
abbrev pub KeepsStable : Commits → List Record → Type 0
KeepsStable commits r =
    (f : Ident) (t : TxId) → set.contains commits (f, t) ≡ (is_final f (ended t r) && not (is_clear f r))

-- a commit of a record does not wait yet, and there is room for it
abbrev pub CanWait : stable_queue.Queue → Record → Type 0
CanWait stable (record'.Ended t (outcome.Commit f)) =
    (¬ IsTrue (set.contains stable.commits (f, t))) × (1 ≤ stable.spare)
CanWait stable x = Unit {0}

-- the outcome is a commit that waits
abbrev pub is_waiting : Commits → TxId → Option Outcome → Bool
is_waiting commits u None = false
is_waiting commits u (Some outcome.Abort) = false
is_waiting commits u (Some (outcome.Commit f)) = set.contains commits (f, u)

-- u is pending, or its commit waits
abbrev pub is_holding : Commits → TxId → List Record → Bool
is_holding commits u r = is_some (pending u r) || is_waiting commits u (ended u r)

-- top is the greatest final identifier of the commits that do not wait, or 0
pub record KeepsApplied (commits : Commits) (top : Ident) (r : List Record) : Type 0 where
  pub most : (f : Ident) (t : TxId) → ended t r ≡ Some (outcome.Commit f)
      → set.contains commits (f, t) ≡ false → f ≤ top
  pub one : (top ≡ 0)
      ⊎ ((t : TxId) × (ended t r ≡ Some (outcome.Commit top)) × (set.contains commits (top, t) ≡ false))

-- what stands while applied commits are taken out one by one: what waits is a commit, each commit that
-- is not applied waits, and who is pending or waits holds the keys of its Prepared
pub record Settles (commits : Commits) (held : Held) (top : Ident) (r : List Record) : Type 0 where
  pub applied : KeepsApplied commits top r
  pub known : (f : Ident) (t : TxId) → set.contains commits (f, t) ≡ true → ended t r ≡ Some (outcome.Commit f)
  pub waits : (f : Ident) (t : TxId) → ended t r ≡ Some (outcome.Commit f)
      → is_clear f r ≡ false → set.contains commits (f, t) ≡ true
  pub keys : (u : TxId) (k : Key) → holds_lock held u k ≡ (is_holding commits u r && names (prepared_of u r) k)
  pub written : (u : TxId) (k : Key)
      → writes_key held u k ≡ (is_holding commits u r && writes_to (prepared_of u r) k)

-- a Prepared can take its locks: nobody else conflicts with it, it holds nothing, and there is room
abbrev pub CanTake : Held → Record → Type 0
CanTake held (record'.Prepared t home parts sid p reads writes) =
    ((u : ℕ) → u ≢ t → ¬ Conflicts held reads writes u)
    × ((k : List ℕ) → ¬ IsTrue (holds_lock held t k))
    × (length reads + length writes ≤ held.spare)
CanTake held x = Unit {0}

-- ---- by transaction

-- what a record says, where it is a Prepared
abbrev pub said_by : Record → Option Prepared
said_by (record'.Prepared t home parts sid p reads writes) =
    Some (record { home = home; sid = sid; proposal = p; reads = reads; writes = writes })
said_by x = None

-- what the record at a place says, where there is a place; here the oldest record is the first
abbrev pub said_at : List Record → Option ℕ → Option Prepared
said_at rs None = None
said_at rs (Some i) = said_by (slice_index_or rs i (record'.Ceiling 0))

-- m is among the parts of a record, where it is a Prepared
abbrev pub has_part : NodeId → Record → Bool
has_part m (record'.Prepared t home parts sid p reads writes) = is_among m parts
has_part m x = false

-- m is among the parts of the record at a place, where there is a place
abbrev pub has_part_at : NodeId → List Record → Option ℕ → Bool
has_part_at m rs None = false
has_part_at m rs (Some i) = has_part m (slice_index_or rs i (record'.Ceiling 0))

-- the table has the place of the Prepared of each transaction
pub record KeepsPlaces (places : List (TxId × ℕ)) (rs : List Record) : Type 0 where
  pub inside : (t : TxId) (i : ℕ) → map.find nat_cmp t places ≡ Some i → i < length rs
  pub known : (t : TxId) → is_some (map.find nat_cmp t places) ≡ is_some (prepared_of t (reverse rs))
  pub said : (t : TxId) → said_at rs (map.find nat_cmp t places) ≡ prepared_of t (reverse rs)
  pub part : (t : TxId) (m : NodeId) → has_part_at m rs (map.find nat_cmp t places) ≡ names_part t m (reverse rs)

-- a Prepared is of a transaction that has no place, and there is room for one
abbrev pub CanPlace : Table TxId ℕ → Record → Type 0
CanPlace places (record'.Prepared t home parts sid p reads writes) =
    (map.find nat_cmp t places.pairs ≡ None) × (1 ≤ places.spare)
CanPlace places x = Unit {0}

-- the table has how each transaction ended
abbrev pub KeepsOutcomes : List (TxId × Outcome) → List Record → Type 0
KeepsOutcomes outcomes r = (t : TxId) → map.find nat_cmp t outcomes ≡ ended t r

-- an Ended is of a transaction that has no outcome, and there is room for one
abbrev pub CanEnd : Table TxId Outcome → Record → Type 0
CanEnd outcomes (record'.Ended t o) = (map.find nat_cmp t outcomes.pairs ≡ None) × (1 ≤ outcomes.spare)
CanEnd outcomes x = Unit {0}

-- the table has each transaction that is decided and not closed
abbrev pub KeepsOpen : List (TxId × Unit {0}) → List Record → Type 0
KeepsOpen open' r = (t : TxId) → is_some (map.find nat_cmp t open') ≡ is_some (undone t r)

-- a Decided is of a transaction that is not open, and there is room for one
abbrev pub CanOpen : Table TxId (Unit {0}) → Record → Type 0
CanOpen open' (record'.Decided t f parts) = (map.find nat_cmp t open'.pairs ≡ None) × (1 ≤ open'.spare)
CanOpen open' x = Unit {0}
