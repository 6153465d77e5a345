-- What ties the chains of a store's keys to the words over its records, the newest first.
use Rattle.std.specs.Prelude.{◌≡◌, ◌≢◌, ℕ, ◌≤◌, ◌<◌, ◌++◌, ◌&&◌, ◌==◌, Bool, true, false, List, [], ◌∷◌, Option, Some, None, is_some, map, reverse}
use Rattle.std.specs.List.{list_any}
use Rattle.std.specs.FinSet as set
use Rattle.score_base.specs.declared.ids.TxId.{TxId}
use Rattle.score_base.specs.declared.ids.NodeId.{NodeId}
use Rattle.score_base.specs.declared.ids.Ident.{Ident}
use Rattle.score_base.specs.declared.ids.Value.{Value}
use Rattle.score_base.specs.declared.causes.Outcome.{Outcome}
use Rattle.score_base.specs.declared.causes.Outcome.TheVariants as outcome
use Rattle.score_base.specs.declared.records.Record.{Record}
use Rattle.score_base.specs.declared.records.Record.TheVariants as record'
use Rattle.score_base.specs.declared.keys.Key.{Key}
use Rattle.placement.specs.Clusters.{ClusterData, init}
use Rattle.node_clock.specs.Clock.{Clock}
use Rattle.pending_queue.specs.Proposals.{Proposals}
use Rattle.stable_queue.specs.Commits.{Commits}
use Rattle.lock_table.specs.Keys.{Held}
use Rattle.version_chain.specs.Versions.{newest_in_chain}
use Rattle.version_chain.specs.Kept.{Kept, place_of, chain_at, versions_of, spare_in, spare_of, StartsBy}
use Rattle.journal_words.specs.Journals.{Prepared, prepared_of, ended, written_value, wrote_in, keys_of_writes, are_distinct_keys, are_apart, commit_id, all_fit}
use Rattle.script_lang.specs.Reads.{is_key_among}
use Rattle.grid_store.specs.Given.{all_keys}
use Rattle.grid_store.specs.Keeping.{KeepsPending, KeepsPlaces, KeepsOutcomes, KeepsOpen, KeepsClock, highest, KeepsStable, KeepsLocks, Settles, is_holding}

-- the version (f, v) is among these
abbrev pub has_version : Ident → Value → List (ℕ × ℕ) → Bool
has_version f v vs = list_any (λ x. x.0 == f && x.1 == v) vs

-- t wrote v to k, and its commit at f does not wait
pub record IsWritten (commits : Commits) (r : List Record) (k : Key) (t : TxId) (f : Ident) (v : Value) : Type 0 where
  pub committed : ended t r ≡ Some (outcome.Commit f)
  pub out : set.contains commits (f, t) ≡ false
  pub wrote : wrote_in (prepared_of t r) k ≡ Some v

-- the chain of each key has what the commits wrote that do not wait, and nothing else
pub record KeepsChains (commits : Commits) (kept : Kept) (r : List Record) : Type 0 where
  pub known : (k : Key) (f : Ident) (v : Value) → has_version f v (versions_of k kept) ≡ true
      → (t : TxId) × IsWritten commits r k t f v
  pub has : (k : Key) (t : TxId) (f : Ident) (v : Value) → IsWritten commits r k t f v
      → has_version f v (versions_of k kept) ≡ true

-- the keys that have a chain are those that the records write
abbrev pub KeepsKeys : List (Key × ℕ) → List Record → Type 0
KeepsKeys places r = (k : Key) → is_some (place_of k places) ≡ is_key_among k (all_keys r)

-- a version of k with an identifier from p on can be put
pub record CanPut (k : Key) (p : Ident) (kept : Kept) : Type 0 where
  pub room : 1 ≤ spare_of k kept
  pub above : newest_in_chain (versions_of k kept) < p

-- what this Prepared writes can be put from its proposal on
abbrev pub CanWrite : Prepared → Kept → Type 0
CanWrite x kept = (k : Key) (v : Value) → written_value k x.writes ≡ Some v → CanPut k x.proposal kept

-- what who is pending or waits wrote can be put
abbrev pub HasPlaces : Commits → Kept → List Record → Type 0
HasPlaces commits kept r = (u : TxId) (x : Prepared) → is_holding commits u r ≡ true
    → prepared_of u r ≡ Some x → CanWrite x kept

-- two who are pending or wait share no key that one of them writes
abbrev pub AreApart : Commits → List Record → Type 0
AreApart commits r = (t u : TxId) → t ≢ u → is_holding commits t r ≡ true → is_holding commits u r ≡ true
    → are_apart (prepared_of t r) (prepared_of u r) ≡ true

-- what waits behind a record
abbrev pub waits_behind : Commits → Record → Commits
waits_behind commits (record'.Ended t (outcome.Commit f)) = set.insert commits (f, t)
waits_behind commits x = commits

-- ---- what a commit puts

-- the version that is put where this is written
abbrev pub version_for : Ident → Option Value → List (ℕ × ℕ)
version_for f None = []
version_for f (Some v) = (f, v) ∷ []

-- what these writes put at f
pub record IsPut (writes : List (Key × Value)) (f : Ident) (old new : Kept) : Type 0 where
  pub versions : (k : Key) → versions_of k new ≡ versions_of k old ++ version_for f (written_value k writes)
  pub room : (k : Key) → written_value k writes ≡ None → spare_of k old ≤ spare_of k new
  pub places : new.places ≡ old.places
  pub initial : (init : Key → Value) → StartsBy init old → StartsBy init new

-- distinct keys are written, and each version can be put
pub record CanPutAll (writes : List (Key × Value)) (f : Ident) (kept : Kept) : Type 0 where
  pub distinct : are_distinct_keys (keys_of_writes writes) ≡ true
  pub each : (k : Key) (v : Value) → written_value k writes ≡ Some v → CanPut k f kept

-- the writes of a Prepared, where there is one
abbrev pub writes_in : Option Prepared → List (Key × Value)
writes_in None = []
writes_in (Some x) = x.writes

-- the same versions, and at least the room
pub record IsWider (old new : Kept) : Type 0 where
  pub versions : (k : Key) → versions_of k new ≡ versions_of k old
  pub room : (k : Key) → spare_of k old ≤ spare_of k new

-- a key that has a chain has room for a version
abbrev pub HasPlaceRoom : Key → Kept → Type 0
HasPlaceRoom k kept = is_some (place_of k kept.places) ≡ true → 1 ≤ spare_of k kept

-- there is room for a version of each key that a record writes
abbrev pub HasWriteRoom : Record → Kept → Type 0
HasWriteRoom (record'.Prepared t home parts sid p reads writes) kept =
    (k : Key) (v : Value) → written_value k writes ≡ Some v → 1 ≤ spare_of k kept
HasWriteRoom x kept = Unit {0}

-- ---- what stands while commits are applied one by one

pub record Applies (c : ClusterData) (n : NodeId) (rs : List Record) (places : List (TxId × ℕ))
    (proposals : Proposals) (commits : Commits) (held : Held) (top : Ident) (kept : Kept) : Type 0 where
  pub fit : all_fit c n (reverse rs) ≡ true
  pub placed : KeepsPlaces places rs
  pub queue : KeepsPending proposals (reverse rs)
  pub settles : Settles commits held top (reverse rs)
  pub versions : KeepsChains commits kept (reverse rs)
  pub open' : HasPlaces commits kept (reverse rs)
  pub apart : AreApart commits (reverse rs)

-- each key that has a chain, and of how many versions of it there is room
abbrev pub versions_room : Kept → List (Key × ℕ)
versions_room kept = map (λ x. (x.0, spare_in (chain_at kept.chains (Some x.1)))) kept.places

-- ---- all of them

-- each record fits those before it, and each keeper answers for them; here the oldest record is the first
pub record Keeps (c : ClusterData) (n : NodeId) (rs : List Record) (places : List (TxId × ℕ))
    (outcomes : List (TxId × Outcome)) (opened : List (TxId × Unit {0})) (proposals : Proposals)
    (clock : Clock) (most : Ident) (commits : Commits) (top : Ident) (held : Held)
    (kept : Kept) : Type 0 where
  pub fit : all_fit c n (reverse rs) ≡ true
  pub placed : KeepsPlaces places rs
  pub over : KeepsOutcomes outcomes (reverse rs)
  pub undone : KeepsOpen opened (reverse rs)
  pub queue : KeepsPending proposals (reverse rs)
  pub numbers : KeepsClock clock (reverse rs)
  pub high : most ≡ highest (reverse rs)
  pub stable : KeepsStable commits (reverse rs)
  pub applied : top ≡ commit_id (reverse rs)
  pub locks : KeepsLocks held (reverse rs)
  pub versions : KeepsChains commits kept (reverse rs)
  pub open' : HasPlaces commits kept (reverse rs)
  pub keys : KeepsKeys kept.places (reverse rs)
  pub start : StartsBy (init c) kept
