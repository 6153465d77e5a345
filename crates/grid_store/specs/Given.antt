-- What contracts see of a store.
use Rattle.std.specs.Prelude.{◌≡◌, ℕ, ◌+◌, ◌≤◌, nat_le, Bool, true, List, [], ◌∷◌, length, Option, Some, None, is_some, if◌then◌else◌}
use Rattle.std.specs.List.{list_all, flat_map}
use Rattle.score_base.specs.declared.ids.Value.{Value}
use Rattle.score_base.specs.declared.keys.Key.{Key}
use Rattle.score_base.specs.Keys.{same_key}
use Rattle.score_base.specs.declared.ids.TxId.{TxId}
use Rattle.score_base.specs.declared.ids.NodeId.{NodeId}
use Rattle.score_base.specs.declared.ids.Ident.{Ident}
use Rattle.score_base.specs.declared.records.Record.{Record}
use Rattle.score_base.specs.declared.records.Record.TheVariants as record'
use Rattle.placement.specs.Clusters.{ClusterData}
use Rattle.script_lang.specs.Reads.{distinct_keys}
use Rattle.journal_words.specs.Participants.{Participant}
use Rattle.journal_words.specs.Journals as words

-- how many records may be admitted, how many keys they may lock, how many keys more may get a chain, and of
-- which keys that have one how many versions may be written
pub record Room : Type 0 where
  pub records : ℕ
  pub keys : ℕ
  pub fresh : ℕ
  pub versions : List (Key × ℕ)

-- a store: its node and cluster; the records that it was given, the newest first; its clock; its room
pub record Given : Type 0 where
  pub node : NodeId
  pub cluster : ClusterData
  pub journal : List Record
  pub next : Ident
  pub room : Room

-- the keys that a record locks
abbrev pub keys_for : Record → ℕ
keys_for (record'.Prepared t home parts sid p reads writes) = length reads + length writes
keys_for x = 0

-- what a record writes
abbrev pub writes_of : Record → List (Key × Value)
writes_of (record'.Prepared t home parts sid p reads writes) = writes
writes_of x = []

-- of how many versions of a key there is room, where the key has a chain
abbrev pub room_for : Key → List (Key × ℕ) → Option ℕ
room_for k [] = None
room_for k (x ∷ xs) = if same_key k x.0 then Some x.1 else room_for k xs

-- room for a version, where there is a chain
abbrev pub is_roomy : Option ℕ → Bool
is_roomy None = true
is_roomy (Some n) = nat_le 1 n

-- each of these keys that has a chain has room for a version
abbrev pub has_room_for : List (Key × Value) → List (Key × ℕ) → Bool
has_room_for writes versions = list_all (λ w. is_roomy (room_for w.0 versions)) writes

-- how many of these keys have no chain
abbrev pub new_keys : List (Key × Value) → List (Key × ℕ) → ℕ
new_keys [] versions = 0
new_keys (w ∷ ws) versions =
    if is_some (room_for w.0 versions) then new_keys ws versions else 1 + new_keys ws versions

-- there is room for a record
pub record HasRoom (x : Record) (room : Room) : Type 0 where
  pub one : 1 ≤ room.records
  pub locks : keys_for x ≤ room.keys
  pub chains : new_keys (writes_of x) room.versions ≤ room.fresh
  pub writes : has_room_for (writes_of x) room.versions ≡ true

-- all but the room is as before
pub record IsSame (old new : Given) : Type 0 where
  pub node : new.node ≡ old.node
  pub cluster : new.cluster ≡ old.cluster
  pub journal : new.journal ≡ old.journal
  pub next : new.next ≡ old.next

-- p is the least pending proposal
pub record IsLeastPending (r : List Record) (p : Ident) : Type 0 where
  pub pending : (t : TxId) × (words.pending t r ≡ Some p)
  pub least : (t : TxId) (q : Ident) → words.pending t r ≡ Some q → p ≤ q

-- those of these commits that wrote k
abbrev pub writers_among : List Record → Key → List (TxId × Ident) → List (TxId × Ident)
writers_among r k [] = []
writers_among r k (x ∷ xs) =
    if is_some (words.wrote_in (words.prepared_of x.0 r) k) then x ∷ writers_among r k xs else writers_among r k xs

-- how many applied commits wrote k
abbrev pub times_written : List Record → Key → ℕ
times_written r k = length (writers_among r k (words.applied r))

-- the keys of all writes of these records
abbrev pub all_keys : List Record → List Key
all_keys r = flat_map (λ x. words.keys_of_writes (writes_of x)) r

-- the distinct keys that these records write
abbrev pub keys_written : List Record → List Key
keys_written r = distinct_keys [] (all_keys r)

-- what a store knows as a participant
abbrev pub participant_in : Given → Participant
participant_in s = record { cluster = s.cluster; journal = s.journal; next = s.next }
