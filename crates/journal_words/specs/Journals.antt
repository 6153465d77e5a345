-- The words over one journal: the records of one node, the newest first. A list of records in the order
-- of time becomes such a journal by `reverse`.
use Rattle.std.specs.Prelude.{ℕ, ◌+◌, ◌%◌, max, Bool, true, false, ◌&&◌, ◌||◌, ◌==◌, not, nat_lt, nat_le, map, List, [], ◌∷◌, length, Option, Some, None, is_some, is_none, if◌then◌else◌}
use Rattle.std.specs.List.{list_all}
use Rattle.score_base.specs.declared.ids.TxId.{TxId}
use Rattle.score_base.specs.declared.ids.NodeId.{NodeId}
use Rattle.score_base.specs.declared.ids.Ident.{Ident}
use Rattle.score_base.specs.declared.ids.Value.{Value}
use Rattle.score_base.specs.declared.keys.Key.{Key}
use Rattle.score_base.specs.declared.causes.Outcome.{Outcome}
use Rattle.score_base.specs.declared.causes.Outcome.TheVariants as outcome
use Rattle.score_base.specs.declared.records.Record.{Record}
use Rattle.score_base.specs.declared.records.Record.TheVariants as record'
use Rattle.score_base.specs.Keys.{same_key}
use Rattle.script_lang.specs.Reads.{is_key_among}
use Rattle.placement.specs.Places.{is_among, holds}
use Rattle.placement.specs.Clusters.{ClusterData}
use Rattle.journal_words.specs.declared.versions.Version.{Version}

-- ---- what was prepared

-- what a Prepared says beside its transaction
pub record Prepared : Type 0 where
  pub home : NodeId
  pub sid : Ident
  pub proposal : Ident
  pub reads : List Key
  pub writes : List (Key × Value)

-- the older of two Prepared of one transaction
abbrev pub older : Option Prepared → Prepared → Option Prepared
older (Some first) this = Some first
older None this = Some this

-- the first Prepared of t
abbrev pub prepared_of : TxId → List Record → Option Prepared
prepared_of t [] = None
prepared_of t (record'.Prepared u home parts sid p reads writes ∷ r) =
    if u == t
    then older (prepared_of t r) (record { home = home; sid = sid; proposal = p; reads = reads; writes = writes })
    else prepared_of t r
prepared_of t (x ∷ r) = prepared_of t r

-- the home that an option of a Prepared names
abbrev pub home_in : Option Prepared → Option NodeId
home_in None = None
home_in (Some x) = Some x.home

-- the home of t by its Prepared
abbrev pub home_of : TxId → List Record → Option NodeId
home_of t r = home_in (prepared_of t r)

-- the transactions that have a Prepared
abbrev pub prepared_all : List Record → List TxId
prepared_all [] = []
prepared_all (record'.Prepared u home parts sid p reads writes ∷ r) = u ∷ prepared_all r
prepared_all (x ∷ r) = prepared_all r

-- ---- pending

-- the proposal of the newest Prepared of t behind which no Ended of t stands
abbrev pub pending : TxId → List Record → Option Ident
pending t [] = None
pending t (record'.Prepared u home parts sid p reads writes ∷ r) = if u == t then Some p else pending t r
pending t (record'.Ended u o ∷ r) = if u == t then None else pending t r
pending t (x ∷ r) = pending t r

-- the newest Prepared of t has m among its parts
abbrev pub names_part : TxId → NodeId → List Record → Bool
names_part t m [] = false
names_part t m (record'.Prepared u home parts sid p reads writes ∷ r) =
    if u == t then is_among m parts else names_part t m r
names_part t m (x ∷ r) = names_part t m r

-- the pairs but for those of t
abbrev pub without : TxId → List (TxId × Ident) → List (TxId × Ident)
without t [] = []
without t (x ∷ xs) = if x.0 == t then without t xs else x ∷ without t xs

-- each Prepared behind which no Ended of its transaction stands: the transaction and the proposal
abbrev pub pendings : List Record → List (TxId × Ident)
pendings [] = []
pendings (record'.Prepared u home parts sid p reads writes ∷ r) = (u, p) ∷ pendings r
pendings (record'.Ended u o ∷ r) = without u (pendings r)
pendings (x ∷ r) = pendings r

-- each of these identifiers is above s
abbrev pub all_above : Ident → List (TxId × Ident) → Bool
all_above s [] = true
all_above s (x ∷ xs) = nat_lt s x.1 && all_above s xs

-- no pending proposal is at most s
abbrev pub is_clear : Ident → List Record → Bool
is_clear s r = all_above s (pendings r)

-- ---- ended, applied

-- the outcome of the newest Ended of t
abbrev pub ended : TxId → List Record → Option Outcome
ended t [] = None
ended t (record'.Ended u o ∷ r) = if u == t then Some o else ended t r
ended t (x ∷ r) = ended t r

-- the outcome is a commit
abbrev pub is_commit : Option Outcome → Bool
is_commit (Some (outcome.Commit f)) = true
is_commit (Some outcome.Abort) = false
is_commit None = false

-- each Ended with commit: the transaction and its final identifier
abbrev pub commits : List Record → List (TxId × Ident)
commits [] = []
commits (record'.Ended u (outcome.Commit f) ∷ r) = (u, f) ∷ commits r
commits (x ∷ r) = commits r

-- those of the commits above which every pending proposal is
abbrev pub applied_of : List Record → List (TxId × Ident) → List (TxId × Ident)
applied_of r [] = []
applied_of r (x ∷ xs) = if is_clear x.1 r then x ∷ applied_of r xs else applied_of r xs

-- the commits that are applied: every pending proposal is above them
abbrev pub applied : List Record → List (TxId × Ident)
applied r = applied_of r (commits r)

-- the greatest of these identifiers, or 0
abbrev pub greatest : List (TxId × Ident) → Ident
greatest [] = 0
greatest (x ∷ xs) = max x.1 (greatest xs)

-- the commit identifier: the greatest final identifier that is applied, or 0
abbrev pub commit_id : List Record → Ident
commit_id r = greatest (applied r)

-- ---- the clock

-- the greatest proposal, final identifier and ceiling, or 0
abbrev pub floor : List Record → Ident
floor [] = 0
floor (record'.Prepared u home parts sid p reads writes ∷ r) = max p (floor r)
floor (record'.Ended u (outcome.Commit f) ∷ r) = max f (floor r)
floor (record'.Ceiling c ∷ r) = max c (floor r)
floor (x ∷ r) = floor r

-- the clock's next number behind a record: at least its proposal, or its final identifier
abbrev pub learnt : Option Record → Ident → Ident
learnt (Some (record'.Prepared t home parts sid p reads writes)) next = max p next
learnt (Some (record'.Ended t (outcome.Commit f))) next = max f next
learnt o next = next

-- ---- versions

-- the value of the first write of k
abbrev pub written_value : Key → List (Key × Value) → Option Value
written_value k [] = None
written_value k (x ∷ xs) = if same_key x.0 k then Some x.1 else written_value k xs

-- what a Prepared writes to k, where there is one
abbrev pub wrote_in : Option Prepared → Key → Option Value
wrote_in None k = None
wrote_in (Some x) k = written_value k x.writes

-- the pair of a final identifier and a transaction comes behind that of the version
abbrev pub is_behind : Ident → TxId → Version → Bool
is_behind f u v = nat_lt v.ident f || (v.ident == f && nat_lt v.of u)

-- the later of a version and of what a commit wrote
abbrev pub later : Ident → TxId → Option Value → Version → Version
later f u None best = best
later f u (Some v) best = if is_behind f u best then record { ident = f; of = u; value = v } else best

-- the version of k with the greatest pair among these commits, or the initial one
abbrev pub best : List Record → Key → Value → List (TxId × Ident) → Version
best r k start [] = record { ident = 0; of = 0; value = start }
best r k start (x ∷ xs) = later x.1 x.0 (wrote_in (prepared_of x.0 r) k) (best r k start xs)

-- those with an identifier of at most s
abbrev pub up_to : Ident → List (TxId × Ident) → List (TxId × Ident)
up_to s [] = []
up_to s (x ∷ xs) = if nat_le x.1 s then x ∷ up_to s xs else up_to s xs

-- the applied version of k with the greatest identifier at most s, or the initial one
abbrev pub version_at : List Record → Key → Value → Ident → Version
version_at r k start s = best r k start (up_to s (applied r))

-- the newest applied version of k, or the initial one
abbrev pub newest_version : List Record → Key → Value → Version
newest_version r k start = best r k start (applied r)

-- the identifier of the newest applied version of k, or 0
abbrev pub newest : List Record → Key → Ident
newest r k = (newest_version r k 0).ident

-- ---- conflicts

-- the keys of these writes
abbrev pub keys_of_writes : List (Key × Value) → List Key
keys_of_writes xs = map (λ x. x.0) xs

-- a key of the first list is in the second
abbrev pub shares : List Key → List Key → Bool
shares [] ks = false
shares (x ∷ xs) ks = is_key_among x ks || shares xs ks

-- the two transactions have a key in common that at least one of them writes
abbrev pub conflict : List Key → List (Key × Value) → List Key → List (Key × Value) → Bool
conflict reads writes reads' writes' =
    shares (keys_of_writes writes) reads'
    || (shares (keys_of_writes writes) (keys_of_writes writes') || shares reads (keys_of_writes writes'))

-- a Prepared, where there is one, conflicts with these reads and writes
abbrev pub conflicts_with : Option Prepared → List Key → List (Key × Value) → Bool
conflicts_with None reads writes = false
conflicts_with (Some x) reads writes = conflict x.reads x.writes reads writes

-- two Prepared share no key that one of them writes
abbrev pub are_apart : Option Prepared → Option Prepared → Bool
are_apart None y = true
are_apart (Some x) y = not (conflicts_with y x.reads x.writes)

-- the outcome is a commit that is not applied
abbrev pub is_unapplied : Option Outcome → List Record → Bool
is_unapplied (Some (outcome.Commit f)) r = not (is_clear f r)
is_unapplied (Some outcome.Abort) r = false
is_unapplied None r = false

-- u is pending, or ended with commit and not applied
abbrev pub is_locking : TxId → List Record → Bool
is_locking u r = is_some (pending u r) || is_unapplied (ended u r) r

-- the lesser of a number and of another, where there is one
abbrev pub lesser : TxId → Option TxId → Option TxId
lesser u None = Some u
lesser u (Some v) = if nat_lt u v then Some u else Some v

-- u is another transaction than t, locks its keys, and conflicts with these reads and writes
abbrev pub holds_out : TxId → List Record → TxId → List Key → List (Key × Value) → Bool
holds_out u r t reads writes = not (u == t) && (is_locking u r && conflicts_with (prepared_of u r) reads writes)

-- the least of these transactions that holds a key against t
abbrev pub holder_among : List TxId → List Record → TxId → List Key → List (Key × Value) → Option TxId
holder_among [] r t reads writes = None
holder_among (u ∷ us) r t reads writes =
    if holds_out u r t reads writes then lesser u (holder_among us r t reads writes)
    else holder_among us r t reads writes

-- the least transaction other than t that locks a key with which these reads and writes conflict
abbrev pub holder : List Record → TxId → List Key → List (Key × Value) → Option TxId
holder r t reads writes = holder_among (prepared_all r) r t reads writes

-- the first of these keys whose newest version is above sid, and that version's identifier
abbrev pub newer : List Record → List Key → Ident → Option (Key × Ident)
newer r [] sid = None
newer r (k ∷ ks) sid = if nat_lt sid (newest r k) then Some (k, newest r k) else newer r ks sid

-- ---- decided

-- what a Decided says beside its transaction
pub record Decision : Type 0 where
  pub final : Ident
  pub parts : List NodeId

-- the last Decided of t
abbrev pub decision : TxId → List Record → Option Decision
decision t [] = None
decision t (record'.Decided u f parts ∷ r) = if u == t then Some (record { final = f; parts = parts }) else decision t r
decision t (x ∷ r) = decision t r

-- t has a Closed behind which no Decided of t stands
abbrev pub is_closed : TxId → List Record → Bool
is_closed t [] = false
is_closed t (record'.Closed u ∷ r) = (u == t) || is_closed t r
is_closed t (record'.Decided u f parts ∷ r) = if u == t then false else is_closed t r
is_closed t (x ∷ r) = is_closed t r

-- the last Decided of t, where no Closed of t stands behind it
abbrev pub undone : TxId → List Record → Option Decision
undone t r = if is_closed t r then None else decision t r

-- how many Decided of t there are
abbrev pub times_decided : TxId → List Record → ℕ
times_decided t [] = 0
times_decided t (record'.Decided u f parts ∷ r) = if u == t then times_decided t r + 1 else times_decided t r
times_decided t (x ∷ r) = times_decided t r

-- the last Decided of t, where there are more than k of them
abbrev pub later_decision : ℕ → TxId → List Record → Option Decision
later_decision k t r = if nat_lt k (times_decided t r) then decision t r else None

-- how many Decided of t are over: all of them, but none where the last is not closed
abbrev pub times_over : TxId → List Record → ℕ
times_over t r = if is_some (undone t r) then 0 else times_decided t r

-- ---- which records fit

-- p is above every proposal and every final identifier
abbrev pub is_above : Ident → List Record → Bool
is_above p [] = true
is_above p (record'.Prepared u home parts sid q reads writes ∷ r) = nat_lt q p && is_above p r
is_above p (record'.Ended u (outcome.Commit f) ∷ r) = nat_lt f p && is_above p r
is_above p (x ∷ r) = is_above p r

-- no key stands twice
abbrev pub are_distinct_keys : List Key → Bool
are_distinct_keys [] = true
are_distinct_keys (k ∷ ks) = not (is_key_among k ks) && are_distinct_keys ks

-- distinct keys that node n holds
abbrev pub are_own_keys : ClusterData → NodeId → List Key → Bool
are_own_keys c n ks = are_distinct_keys ks && list_all (holds c.places n) ks

-- at least one key, and each list has distinct keys that n holds
abbrev pub are_lists : ClusterData → NodeId → List Key → List (Key × Value) → Bool
are_lists c n reads writes =
    nat_le 1 (length reads + length writes) && (are_own_keys c n reads && are_own_keys c n (keys_of_writes writes))

-- t has no Prepared yet, its proposal is new, it has keys of n, and nothing holds them or is newer
abbrev pub fits_prepared : ClusterData → NodeId → List Record → TxId → List NodeId → Ident → Ident → List Key
    → List (Key × Value) → Bool
fits_prepared c n r t parts sid p reads writes =
    is_none (prepared_of t r)
    && (nat_lt sid p && (is_above p r && (is_among n parts
    && (are_lists c n reads writes
    && (is_none (holder r t reads writes) && is_none (newer r reads sid))))))

-- the final identifier is at least the proposal
abbrev pub fits_outcome : Option Ident → Outcome → Bool
fits_outcome None o = false
fits_outcome (Some p) (outcome.Commit f) = nat_le p f
fits_outcome (Some p) outcome.Abort = true

-- a record of node n fits those before it
abbrev pub fits : ClusterData → NodeId → List Record → Record → Bool
fits c n r (record'.Prepared t home parts sid p reads writes) = fits_prepared c n r t parts sid p reads writes
fits c n r (record'.Ended t o) = fits_outcome (pending t r) o
fits c n r (record'.Ceiling d) = (d % 64 == 0) && nat_lt (floor r) d
fits c n r (record'.Decided t f parts) = is_none (undone t r) && nat_le 1 f
fits c n r (record'.Closed t) = is_some (undone t r)

-- each record of node n fits those before it
abbrev pub all_fit : ClusterData → NodeId → List Record → Bool
all_fit c n [] = true
all_fit c n (x ∷ r) = fits c n r x && all_fit c n r

-- ---- which records stand

-- a Prepared of t with the proposal p stands in these records
abbrev pub has_prepared : TxId → Ident → List Record → Bool
has_prepared t p [] = false
has_prepared t p (record'.Prepared u home parts sid q reads writes ∷ r) = (u == t && q == p) || has_prepared t p r
has_prepared t p (x ∷ r) = has_prepared t p r

-- a Decided of t with the final identifier f stands
abbrev pub has_decided : TxId → Ident → List Record → Bool
has_decided t f [] = false
has_decided t f (record'.Decided u e parts ∷ r) = (u == t && e == f) || has_decided t f r
has_decided t f (x ∷ r) = has_decided t f r

-- an Ended of t with commit stands
abbrev pub has_commit : TxId → List Record → Bool
has_commit t [] = false
has_commit t (record'.Ended u (outcome.Commit f) ∷ r) = (u == t) || has_commit t r
has_commit t (x ∷ r) = has_commit t r
