-- What a replay of records answers.
use Rattle.std.specs.Prelude.{◌≡◌, ℕ, ◌<◌, true, false, List, length, take, reverse, slice_index_or}
use Rattle.score_base.specs.declared.ids.NodeId.{NodeId}
use Rattle.score_base.specs.declared.records.Record.{Record}
use Rattle.placement.specs.Clusters.{ClusterData}
use Rattle.journal_words.specs.Journals.{floor, fits, all_fit}
use Rattle.grid_store.specs.declared.replays.ReplayEnd.{ReplayEnd}
use Rattle.grid_store.specs.declared.replays.ReplayEnd.TheVariants.{Strange, Memory}
use Rattle.grid_store.specs.Given.{Given}

-- a store of these records, each of which fits those before it; its clock stands at the floor
pub record IsReplayed (c : ClusterData) (n : NodeId) (rs : List Record) (s : Given) : Type 0 where
  pub node : s.node ≡ n
  pub cluster : s.cluster ≡ c
  pub journal : s.journal ≡ reverse rs
  pub next : s.next ≡ floor (reverse rs)
  pub fit : all_fit c n (reverse rs) ≡ true

-- the record at place i is the first that does not fit those before it
pub record IsStrange (c : ClusterData) (n : NodeId) (rs : List Record) (i : ℕ) : Type 0 where
  pub inside : i < length rs
  pub before : all_fit c n (reverse (take i rs)) ≡ true
  pub strange : (d : Record) → fits c n (reverse (take i rs)) (slice_index_or rs i d) ≡ false

-- a replay ends early at the first such record, or for want of memory
abbrev pub IsEnd : ClusterData → NodeId → List Record → ReplayEnd → Type 0
IsEnd c n rs (Strange i) = IsStrange c n rs i
IsEnd c n rs Memory = Unit {0}
