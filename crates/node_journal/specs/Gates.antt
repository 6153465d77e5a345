-- What a reading of the log meets at a gate, and how it ends.
use Rattle.std.specs.Prelude.{◌≡◌, ◌≢◌, ℕ, ◌+◌, ◌<◌, List, drop, slice_index, Some, None, Result, Ok, Err}
use Rattle.node_journal.specs.declared.reading.Gate.{Gate}
use Rattle.node_journal.specs.declared.reading.Gate.TheVariants.{Closed, Open}
use Rattle.node_journal.specs.declared.reading.ReadEnd.{ReadEnd}
use Rattle.node_journal.specs.declared.reading.ReadEnd.TheVariants.{Failed, Bad, Memory}
use Rattle.journal_records.specs.Records.{IsRecord}
use Rattle.node_journal.specs.Log.{block_at}

-- at the first of these bytes stands this gate
abbrev pub IsGate : List ℕ → Gate → Type 0
IsGate bytes Closed = slice_index bytes 0 ≢ 1
IsGate bytes (Open record' size) = (slice_index bytes 0 ≡ 1) × (block_at (drop 1 bytes) ≡ Some (record', size))

-- the record behind an open gate is one
abbrev pub HoldsRecord : Gate → Type 0
HoldsRecord Closed = Unit {0}
HoldsRecord (Open record' size) = IsRecord record'

-- the next gate stands below this length
abbrev pub IsNextWithin : Gate → ℕ → Type 0
IsNextWithin Closed long = Unit {0}
IsNextWithin (Open record' size) long = 1 + size < long

-- at the first of these bytes stands an open gate that no block follows
pub record IsFault (bytes : List ℕ) : Type 0 where
  pub gate : slice_index bytes 0 ≡ 1
  pub block : block_at (drop 1 bytes) ≡ None

-- what holds at each end of a reading
abbrev pub MatchReadEnd : ReadEnd → Type 0 → (ℕ → Type 0) → Type 0 → Type 0
MatchReadEnd Failed failed bad memory = failed
MatchReadEnd (Bad place) failed bad memory = bad place
MatchReadEnd Memory failed bad memory = memory

-- what holds of the place at which a reading met a fault
abbrev pub IfBad : ReadEnd → (ℕ → Type 0) → Type 0
IfBad end P = MatchReadEnd end (Unit {0}) P (Unit {0})

-- whether the calls of a reading failed: only one end says so
abbrev pub calls_of : {T : Type 0} → Result T ReadEnd → Result (Unit {0}) (Unit {0})
calls_of (Ok x) = Ok tt
calls_of (Err Failed) = Err tt
calls_of (Err (Bad place)) = Ok tt
calls_of (Err Memory) = Ok tt
