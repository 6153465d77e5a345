-- A log is of a form in at most one way.
use Rattle.std.specs.Prelude.{ℕ, List, Result}
use Rattle.std.specs.Coded.{coded_ℕ, coded_list, coded_result, Coded-set}
use Rattle.std.proofs.Props.{props}
use Rattle.score_base.specs.declared.records.Record.{Record}
use Rattle.score_base.specs.contracts.records.Record as record_code
use Rattle.node_journal.specs.Log.{Spells, IsLog}

pub logs_set : IsSet (Result (List Record) ℕ)
logs_set = Coded-set (coded_result (coded_list record_code.the_row.coded) coded_ℕ)

pub Spells-prop : (front : List ℕ) (records : List Record) → IsProp (Spells front records)
Spells-prop front records = hlevel (logs_set, props)

pub IsLog-prop : (bytes : List ℕ) (records : List Record) (gate : ℕ) → IsProp (IsLog bytes records gate)
IsLog-prop bytes records gate = hlevel (Spells-prop, props)
