-- The desk that a journal leaves, and what a desk answers of a transaction.
use Rattle.std.specs.Prelude.{ℕ, ◌==◌, Bool, false, not, List, [], ◌∷◌, Option, Some, None, if◌then◌else◌}
use Rattle.score_base.specs.declared.ids.TxId.{TxId}
use Rattle.score_base.specs.declared.ids.NodeId.{NodeId}
use Rattle.score_base.specs.declared.ids.Ident.{Ident}
use Rattle.score_base.specs.declared.records.Record.{Record}
use Rattle.score_base.specs.declared.records.Record.TheVariants as record'
use Rattle.placement.specs.Places.{is_among}
use Rattle.presumed_abort.specs.declared.stands.Stand.{Stand}
use Rattle.presumed_abort.specs.declared.stands.Stand.TheVariants as stand
use Rattle.presumed_abort.specs.Turns.{Keeps, Goes, changed}

-- the desk behind these records, the newest first: the decided transactions that are not closed
abbrev pub decided_desk : List Record → List (TxId × Stand)
decided_desk [] = []
decided_desk (record'.Decided t f parts ∷ r) =
    changed t (Keeps (stand.Committed (record { t = t; f = f; parts = parts; acks = [] }))) (decided_desk r)
decided_desk (record'.Closed t ∷ r) = changed t Goes (decided_desk r)
decided_desk (x ∷ r) = decided_desk r

-- the snapshot of a transaction that reads this operation, where it has one
abbrev pub snapshot_of : ℕ → Option Stand → Option Ident
snapshot_of op (Some (stand.Reading r)) = if r.op == op then r.tx.progress.sid else None
snapshot_of op o = None

-- x is no part of a transaction that collects or is decided
abbrev pub is_stranger : NodeId → Option Stand → Bool
is_stranger x (Some (stand.Collecting c)) = not (is_among x c.parts)
is_stranger x (Some (stand.Committed c)) = not (is_among x c.parts)
is_stranger x o = false
