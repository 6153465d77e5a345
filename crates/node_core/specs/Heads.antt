-- The head of a record.
use Rattle.score_base.specs.declared.records.Record.{Record}
use Rattle.score_base.specs.declared.records.Record.TheVariants as record'
use Rattle.grid_model.specs.declared.acts.Head.{Head}
use Rattle.grid_model.specs.declared.acts.Head.TheVariants as head

-- what a record begins with, enough to name it
abbrev pub head_of : Record → Head
head_of (record'.Prepared t home parts sid p reads writes) = head.Prepared t p
head_of (record'.Ended t o) = head.Ended t o
head_of (record'.Ceiling c) = head.Ceiling c
head_of (record'.Decided t f parts) = head.Decided t f
head_of (record'.Closed t) = head.Closed t
