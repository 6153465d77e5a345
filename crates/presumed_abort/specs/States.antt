-- The changes of a transaction at its home.
use Rattle.std.specs.Prelude.{◌≡◌, List}
use Rattle.score_base.specs.declared.ids.TxId.{TxId}
use Rattle.score_base.specs.declared.ids.Ident.{Ident}
use Rattle.score_base.specs.declared.records.Record.{Record}
use Rattle.score_base.specs.declared.records.Record.TheVariants as record'
use Rattle.grid_model.specs.declared.stories.Voted.{Voted}
use Rattle.presumed_abort.specs.declared.states.Collecting.{Collecting}

-- the record is the Decided of t with the final identifier f
abbrev pub IsDecided : TxId → Ident → Record → Type 0
IsDecided t f (record'.Decided u g parts) = (u ≡ t) × (g ≡ f)
IsDecided t f x = ⊥

-- the record is the Closed of t
abbrev pub IsClosed : TxId → Record → Type 0
IsClosed t (record'.Closed u) = u ≡ t
IsClosed t x = ⊥

-- a transaction that collects, with these votes
abbrev pub with_votes : List Voted → Collecting → Collecting
with_votes votes c = record c { tx = record c.tx { progress = record c.tx.progress { votes = votes } } }
