-- A node's view with what a store and a list of held reads show.
use Rattle.std.specs.Prelude.{nat_lt, List, Option, Some, None, if◌then◌else◌}
use Rattle.score_base.specs.declared.ids.TxId.{TxId}
use Rattle.score_base.specs.declared.ids.NodeId.{NodeId}
use Rattle.score_base.specs.declared.records.Record.{Record}
use Rattle.journal_words.specs.Journals.{floor}
use Rattle.grid_model.specs.declared.stories.HeldRead.{HeldRead}
use Rattle.grid_model.specs.Views.{View, Open}
use Rattle.grid_store.specs.Given.{Given}
use Rattle.snapshot_read.specs.Reads.{ceiling_for}

-- the view with the records and the clock of a store, and these held reads
abbrev pub view_with : Given → List HeldRead → (TxId → Option Open) → (TxId → List NodeId) → View
view_with s hs desk acks =
    record { cluster = s.cluster; journal = s.journal; next = s.next; held = hs; desk = desk; acks = acks }

-- the record that is due for a read, where it is above the floor
abbrev pub due_for : Given → HeldRead → Option Record
due_for s h = if nat_lt (floor s.journal) h.sid then Some (ceiling_for h) else None
