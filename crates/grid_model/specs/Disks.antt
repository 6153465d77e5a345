-- The disk list of a node: what its live file holds. It is the journal, made small at each compaction.
use Rattle.std.specs.Prelude.{Bool, true, false, ◌&&◌, ◌||◌, ◌==◌, List, [], ◌∷◌, Option, Some, if◌then◌else◌}
use Rattle.score_base.specs.declared.ids.NodeId.{NodeId}
use Rattle.score_base.specs.declared.records.Record.{Record}
use Rattle.journal_words.specs.Small.{small}
use Rattle.grid_model.specs.declared.acts.Act.{Act}
use Rattle.grid_model.specs.declared.acts.Act.TheVariants as act
use Rattle.grid_model.specs.declared.acts.Head.{Head}
use Rattle.grid_model.specs.declared.acts.Head.TheVariants as head
use Rattle.grid_model.specs.declared.messages.Envelope.{Envelope}
use Rattle.grid_model.specs.Documents.{DocumentData}
use Rattle.grid_model.specs.Nodes.{Change, Writes, Node, node, got, change, written, found, is_kept}

-- ---- a compaction in doubt

-- a node that stopped with this head stopped in a compaction
abbrev pub is_compact : Option Head → Bool
is_compact (Some head.Compact) = true
is_compact o = false

-- a compaction of n is in doubt behind an act, where it was or was not before
abbrev pub compacting_behind : Act → NodeId → Bool → Bool
compacting_behind (act.Down m h) n b = if m == n then is_compact h else b
compacting_behind (act.Up m f) n b = if m == n then false else b
compacting_behind a n b = b

-- a compaction of n is in doubt: n stopped in it and was not opened since
abbrev pub is_compacting : List Act → NodeId → Bool
is_compacting [] n = false
is_compacting (a ∷ past) n = compacting_behind a n (is_compacting past n)

-- a compaction of n went on, or stopped and may have been found
abbrev pub was_compacted : List Act → NodeId → Bool
was_compacted [] n = false
was_compacted (act.Compacted m ∷ past) n = (m == n) || was_compacted past n
was_compacted (act.Down m h ∷ past) n = ((m == n) && is_compact h) || was_compacted past n
was_compacted (a ∷ past) n = was_compacted past n

-- ---- the disk list

-- the list behind a record
abbrev pub recorded : Change → List Record → List Record
recorded (Writes o) r = written o r
recorded x r = r

-- the list of an opening: small where a compaction was found, or else with the record in doubt where it was found
abbrev pub reopened : Bool → Bool → Option Record → List Record → List Record
reopened true true o r = small r
reopened true false o r = r
reopened false kept o r = found kept o r

-- the list of n behind an act, before which this message was got last, n was this node, and a compaction of
-- it was in doubt or was not
abbrev pub stored : DocumentData → Option Envelope → Act → NodeId → Node → Bool → List Record → List Record
stored d e (act.Compacted m) n x doubt r = if m == n then small r else r
stored d e (act.Up m f) n x doubt r = if m == n then reopened doubt (is_kept f) x.doubt r else r
stored d e a n x doubt r = recorded (change d e a n) r

-- the records that the live file of n holds, the newest first
abbrev pub disklog : DocumentData → List Act → NodeId → List Record
disklog d [] n = []
disklog d (a ∷ past) n = stored d (got past) a n (node d past n) (is_compacting past n) (disklog d past n)
