-- A journal only grows: what a further record leaves true stays true.
use Rattle.std.proofs.Common.{Bool, true, false, List, ◌∷◌, Option, Some, None}
use Rattle.score_base.specs.declared.ids.NodeId.{NodeId}
use Rattle.score_base.specs.declared.records.Record.{Record}
use Rattle.grid_model.specs.declared.acts.Act.{Act}
use Rattle.grid_model.specs.Documents.{DocumentData}
use Rattle.grid_model.specs.Nodes.{got, node, journal, Node, Change, Nothing, Writes, Raises, Holds, Frees, Stops, Starts, Stays, change, changed, found, written}

changed-more : (T : List Record → Type 0) → ((x : Record) (r : List Record) → T r → T (x ∷ r)) → (c : Change) (x : Node)
    → T x.journal → T (changed c x).journal
changed-more T grow Nothing x h = h
changed-more T grow (Writes None) x h = h
changed-more T grow (Writes (Some r)) x h = grow r x.journal h
changed-more T grow (Raises sid) x h = h
changed-more T grow (Holds o) x h = h
changed-more T grow (Frees t op k sid) x h = h
changed-more T grow (Stops o) x h = h
changed-more T grow (Starts false) x h = h
changed-more T grow (Starts true) x h = found-more x.doubt
  where
    found-more : (o : Option Record) → T (found true o x.journal)
    found-more None = h
    found-more (Some r) = grow r x.journal h
changed-more T grow Stays x h = h

-- what a further record leaves true stays true
pub journal-more : (T : List Record → Type 0) → ((x : Record) (r : List Record) → T r → T (x ∷ r))
    → (d : DocumentData) (past : List Act) (a : Act) (n : NodeId) → T (journal d past n) → T (journal d (a ∷ past) n)
journal-more T grow d past a n h = changed-more T grow (change d (got past) a n) (node d past n) h

written-before : (T : List Record → Type 0) → ((x : Record) (r : List Record) → T (x ∷ r) → T r)
    → (o : Option Record) (r : List Record) → T (written o r) → T r
written-before T shrink None r h = h
written-before T shrink (Some x) r h = shrink x r h

found-before : (T : List Record → Type 0) → ((x : Record) (r : List Record) → T (x ∷ r) → T r)
    → (kept : Bool) (o : Option Record) (r : List Record) → T (found kept o r) → T r
found-before T shrink true o r h = written-before T shrink o r h
found-before T shrink false o r h = h

changed-before : (T : List Record → Type 0) → ((x : Record) (r : List Record) → T (x ∷ r) → T r)
    → (c : Change) (x : Node) → T (changed c x).journal → T x.journal
changed-before T shrink (Writes o) x h = written-before T shrink o x.journal h
changed-before T shrink (Starts kept) x h = found-before T shrink kept x.doubt x.journal h
changed-before T shrink c x h = h

-- what holds with a further record, and so without it, held before
pub journal-before : (T : List Record → Type 0) → ((x : Record) (r : List Record) → T (x ∷ r) → T r)
    → (d : DocumentData) (past : List Act) (a : Act) (n : NodeId) → T (journal d (a ∷ past) n) → T (journal d past n)
journal-before T shrink d past a n h = changed-before T shrink (change d (got past) a n) (node d past n) h
