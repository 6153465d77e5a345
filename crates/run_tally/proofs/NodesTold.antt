-- The entry of a node tells what its journal and its record in doubt tell.
use Rattle.std.proofs.Common.{◌≡◌, ℕ, ◌==◌, Bool, true, false, List, [], ◌∷◌, Option, Some, None, refl, sym, ap, subst, if◌then◌else◌}
use Rattle.std.specs.Option.{option_map}
use Rattle.score_base.specs.declared.ids.TxId.{TxId}
use Rattle.score_base.specs.declared.ids.NodeId.{NodeId}
use Rattle.score_base.specs.declared.ids.Ident.{Ident}
use Rattle.score_base.specs.declared.causes.Outcome.TheVariants as outcome
use Rattle.score_base.specs.declared.records.Record.{Record}
use Rattle.score_base.specs.declared.records.Record.TheVariants as record'
use Rattle.script_lang.specs.Scripts.{ScriptData}
use Rattle.journal_words.specs.Journals.{pendings, commits, decision, Decision}
use Rattle.grid_model.specs.declared.acts.Act.{Act}
use Rattle.grid_model.specs.declared.acts.Act.TheVariants as act
use Rattle.grid_model.specs.declared.acts.Flag.{Flag}
use Rattle.grid_model.specs.declared.acts.Flag.TheVariants as flag
use Rattle.grid_model.specs.declared.acts.Head.{Head}
use Rattle.grid_model.specs.declared.acts.Head.TheVariants as head
use Rattle.grid_model.specs.declared.messages.Message.{Message}
use Rattle.grid_model.specs.declared.messages.Message.TheVariants as message
use Rattle.grid_model.specs.Documents.{DocumentData}
use Rattle.grid_model.specs.Keyed.{at_key}
use Rattle.grid_model.specs.Nodes as nodes
use Rattle.grid_model.specs.Nodes.{Node, Change, Nothing, Writes, Raises, Holds, Frees, Stops, Starts, Stays, node, got, change, changed, where_at, is_home_in, is_kept, script_of, parts_in, held_by, prepared_by, freed, is_request, said_by, doubt_of, record_of}
use Rattle.run_tally.specs.Tallies.{NodeData, node_in, with_node, noted, with_record, with_stop, with_start, found, home_by, nodes_at}
use Rattle.run_tally.proofs.ForCode.{AllDue, StopDue, prepared-is}
use Rattle.run_tally.proofs.Entries.{node-put, tally}

-- ---- what an entry tells

-- the head of a record
abbrev head_by : Record → Head
head_by (record'.Prepared t home parts sid p reads writes) = head.Prepared t p
head_by (record'.Ended t o) = head.Ended t o
head_by (record'.Ceiling c) = head.Ceiling c
head_by (record'.Decided t f parts) = head.Decided t f
head_by (record'.Closed t) = head.Closed t

-- each decision, with its final identifier, the newest first
abbrev pub finals : List Record → List (TxId × Ident)
finals [] = []
finals (record'.Decided t f parts ∷ r) = (t, f) ∷ finals r
finals (x ∷ r) = finals r

-- the head is that of the record in doubt; a compaction has no record
abbrev DoubtTold : Option Head → Option Record → Type 0
DoubtTold (Some h) (Some y) = h ≡ head_by y
DoubtTold None (Some y) = ⊥
DoubtTold None None = Unit {0}
DoubtTold (Some head.Compact) None = Unit {0}
DoubtTold (Some h) None = ⊥

pub record NodeTold (x : NodeData) (h : Node) : Type 0 where
  pub pending : x.pending ≡ pendings h.journal
  pub commits : x.commits ≡ commits h.journal
  pub decided : x.decided ≡ finals h.journal
  pub stopped : DoubtTold x.stopped h.doubt

-- ---- one record more

told-record : (x : NodeData) (h : Node) (y : Record) → NodeTold x h →
    NodeTold (with_record (head_by y) x) (changed (Writes (Some y)) h)
told-record x h (record'.Prepared t home parts sid p reads writes) s =
    record { pending = ap (λ z. (t, p) ∷ z) s.pending; commits = s.commits; decided = s.decided; stopped = s.stopped }
told-record x h (record'.Ended t (outcome.Commit f)) s =
    record {
      pending = rw s.pending refl;
      commits = ap
          (λ z. (t, f) ∷ z) s.commits;
      decided = s.decided;
      stopped = s.stopped;
    }
told-record x h (record'.Ended t outcome.Abort) s =
    record { pending = rw s.pending refl; commits = s.commits; decided = s.decided; stopped = s.stopped }
told-record x h (record'.Ceiling c) s = record
    { pending = s.pending; commits = s.commits; decided = s.decided; stopped = s.stopped }
told-record x h (record'.Decided t f parts) s =
    record { pending = s.pending; commits = s.commits; decided = ap (λ z. (t, f) ∷ z) s.decided; stopped = s.stopped }
told-record x h (record'.Closed t) s = record
    { pending = s.pending; commits = s.commits; decided = s.decided; stopped = s.stopped }

-- the record of this head
told-written : (x : NodeData) (h : Node) (k : Head) (o : Option Record) (y : Record) → NodeTold x h → o ≡ Some y →
    k ≡ head_by y → NodeTold (with_record k x) (changed (Writes o) h)
told-written x h k o y s is same =
    let P : Head → Type 0 = λ z. NodeTold (with_record z x) (changed (Writes o) h) in
    let Q : Option Record → Type 0 = λ z. NodeTold (with_record (head_by y) x) (changed (Writes z) h) in
    subst P (sym same) (subst Q (sym is) (told-record x h y s))

-- ---- a stop and an opening

told-stop : (x : NodeData) (h : Node) (k : Option Head) (o : Option Record) → NodeTold x h → DoubtTold k o →
    NodeTold (with_stop k x) (changed (Stops o) h)
told-stop x h k o s doubt = record { pending = s.pending; commits = s.commits; decided = s.decided; stopped = doubt }

-- what an entry tells of the records that stand
record RecordsTold (x : NodeData) (r : List Record) : Type 0 where
  pending : x.pending ≡ pendings r
  commits : x.commits ≡ commits r
  decided : x.decided ≡ finals r

-- the records that an opening finds, by the head and the record in doubt
told-found : (f : Flag) (k : Option Head) (o : Option Record) (x : NodeData) (h : Node) → DoubtTold k o →
    NodeTold x h → RecordsTold (found f k x) (nodes.found (is_kept f) o h.journal)
told-found flag.Kept (Some k) (Some y) x h same s =
    let w : NodeTold (with_record k x) (changed (Writes (Some y)) h) = told-written x h k (Some y) y s refl same in
    record { pending = w.pending; commits = w.commits; decided = w.decided }
told-found flag.Kept (Some head.Compact) None x h same s =
    record { pending = s.pending; commits = s.commits; decided = s.decided }
told-found flag.Kept (Some k) None x h same s = absurd same
told-found flag.Kept None (Some y) x h same s = absurd same
told-found flag.Kept None None x h same s = record { pending = s.pending; commits = s.commits; decided = s.decided }
told-found flag.Gone k o x h same s = record { pending = s.pending; commits = s.commits; decided = s.decided }
told-found flag.Untouched k o x h same s = record { pending = s.pending; commits = s.commits; decided = s.decided }

told-start : (f : Flag) (x : NodeData) (h : Node) → NodeTold x h →
    NodeTold (with_start f x) (changed (Starts (is_kept f)) h)
told-start f x h s =
    let w : RecordsTold (found f x.stopped x) (nodes.found (is_kept f) h.doubt h.journal) =
    told-found f x.stopped h.doubt x h s.stopped s in
    record { pending = w.pending; commits = w.commits; decided = w.decided; stopped = tt }

-- ---- what is due

-- the head of a Down is that of the record that it leaves in doubt
doubt-due : (d : DocumentData) (past : List Act) (n : NodeId) (h : Option Head) → StopDue d past n h →
    DoubtTold h (doubt_of d (got past) h)
doubt-due d past n None due = tt
doubt-due d past n (Some (head.Prepared t p)) due = rw (prepared-is d past n t p due.1) refl
doubt-due d past n (Some (head.Ended t o)) due = refl
doubt-due d past n (Some (head.Ceiling c)) due = refl
doubt-due d past n (Some (head.Decided t f)) due = refl
doubt-due d past n (Some (head.Closed t)) due = refl
doubt-due d past n (Some head.Compact) due = tt

-- ---- an act at a node

-- what an act of one node changes there, and at no other node
told-one : (b : Bool) (x y : NodeData) (c : Change) (h : Node) → NodeTold x h → NodeTold y (changed c h) →
    NodeTold (if b then y else x) (changed (where_at b c) h)
told-one true x y c h s now = now
told-one false x y c h s now = s

told-at : (m n : NodeId) (f : NodeData → NodeData) (c : Change) (h : Node) (xs : List (NodeId × NodeData)) →
    NodeTold (node_in n xs) h → NodeTold (f (node_in n xs)) (changed c h) →
    NodeTold (node_in n (with_node m f xs)) (changed (where_at (m == n) c) h)
told-at m n f c h xs s now = rw (node-put m n f xs) (told-one (m == n) (node_in n xs) (f (node_in n xs)) c h s now)

-- a change that the entry does not see
told-unseen : (b : Bool) (x : NodeData) (c : Change) (h : Node) → NodeTold x h → NodeTold x (changed c h) →
    NodeTold x (changed (where_at b c) h)
told-unseen true x c h s now = now
told-unseen false x c h s now = s

told-noted : (said : Message) (x : NodeData) (h : Node) → NodeTold x h → NodeTold (noted said x) h
told-noted (message.Prepare q) x h s = record
    { pending = s.pending; commits = s.commits; decided = s.decided; stopped = s.stopped }
told-noted said x h s = s

told-sent : (m n : NodeId) (said : Message) (h : Node) (xs : List (NodeId × NodeData)) → NodeTold (node_in n xs) h →
    NodeTold (node_in n (with_node m (noted said) xs)) h
told-sent m n said h xs s = rw (node-put m n (noted said) xs) (go (m == n))
  where
    go : (b : Bool) → NodeTold (if b then noted said (node_in n xs) else node_in n xs) h
    go true = told-noted said (node_in n xs) h s
    go false = s

told-decided : (d : DocumentData) (o : Option ScriptData) (n : NodeId) (t : TxId) (f : Ident) (ps : List NodeId)
    (h : Node) (xs : List (NodeId × NodeData)) → NodeTold (node_in n xs) h →
    NodeTold (node_in n (nodes_at (home_by o) (act.Decided t f) xs))
    (changed (where_at (is_home_in o n) (Writes (Some (record'.Decided t f ps)))) h)
told-decided d None n t f ps h xs s = s
told-decided d (Some w) n t f ps h xs s =
    told-at w.home n (with_record (head.Decided t f)) (Writes (Some (record'.Decided t f ps))) h xs s
    (told-record (node_in n xs) h (record'.Decided t f ps) s)

-- a read that is held or served, a clock that is raised, a node that could not be opened
told-freed : (b : Bool) (t : TxId) (op : ℕ) (k : List ℕ) (sid : Ident) (x : NodeData) (h : Node) → NodeTold x h →
    NodeTold x (changed (freed b t op k sid) h)
told-freed true t op k sid x h s = s
told-freed false t op k sid x h s = record
    { pending = s.pending; commits = s.commits; decided = s.decided; stopped = s.stopped }

pub nodes-told : (d : DocumentData) (past : List Act) → AllDue d past → (n : NodeId) →
    NodeTold (node_in n (tally d past).nodes) (node d past n)
nodes-told d [] due n = record { pending = refl; commits = refl; decided = refl; stopped = tt }
nodes-told d (act.Sent m x y said ∷ past) due n =
    told-sent y n said (node d past n) (tally d past).nodes (nodes-told d past due.1 n)
nodes-told d (act.Prepared m t p ∷ past) due n =
    let s = nodes-told d past due.1 n in
    told-at m n (with_record (head.Prepared t p)) (Writes (prepared_by (got past) t p)) (node d past n)
    (tally d past).nodes s
    (told-written (node_in n (tally d past).nodes) (node d past n) (head.Prepared t p)
    (prepared_by (got past) t p) _ s (prepared-is d past m t p due.0.1) refl)
nodes-told d (act.Ended m t o ∷ past) due n =
    let s = nodes-told d past due.1 n in
    told-at m n (with_record (head.Ended t o)) (Writes (Some (record'.Ended t o))) (node d past n)
    (tally d past).nodes s
    (told-record (node_in n (tally d past).nodes) (node d past n) (record'.Ended t o) s)
nodes-told d (act.Ceiling m c ∷ past) due n =
    let s = nodes-told d past due.1 n in
    told-unseen (m == n) (node_in n (tally d past).nodes) (Writes (Some (record'.Ceiling c))) (node d past n) s
    (told-record (node_in n (tally d past).nodes) (node d past n) (record'.Ceiling c) s)
nodes-told d (act.Decided t f ∷ past) due n =
    told-decided d (script_of t d.scripts) n t f (parts_in d (script_of t d.scripts)) (node d past n)
    (tally d past).nodes (nodes-told d past due.1 n)
nodes-told d (act.Closed t ∷ past) due n =
    let s = nodes-told d past due.1 n in
    told-unseen (is_home_in (script_of t d.scripts) n) (node_in n (tally d past).nodes)
    (Writes (Some (record'.Closed t))) (node d past n) s
    (told-record (node_in n (tally d past).nodes) (node d past n) (record'.Closed t) s)
nodes-told d (act.Raised m sid ∷ past) due n =
    let s = nodes-told d past due.1 n in
    told-unseen (m == n) (node_in n (tally d past).nodes) (Raises sid) (node d past n) s
    (record { pending = s.pending; commits = s.commits; decided = s.decided; stopped = s.stopped })
nodes-told d (act.Held m t op sid ∷ past) due n =
    let s = nodes-told d past due.1 n in
    told-unseen (m == n) (node_in n (tally d past).nodes) (Holds (held_by (got past) t op sid)) (node d past n) s
    (record { pending = s.pending; commits = s.commits; decided = s.decided; stopped = s.stopped })
nodes-told d (act.Served m t op k sid vn v ∷ past) due n =
    let s = nodes-told d past due.1 n in
    told-unseen (m == n) (node_in n (tally d past).nodes) (freed (is_request (said_by (got past))) t op k sid)
    (node d past n) s
    (told-freed (is_request (said_by (got past))) t op k sid (node_in n (tally d past).nodes) (node d past n) s)
nodes-told d (act.Down m h ∷ past) due n =
    let s = nodes-told d past due.1 n in
    told-at m n (with_stop h) (Stops (doubt_of d (got past) h)) (node d past n) (tally d past).nodes s
    (told-stop (node_in n (tally d past).nodes) (node d past n) h (doubt_of d (got past) h) s
    (doubt-due d past m h due.0))
nodes-told d (act.Up m f ∷ past) due n =
    let s = nodes-told d past due.1 n in
    told-at m n (with_start f) (Starts (is_kept f)) (node d past n) (tally d past).nodes s
    (told-start f (node_in n (tally d past).nodes) (node d past n) s)
nodes-told d (act.StillDown m ∷ past) due n =
    let s = nodes-told d past due.1 n in
    told-unseen (m == n) (node_in n (tally d past).nodes) Stays (node d past n) s
    (record { pending = s.pending; commits = s.commits; decided = s.decided; stopped = s.stopped })
nodes-told d (a ∷ past) due n = nodes-told d past due.1 n

-- ---- the decision that stands

final-if : (b : Bool) (f : Ident) (ps : List NodeId) (xs : Option Ident) (o : Option Decision) →
    xs ≡ option_map (λ y. y.final) o →
    (if b then Some f else xs) ≡ option_map (λ y. y.final) (if b then Some (record { final = f; parts = ps }) else o)
final-if true f ps xs o same = refl
final-if false f ps xs o same = same

pub at-finals : (t : TxId) (r : List Record) → at_key t (finals r) ≡ option_map (λ y. y.final) (decision t r)
at-finals t [] = refl
at-finals t (record'.Decided u f parts ∷ r) =
    final-if (u == t) f parts (at_key t (finals r)) (decision t r) (at-finals t r)
at-finals t (record'.Prepared u home parts sid p reads writes ∷ r) = at-finals t r
at-finals t (record'.Ended u o ∷ r) = at-finals t r
at-finals t (record'.Ceiling c ∷ r) = at-finals t r
at-finals t (record'.Closed u ∷ r) = at-finals t r
