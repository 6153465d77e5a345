-- A node as its acts leave it: its journal, its clock, its held reads, and whether it is up.
use Rattle.std.specs.Prelude.{ℕ, max, Bool, true, false, ◌&&◌, ◌==◌, List, [], ◌∷◌, ◌++◌, Option, Some, None, if◌then◌else◌}
use Rattle.score_base.specs.declared.ids.TxId.{TxId}
use Rattle.score_base.specs.declared.ids.NodeId.{NodeId}
use Rattle.score_base.specs.declared.ids.Ident.{Ident}
use Rattle.score_base.specs.declared.keys.Key.{Key}
use Rattle.score_base.specs.declared.records.Record.{Record}
use Rattle.score_base.specs.declared.records.Record.TheVariants as record'
use Rattle.score_base.specs.Keys.{same_key}
use Rattle.script_lang.specs.Scripts.{ScriptData}
use Rattle.script_lang.specs.Reads.{keys_of}
use Rattle.placement.specs.Places.{parts}
use Rattle.grid_model.specs.declared.acts.Act.{Act}
use Rattle.grid_model.specs.declared.acts.Act.TheVariants as act
use Rattle.grid_model.specs.declared.acts.Flag.{Flag}
use Rattle.grid_model.specs.declared.acts.Flag.TheVariants as flag
use Rattle.grid_model.specs.declared.acts.Head.{Head}
use Rattle.grid_model.specs.declared.acts.Head.TheVariants as head
use Rattle.grid_model.specs.declared.messages.Envelope.{Envelope}
use Rattle.grid_model.specs.declared.messages.Message.{Message}
use Rattle.grid_model.specs.declared.messages.Message.TheVariants as message
use Rattle.grid_model.specs.declared.stories.HeldRead.{HeldRead}
use Rattle.grid_model.specs.Documents.{DocumentData}
use Rattle.grid_model.specs.Histories.{sent, sent_at}
use Rattle.journal_words.specs.Journals.{floor}
pub use Rattle.journal_words.specs.Journals.{learnt}
pub use Rattle.journal_words.specs.Participants.{written}

-- ---- the document's words on a transaction

-- the script of a number
abbrev pub script_of : TxId → List ScriptData → Option ScriptData
script_of t [] = None
script_of t (s ∷ ss) = if s.number == t then Some s else script_of t ss

-- all nodes that hold a key of the script, rising
abbrev pub parts_of : DocumentData → ScriptData → List NodeId
parts_of d s = parts d.cluster.places (keys_of s.ops)

-- the parts of a script, where there is one
abbrev pub parts_in : DocumentData → Option ScriptData → List NodeId
parts_in d None = []
parts_in d (Some s) = parts_of d s

-- n is the home of a script, where there is one
abbrev pub is_home_in : Option ScriptData → NodeId → Bool
is_home_in None n = false
is_home_in (Some s) n = s.home == n

-- n is the home of t
abbrev pub is_home : DocumentData → TxId → NodeId → Bool
is_home d t n = is_home_in (script_of t d.scripts) n

-- ---- what an act says of a record

-- the message of the last Got behind an act
abbrev pub got_behind : Act → List Envelope → Option Envelope → Option Envelope
got_behind (act.Got m) ms e = sent_at m ms
got_behind a ms e = e

-- the message of the last Got
abbrev pub got : List Act → Option Envelope
got [] = None
got (a ∷ past) = got_behind a (sent past) (got past)

-- the Prepared of t behind a message from x, where it is a Prepare
abbrev pub prepared_from : NodeId → Message → TxId → Ident → Option Record
prepared_from x (message.Prepare q) t p = Some (record'.Prepared t x q.parts q.sid p q.reads q.writes)
prepared_from x said t p = None

-- the Prepared of t behind the Prepare that was got: its sender is the home
abbrev pub prepared_by : Option Envelope → TxId → Ident → Option Record
prepared_by None t p = None
prepared_by (Some e) t p = prepared_from e.from e.message t p

-- the record of a head that was being written behind this message
abbrev pub record_of : DocumentData → Option Envelope → Head → Option Record
record_of d e (head.Prepared t p) = prepared_by e t p
record_of d e (head.Ended t o) = Some (record'.Ended t o)
record_of d e (head.Ceiling c) = Some (record'.Ceiling c)
record_of d e (head.Decided t f) = Some (record'.Decided t f (parts_in d (script_of t d.scripts)))
record_of d e (head.Closed t) = Some (record'.Closed t)
record_of d e head.Compact = None

-- the record of a head, where there is one
abbrev pub doubt_of : DocumentData → Option Envelope → Option Head → Option Record
doubt_of d e None = None
doubt_of d e (Some h) = record_of d e h

-- the read that is held behind a message from x, where it is a read request
abbrev pub held_from : NodeId → Message → TxId → ℕ → Ident → Option HeldRead
held_from x (message.ReadReq q) t op sid = Some (record { t = t; op = op; sid = sid; key = q.key; from = x })
held_from x said t op sid = None

-- the read that is held behind the request that was got: its key and its sender
abbrev pub held_by : Option Envelope → TxId → ℕ → Ident → Option HeldRead
held_by None t op sid = None
held_by (Some e) t op sid = held_from e.from e.message t op sid

-- ---- what an act changes at one node

-- nothing; a record is written, the clock raised, a read held, a held read freed; the node stops, is opened, or could
-- not be opened
pub data Change : Type 0 where
  Nothing : Change
  Writes : Option Record → Change
  Raises : Ident → Change
  Holds : Option HeldRead → Change
  Frees : TxId → ℕ → Key → Ident → Change
  Stops : Option Record → Change
  Starts : Bool → Change
  Stays : Change

-- the change, where it is at this node
abbrev pub where_at : Bool → Change → Change
where_at true x = x
where_at false x = Nothing

-- there is a message, and it is a read request
abbrev pub is_request : Option Message → Bool
is_request (Some (message.ReadReq q)) = true
is_request o = false

-- what an envelope says
abbrev pub said_by : Option Envelope → Option Message
said_by None = None
said_by (Some e) = Some e.message

-- a read that is served where its request comes was not held: only a Served behind another message frees one
abbrev pub freed : Bool → TxId → ℕ → Key → Ident → Change
freed true t op k sid = Nothing
freed false t op k sid = Frees t op k sid

-- the opening found the record
abbrev pub is_kept : Flag → Bool
is_kept flag.Kept = true
is_kept flag.Gone = false
is_kept flag.Untouched = false

-- what an act behind this message changes at n
abbrev pub change : DocumentData → Option Envelope → Act → NodeId → Change
change d e (act.Prepared m t p) n = where_at (m == n) (Writes (prepared_by e t p))
change d e (act.Ended m t o) n = where_at (m == n) (Writes (Some (record'.Ended t o)))
change d e (act.Ceiling m c) n = where_at (m == n) (Writes (Some (record'.Ceiling c)))
change d e (act.Decided t f) n =
    where_at (is_home d t n) (Writes (Some (record'.Decided t f (parts_in d (script_of t d.scripts)))))
change d e (act.Closed t) n = where_at (is_home d t n) (Writes (Some (record'.Closed t)))
change d e (act.Raised m sid) n = where_at (m == n) (Raises sid)
change d e (act.Held m t op sid) n = where_at (m == n) (Holds (held_by e t op sid))
change d e (act.Served m t op k sid vn v) n = where_at (m == n) (freed (is_request (said_by e)) t op k sid)
change d e (act.Down m h) n = where_at (m == n) (Stops (doubt_of d e h))
change d e (act.Up m f) n = where_at (m == n) (Starts (is_kept f))
change d e (act.StillDown m) n = where_at (m == n) Stays
change d e a n = Nothing

-- a node: the records that stand, the newest first; the record in doubt since it stopped; the clock;
-- the held reads in the order of their arrival; whether it is up
pub record Node : Type 0 where
  pub journal : List Record
  pub doubt : Option Record
  pub next : Ident
  pub held : List HeldRead
  pub up : Bool

-- nothing happened yet
abbrev pub blank : Node
blank = record { journal = []; doubt = None; next = 0; held = []; up = false }

-- the held reads with one more, where there is one
abbrev pub with_held : Option HeldRead → List HeldRead → List HeldRead
with_held None hs = hs
with_held (Some h) hs = hs ++ h ∷ []

-- a held read is of this transaction, operation, key and identifier
abbrev pub is_read : TxId → ℕ → Key → Ident → HeldRead → Bool
is_read t op k sid h = (h.t == t) && ((h.op == op) && (same_key h.key k && (h.sid == sid)))

-- the held reads without the first of this transaction, operation, key and identifier
abbrev pub without_read : TxId → ℕ → Key → Ident → List HeldRead → List HeldRead
without_read t op k sid [] = []
without_read t op k sid (h ∷ hs) = if is_read t op k sid h then hs else h ∷ without_read t op k sid hs

-- the journal of an opening: with the record in doubt where it was found
abbrev pub found : Bool → Option Record → List Record → List Record
found true o r = written o r
found false o r = r

-- the node behind a change. An opening leaves the clock at the floor.
abbrev pub changed : Change → Node → Node
changed Nothing x = x
changed (Writes o) x = record x { journal = written o x.journal; next = learnt o x.next }
changed (Raises sid) x = record x { next = max sid x.next }
changed (Holds o) x = record x { held = with_held o x.held }
changed (Frees t op k sid) x = record x { held = without_read t op k sid x.held }
changed (Stops o) x = record x { doubt = o; held = []; up = false }
changed (Starts kept) x =
    record x
    { journal = found kept x.doubt x.journal; doubt = None; next = floor (found kept x.doubt x.journal); up = true }
changed Stays x = record x { up = false }

-- node n behind these acts
abbrev pub node : DocumentData → List Act → NodeId → Node
node d [] n = blank
node d (a ∷ past) n = changed (change d (got past) a n) (node d past n)

-- the records of n that stand, the newest first
abbrev pub journal : DocumentData → List Act → NodeId → List Record
journal d past n = (node d past n).journal
