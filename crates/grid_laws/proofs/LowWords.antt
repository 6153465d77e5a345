-- Where no act names an identifier above m, no word of the past has one above m.
use Rattle.std.proofs.Common.{◌≡◌, ℕ, ◌≤◌, inl, inr, Bool, true, false, List, [], ◌∷◌, ◌++◌, Option, Some, None, refl, subst, arith}
use Rattle.std.specs.Prelude.{◌==◌, if◌then◌else◌}
use Rattle.score_base.specs.declared.ids.TxId.{TxId}
use Rattle.score_base.specs.declared.ids.NodeId.{NodeId}
use Rattle.score_base.specs.declared.ids.Ident.{Ident}
use Rattle.score_base.specs.declared.keys.Key.{Key}
use Rattle.score_base.specs.declared.causes.Ballot.TheVariants as ballot
use Rattle.score_base.specs.declared.causes.Outcome.TheVariants as outcome
use Rattle.score_base.specs.declared.records.Record.{Record}
use Rattle.score_base.specs.declared.records.Record.TheVariants as record'
use Rattle.script_lang.specs.Scripts.{ScriptData}
use Rattle.grid_model.specs.declared.acts.Act.{Act}
use Rattle.grid_model.specs.declared.acts.Act.TheVariants as act
use Rattle.grid_model.specs.declared.acts.Head.{Head}
use Rattle.grid_model.specs.declared.acts.Head.TheVariants as head
use Rattle.grid_model.specs.declared.messages.Envelope.{Envelope}
use Rattle.grid_model.specs.declared.messages.Message.{Message}
use Rattle.grid_model.specs.declared.messages.Message.TheVariants as message
use Rattle.grid_model.specs.declared.stories.Story.{Story}
use Rattle.grid_model.specs.declared.stories.Voted.{Voted}
use Rattle.grid_model.specs.Documents.{DocumentData}
use Rattle.grid_model.specs.Histories.{sent, sent_at}
use Rattle.journal_words.specs.Journals.{floor, Decision, decision}
use Rattle.grid_model.specs.Nodes.{got, node, script_of, parts_in, parts_of, is_home, Node, Change, Nothing, Writes, Raises, Holds, Frees, Stops, Starts, Stays, change, changed, found, learnt, prepared_by, prepared_from, doubt_of, freed, is_request, said_by, held_by, is_kept, where_at}
use Rattle.grid_model.specs.Stories.{Phase, story, asked, heard, heard_at, if_told, first_sid, with_vote, with_ack, has_voted, with_value, begun_in, progressed}
use Rattle.grid_model.specs.Acts.{EachAct}
use Rattle.grid_model.specs.Facts.{IsAtMost, act_ident, head_ident, message_ident, outcome_ident}
use Rattle.grid_model.specs.Rows.{greatest_vote}
use Rattle.grid_laws.proofs.Holds.{sent-last, sent-none}
use Rattle.grid_laws.proofs.NodesFit.{AllHold, HoldsIn}

-- ---- nodes

abbrev pub record_ident : Record → Ident
record_ident (record'.Prepared t home parts sid p reads writes) = p
record_ident (record'.Ended t o) = outcome_ident o
record_ident (record'.Ceiling c) = c
record_ident (record'.Decided t f parts) = f
record_ident (record'.Closed t) = 0

abbrev pub IsLowRecord : ℕ → Record → Type 0
IsLowRecord m y = record_ident y ≤ m

pub record IsLowNode (m : ℕ) (x : Node) : Type 0 where
  pub journal : AllHold (IsLowRecord m) x.journal
  pub doubt : HoldsIn (IsLowRecord m) x.doubt
  pub next : x.next ≤ m

pub floor-low : (m : ℕ) (r : List Record) → AllHold (IsLowRecord m) r → floor r ≤ m
floor-low m [] h = omega arith
floor-low m (record'.Prepared t home parts sid p reads writes ∷ r) h = omega (arith, h.0, floor-low m r h.1)
floor-low m (record'.Ended t (outcome.Commit f) ∷ r) h = omega (arith, h.0, floor-low m r h.1)
floor-low m (record'.Ended t outcome.Abort ∷ r) h = floor-low m r h.1
floor-low m (record'.Ceiling c ∷ r) h = omega (arith, h.0, floor-low m r h.1)
floor-low m (record'.Decided t f parts ∷ r) h = floor-low m r h.1
floor-low m (record'.Closed t ∷ r) h = floor-low m r h.1

learnt-low : (m : ℕ) (y : Record) (next : Ident) → IsLowRecord m y → next ≤ m → learnt (Some y) next ≤ m
learnt-low m (record'.Prepared t home parts sid p reads writes) next h k = omega arith
learnt-low m (record'.Ended t (outcome.Commit f)) next h k = omega arith
learnt-low m y next h k = k

found-low : (m : ℕ) (b : Bool) (o : Option Record) (r : List Record) → AllHold (IsLowRecord m) r
    → HoldsIn (IsLowRecord m) o → AllHold (IsLowRecord m) (found b o r)
found-low m true (Some y) r h k = (k, h)
found-low m true None r h k = h
found-low m false o r h k = h

abbrev LowChange : ℕ → Change → Type 0
LowChange m (Writes o) = HoldsIn (IsLowRecord m) o
LowChange m (Raises sid) = sid ≤ m
LowChange m (Stops o) = HoldsIn (IsLowRecord m) o
LowChange m c = Unit {0}

low-changed : (m : ℕ) (x : Node) (c : Change) → IsLowNode m x → LowChange m c → IsLowNode m (changed c x)
low-changed m x Nothing s due = s
low-changed m x (Writes None) s due = s
low-changed m x (Writes (Some y)) s due = record { journal = (due, s.journal); doubt = s.doubt; next = learnt-low m y x.next due s.next }
low-changed m x (Raises sid) s due = record { journal = s.journal; doubt = s.doubt; next = (let n = s.next in omega arith) }
low-changed m x (Holds o) s due = record { journal = s.journal; doubt = s.doubt; next = s.next }
low-changed m x (Frees t op k sid) s due = record { journal = s.journal; doubt = s.doubt; next = s.next }
low-changed m x (Stops o) s due = record { journal = s.journal; doubt = due; next = s.next }
low-changed m x (Starts b) s due = let r = found-low m b x.doubt x.journal s.journal s.doubt in record { journal = r; doubt = tt; next = floor-low m (found b x.doubt x.journal) r }
low-changed m x Stays s due = record { journal = s.journal; doubt = s.doubt; next = s.next }

low-where : (m : ℕ) (b : Bool) (c : Change) → LowChange m c → LowChange m (where_at b c)
low-where m true c h = h
low-where m false c h = tt

low-prepared : (m : ℕ) (e : Option Envelope) (t : TxId) (p : Ident) → p ≤ m
    → HoldsIn (IsLowRecord m) (prepared_by e t p)
low-prepared m None t p h = tt
low-prepared m (Some e) t p h = from e.from e.message
  where
    from : (x : NodeId) (said : Message) → HoldsIn (IsLowRecord m) (prepared_from x said t p)
    from x (message.Prepare q) = h
    from x said = tt

low-head : (m : ℕ) (d : DocumentData) (e : Option Envelope) (h : Option Head) → head_ident h ≤ m
    → HoldsIn (IsLowRecord m) (doubt_of d e h)
low-head m d e None i = tt
low-head m d e (Some (head.Prepared t p)) i = low-prepared m e t p i
low-head m d e (Some (head.Ended t o)) i = i
low-head m d e (Some (head.Ceiling c)) i = i
low-head m d e (Some (head.Decided t f)) i = i
low-head m d e (Some (head.Closed t)) i = i
low-head m d e (Some head.Compact) i = tt

low-freed : (m : ℕ) (b : Bool) (t : TxId) (op : ℕ) (k : Key) (sid : Ident) → LowChange m (freed b t op k sid)
low-freed m true t op k sid = tt
low-freed m false t op k sid = tt

low-change : (m : ℕ) (d : DocumentData) (e : Option Envelope) (a : Act) (n : NodeId) → act_ident a ≤ m
    → LowChange m (change d e a n)
low-change m d e (act.Prepared k t p) n h = low-where m (k == n) (Writes (prepared_by e t p)) (low-prepared m e t p h)
low-change m d e (act.Ended k t o) n h = low-where m (k == n) (Writes (Some (record'.Ended t o))) h
low-change m d e (act.Ceiling k c) n h = low-where m (k == n) (Writes (Some (record'.Ceiling c))) h
low-change m d e (act.Decided t f) n h = low-where m (is_home d t n) (Writes (Some (record'.Decided t f (parts_in d (script_of t d.scripts))))) h
low-change m d e (act.Closed t) n h = low-where m (is_home d t n) (Writes (Some (record'.Closed t))) (omega arith)
low-change m d e (act.Raised k sid) n h = low-where m (k == n) (Raises sid) h
low-change m d e (act.Held k t op sid) n h = low-where m (k == n) (Holds (held_by e t op sid)) tt
low-change m d e (act.Served k t op key sid vn v) n h = low-where m (k == n) (freed (is_request (said_by e)) t op key sid) (low-freed m (is_request (said_by e)) t op key sid)
low-change m d e (act.Down k o) n h = low-where m (k == n) (Stops (doubt_of d e o)) (low-head m d e o h)
low-change m d e (act.Up k f) n h = low-where m (k == n) (Starts (is_kept f)) tt
low-change m d e (act.StillDown k) n h = low-where m (k == n) Stays tt
low-change m d e a n h = tt

pub nodes-low : (m : ℕ) (d : DocumentData) (past : List Act) → EachAct (IsAtMost m) past → (n : NodeId)
    → IsLowNode m (node d past n)
nodes-low m d [] h n = record { journal = tt; doubt = tt; next = omega arith }
nodes-low m d (a ∷ past) h n = low-changed m (node d past n) (change d (got past) a n) (nodes-low m d past h.1 n) (low-change m d (got past) a n h.0)

-- the final identifier of a decision
pub decision-low : (m : ℕ) (t : TxId) (y : Decision) (r : List Record) → AllHold (IsLowRecord m) r
    → decision t r ≡ Some y → y.final ≤ m
decision-low m t y [] h e = cc
decision-low m t y (record'.Decided u f parts ∷ r) h e = here (u == t) h.0 e (λ i. decision-low m t y r h.1 i)
  where
    here : (b : Bool) → f ≤ m → (if b then Some (record { final = f; parts = parts }) else decision t r) ≡ Some y
        → (decision t r ≡ Some y → y.final ≤ m) → y.final ≤ m
    here true le i go = let z : record { final = f; parts = parts } ≡ y = cc in let P : Decision → Type 0 = λ w. w.final ≤ m in subst P z le
    here false le i go = go i
decision-low m t y (record'.Prepared u home parts sid p reads writes ∷ r) h e = decision-low m t y r h.1 e
decision-low m t y (record'.Ended u o ∷ r) h e = decision-low m t y r h.1 e
decision-low m t y (record'.Ceiling c ∷ r) h e = decision-low m t y r h.1 e
decision-low m t y (record'.Closed u ∷ r) h e = decision-low m t y r h.1 e

-- ---- messages

pub messages-low : (m : ℕ) (past : List Act) → EachAct (IsAtMost m) past → (k : ℕ) (e : Envelope)
    → sent_at k (sent past) ≡ Some e → message_ident e.message ≤ m
messages-low m [] h k e is = absurd (sent-none k (k == 0) e is)
messages-low m (act.Sent j x y said ∷ past) h k e is = elim (sent-last k (k == 0) (sent past) (record { from = x; to = y; message = said }) e is) [
  | inl before ↦ messages-low m past h.1 k e before
  | inr same ↦ (let P : Envelope → Type 0 = λ z. message_ident z.message ≤ m in subst P same h.0)
]
messages-low m (a ∷ past) h k e is = messages-low m past h.1 k e is

pub got-low : (m : ℕ) (past : List Act) → EachAct (IsAtMost m) past → (e : Envelope) → got past ≡ Some e
    → message_ident e.message ≤ m
got-low m [] h e is = cc
got-low m (act.Got k ∷ past) h e is = messages-low m past h.1 k e is
got-low m (a ∷ past) h e is = got-low m past h.1 e is

-- ---- stories

abbrev LowIn : ℕ → Option Ident → Type 0
LowIn m None = Unit {0}
LowIn m (Some sid) = sid ≤ m

abbrev pub IsLowStory : ℕ → Option Story → Type 0
IsLowStory m None = Unit {0}
IsLowStory m (Some x) = (x.progress.sid0 ≤ m) × LowIn m x.progress.sid × (greatest_vote x.progress.votes ≤ m)

first-low : (m : ℕ) (o : Option Ident) (sid : Ident) → LowIn m o → sid ≤ m → first_sid o sid ≤ m
first-low m None sid h k = k
first-low m (Some i) sid h k = h

pub snapshot-low : (m : ℕ) (x : Story) → IsLowStory m (Some x) → first_sid x.progress.sid x.progress.sid0 ≤ m
snapshot-low m x h = first-low m x.progress.sid x.progress.sid0 h.1 h.0

if-low : (m : ℕ) (b : Bool) (f : Story → Story) (o : Option Story)
    → ((x : Story) → IsLowStory m (Some x) → IsLowStory m (Some (f x))) → IsLowStory m o → IsLowStory m (if_told b f o)
if-low m b f None go h = h
if-low m true f (Some x) go h = go x h
if-low m false f (Some x) go h = h

either-low : (m : ℕ) (b : Bool) (o p : Option Story) → IsLowStory m o → IsLowStory m p
    → IsLowStory m (if b then o else p)
either-low m true o p h k = h
either-low m false o p h k = k

greatest-more : (m : ℕ) (vs : List Voted) (v : Voted) → greatest_vote vs ≤ m → v.p ≤ m
    → greatest_vote (vs ++ v ∷ []) ≤ m
greatest-more m [] v h k = omega arith
greatest-more m (w ∷ vs) v h k = omega (arith, greatest-more m vs v (omega arith) k)

low-vote : (m : ℕ) (n : NodeId) (p : Ident) (x : Story) (b : Bool) → p ≤ m → IsLowStory m (Some x) → IsLowStory m (Some (record x { progress = record x.progress { votes = if b then x.progress.votes else x.progress.votes ++ record { from = n; p = p } ∷ [] } }))
low-vote m n p x true h k = k
low-vote m n p x false h k = (k.0, k.1, greatest-more m x.progress.votes (record { from = n; p = p }) k.2 h)

low-heard : (m : ℕ) (ns : List NodeId) (p : Phase) (h : Node) (t : TxId) (n : NodeId) (said : Message)
    (o : Option Story) → message_ident said ≤ m → IsLowStory m o → IsLowStory m (heard ns p h t n said o)
low-heard m ns p h t n (message.Vote u (ballot.Yes q)) o i k = if-low m _ (progressed (with_vote n q)) o (λ x j. low-vote m n q x (has_voted n x.progress.votes) i j) k
low-heard m ns p h t n (message.Ack u) o i k = if-low m _ (with_ack n) o (λ x j. j) k
low-heard m ns p h t n said o i k = k

low-got : (m : ℕ) (d : DocumentData) (past : List Act) (w : Option ScriptData) (s : Option Envelope) (o : Option Story)
    → ((e : Envelope) → s ≡ Some e → message_ident e.message ≤ m) → IsLowStory m o
    → IsLowStory m (heard_at d past w s o)
low-got m d past None s o i k = k
low-got m d past (Some w) None o i k = k
low-got m d past (Some w) (Some e) o i k = either-low m (e.to == w.home) _ o (low-heard m (parts_of d w) _ (node d past w.home) w.number e.from e.message o (i e refl) k) k

low-asked : (m : ℕ) (d : DocumentData) (t : TxId) (said : Message) (o : Option Story) → IsLowStory m o
    → IsLowStory m (asked d t said o)
low-asked m d t (message.ReadReq q) o k = if-low m (q.t == t) _ o (λ x j. j) k
low-asked m d t said o k = k

low-told : (m : ℕ) (d : DocumentData) (past : List Act) (a : Act) (t : TxId) → EachAct (IsAtMost m) past
    → act_ident a ≤ m → IsLowStory m (story d past t) → IsLowStory m (story d (a ∷ past) t)
low-told m d past (act.Began u n sid0) t all h k = either-low m (u == t) (Some (begun_in d (node d past) t sid0)) (story d past t) (h, tt, omega arith) k
low-told m d past (act.Sent j x y said) t all h k = low-asked m d t said (story d past t) k
low-told m d past (act.Got j) t all h k = low-got m d past (script_of t d.scripts) (sent_at j (sent past)) (story d past t) (λ e is. messages-low m past all j e is) k
low-told m d past (act.Taken u op sid v) t all h k = if-low m (u == t) (progressed (with_value op sid v)) (story d past t) (λ x j. (j.0, first-low m x.progress.sid sid j.1 h, j.2)) k
low-told m d past (act.Finished u) t all h k = if-low m (u == t) _ (story d past t) (λ x j. j) k
low-told m d past (act.Aborted u n why) t all h k = if-low m (u == t) _ (story d past t) (λ x j. j) k
low-told m d past (act.Lost u) t all h k = if-low m (u == t) _ (story d past t) (λ x j. j) k
low-told m d past (act.Down n o) t all h k = if-low m (is_home d t n) _ (story d past t) (λ x j. (j.0, j.1, omega arith)) k
low-told m d past a t all h k = k

pub stories-low : (m : ℕ) (d : DocumentData) (past : List Act) → EachAct (IsAtMost m) past → (t : TxId)
    → IsLowStory m (story d past t)
stories-low m d [] h t = tt
stories-low m d (a ∷ past) h t = low-told m d past a t h.1 h.0 (stories-low m d past h.1 t)
