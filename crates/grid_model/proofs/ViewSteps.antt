-- How the view of a node steps: what one act of the node leaves of it.
use Rattle.std.proofs.Common.{ℕ, ◌+◌, ◌≤◌, Bool, true, false, ◌||◌, sym, ◌==◌, List, [], ◌∷◌, length, Option, None, Some, ◌≡◌, refl, subst, ◌∙◌, arith, inl, inr, if◌then◌else◌}
use Rattle.std.proofs.lemmas.Bool.{cases_eq}
use Rattle.std.proofs.lemmas.Bool.Decides.{nat_tests}
use Rattle.score_base.specs.declared.ids.TxId.{TxId}
use Rattle.score_base.specs.declared.ids.NodeId.{NodeId}
use Rattle.score_base.specs.declared.ids.Ident.{Ident}
use Rattle.score_base.specs.declared.ids.Value.{Value}
use Rattle.score_base.specs.declared.keys.Key.{Key}
use Rattle.score_base.specs.declared.causes.Outcome.{Outcome}
use Rattle.score_base.specs.declared.causes.Cause.{Cause}
use Rattle.placement.specs.Places.{holders}
use Rattle.grid_model.specs.declared.messages.Message.{Message}
use Rattle.grid_model.specs.declared.messages.Message.TheVariants as message
use Rattle.score_base.specs.declared.records.Record.{Record}
use Rattle.script_lang.specs.Scripts.{ScriptData}
use Rattle.grid_model.specs.declared.acts.Act.{Act}
use Rattle.grid_model.specs.declared.acts.Act.TheVariants as act
use Rattle.grid_model.specs.declared.stories.Story.{Story}
use Rattle.grid_model.specs.Documents.{DocumentData}
use Rattle.journal_words.specs.Journals.{Decision, decision, is_closed, undone, times_decided, times_over, later_decision}
use Rattle.journal_words.proofs.Later.{later-now}
use Rattle.grid_model.specs.declared.events.Out.TheVariants as out
use Rattle.grid_model.specs.declared.messages.Envelope.{Envelope}
use Rattle.grid_model.specs.Nodes.{Node, node, script_of, got, written, prepared_by, changed, freed, without_read, is_request, said_by, is_home, parts_in}
use Rattle.grid_model.specs.Stories.{story, told, begun, skipped_in, over_at, with_value, with_request, if_told, phase_by, progressed}
use Rattle.grid_model.specs.Views.{View, Open, open_by, open_at, acks_by, acks_at, view}
use Rattle.grid_model.specs.Advances.{parts_now}
use Rattle.grid_model.proofs.Undecided.{script-number, undecided-acks, over-there}
use Rattle.grid_model.specs.NextViews.{changed_open, if_update, opened_by, behind}

-- both branches the same
pub same-if : {A : Type 0} (b : Bool) (x : A) → x ≡ (if b then x else x)
same-if true x = refl
same-if false x = refl

-- ---- equal views

-- views with equal parts are equal
pub same-view : (v w : View) → v.cluster ≡ w.cluster → v.journal ≡ w.journal → v.next ≡ w.next → v.held ≡ w.held
    → ((t : TxId) → v.desk t ≡ w.desk t) → ((t : TxId) → v.acks t ≡ w.acks t) → v ≡ w
same-view v w cluster journal next held desk acks = λ i. record { cluster = cluster i; journal = journal i; next = next i; held = held i; desk = λ t. desk t i; acks = λ t. acks t i }

-- ---- the desk and the acknowledgements, by one story

-- what the desk has of a script, by its story and by what the journal says of it
abbrev pub entry : ScriptData → Bool → Option Decision → Option Story → Option Open
entry s closed y o = open_by s (phase_by s.ops o closed y) o

-- a decided transaction is not open
pub entry-decided : (s : ScriptData) (closed : Bool) (y : Decision) (o : Option Story)
    → entry s closed (Some y) o ≡ None
entry-decided s closed y o = grind arith

-- nor does a Closed alone change what is open
pub entry-closed : (s : ScriptData) (c c' : Bool) (y : Option Decision) (o : Option Story)
    → entry s c y o ≡ entry s c' y o
entry-closed s c c' y o = grind arith

pub entry-begun : (s : ScriptData) (closed : Bool) (y : Option Decision) (k : ℕ) (sid0 : Ident)
    → entry s closed y (Some (begun k sid0)) ≡ opened_by y (Some s) sid0
entry-begun s closed y k sid0 = grind arith

pub desk-taken : (n : NodeId) (h : Node) (so : Option ScriptData) (o : Option Story) (b : Bool) (j : ℕ) (sid : Ident)
    (v : Value) → open_at n h so (if_told b (progressed (with_value j sid v)) o)
    ≡ (if b then changed_open (with_value j sid v) (open_at n h so o) else open_at n h so o)
desk-taken n h so o b j sid v = grind arith

pub desk-turn : (n : NodeId) (h : Node) (so : Option ScriptData) (o : Option Story) (b : Bool) (r : ℕ)
    → open_at n h so (if_told b (progressed (with_request r)) o)
    ≡ (if b then changed_open (with_request r) (open_at n h so o) else open_at n h so o)
desk-turn n h so o b r = grind arith

pub desk-finished : (n : NodeId) (h : Node) (so : Option ScriptData) (o : Option Story) (b : Bool)
    → open_at n h so (if_told b (λ x. record x { finished = true }) o)
    ≡ (if b then if_update (open_at n h so o) else open_at n h so o)
desk-finished n h so o b = grind arith

pub desk-aborted : (n : NodeId) (h : Node) (so : Option ScriptData) (o : Option Story) (b : Bool)
    → open_at n h so (if_told b (λ x. record x { aborted = true }) o) ≡ (if b then None else open_at n h so o)
desk-aborted n h so o b = grind arith

pub acks-told : (n : NodeId) (h : Node) (t : TxId) (so : Option ScriptData) (o : Option Story) (b : Bool)
    (f : Story → Story) → ((x : Story) → (f x).acks ≡ x.acks) → acks_at n h t so (if_told b f o) ≡ acks_at n h t so o
acks-told n h t so o b f same = grind (arith, same)

-- ---- what the journal says of a decision

-- records behind which each transaction is decided and closed as before
pub record SameDecisions (r r' : List Record) : Type 0 where
  pub decision : (t : TxId) → decision t r' ≡ decision t r
  pub times : (t : TxId) → times_decided t r' ≡ times_decided t r
  pub closed : (t : TxId) → is_closed t r' ≡ is_closed t r

pub same-desk : (n : NodeId) (h h' : Node) → SameDecisions h.journal h'.journal
    → (so : Option ScriptData) (o : Option Story) → open_at n h' so o ≡ open_at n h so o
same-desk n h h' same None o = refl
same-desk n h h' same (Some s) o = rw (same.decision s.number, same.times s.number, same.closed s.number) refl

pub same-acks : (n : NodeId) (h h' : Node) → SameDecisions h.journal h'.journal
    → (t : TxId) (so : Option ScriptData) (o : Option Story) → acks_at n h' t so o ≡ acks_at n h t so o
same-acks n h h' same t None o = refl
same-acks n h h' same t (Some s) o = rw (same.decision t, same.closed t) refl

pub prepared-decisions : (e : Option Envelope) (u : TxId) (p : Ident) (r : List Record)
    → SameDecisions r (written (prepared_by e u p) r)
prepared-decisions e u p r = record { decision = λ t. grind arith; times = λ t. grind arith; closed = λ t. grind arith }

-- ---- acts that speak of the node alone

-- an act of n that tells no story leaves the desk and the acknowledgements
pub node-act : (d : DocumentData) (past : List Act) (a : Act) (n : NodeId) → SameDecisions (node d past n).journal (node d (a ∷ past) n).journal → ((t : TxId) → told d past a t (story d past t) ≡ story d past t) → view d (a ∷ past) n ≡ record (view d past n) { journal = (node d (a ∷ past) n).journal; next = (node d (a ∷ past) n).next; held = (node d (a ∷ past) n).held }
node-act d past a n same untold = same-view _ _ refl refl refl refl
    (λ t. rw (untold t) (same-desk n (node d past n) (node d (a ∷ past) n) same (script_of t d.scripts) (story d past t)))
    (λ t. rw (untold t) (same-acks n (node d past n) (node d (a ∷ past) n) same t (script_of t d.scripts) (story d past t)))

pub here : (n : NodeId) → (n == n) ≡ true
here n = grind (arith, nat_tests)

pub step-prepared : (d : DocumentData) (past : List Act) (n : NodeId) (t : TxId) (p : Ident) (s : Option ScriptData)
    → view d (act.Prepared n t p ∷ past) n ≡ behind (got past) s (view d past n) (out.Act (act.Prepared n t p))
step-prepared d past n t p s = node-act d past (act.Prepared n t p) n (rw (here n) (prepared-decisions (got past) t p (node d past n).journal)) (λ u. refl) ∙ rw (here n) refl

pub step-ended : (d : DocumentData) (past : List Act) (n : NodeId) (t : TxId) (o : Outcome) (e : Option Envelope)
    (s : Option ScriptData) → view d (act.Ended n t o ∷ past) n ≡ behind e s (view d past n) (out.Act (act.Ended n t o))
step-ended d past n t o e s = node-act d past (act.Ended n t o) n (rw (here n) (record { decision = λ u. refl; times = λ u. refl; closed = λ u. refl })) (λ u. refl) ∙ rw (here n) refl

pub step-ceiling : (d : DocumentData) (past : List Act) (n : NodeId) (c : Ident) (e : Option Envelope)
    (s : Option ScriptData) → view d (act.Ceiling n c ∷ past) n ≡ behind e s (view d past n) (out.Act (act.Ceiling n c))
step-ceiling d past n c e s = node-act d past (act.Ceiling n c) n (rw (here n) (record { decision = λ u. refl; times = λ u. refl; closed = λ u. refl })) (λ u. refl) ∙ rw (here n) refl

pub step-raised : (d : DocumentData) (past : List Act) (n : NodeId) (sid : Ident) (e : Option Envelope)
    (s : Option ScriptData)
    → view d (act.Raised n sid ∷ past) n ≡ behind e s (view d past n) (out.Act (act.Raised n sid))
step-raised d past n sid e s = node-act d past (act.Raised n sid) n (rw (here n) (record { decision = λ u. refl; times = λ u. refl; closed = λ u. refl })) (λ u. refl) ∙ rw (here n) refl

pub step-held : (d : DocumentData) (past : List Act) (n : NodeId) (t : TxId) (j : ℕ) (sid : Ident)
    (s : Option ScriptData)
    → view d (act.Held n t j sid ∷ past) n ≡ behind (got past) s (view d past n) (out.Act (act.Held n t j sid))
step-held d past n t j sid s = node-act d past (act.Held n t j sid) n (rw (here n) (record { decision = λ u. refl; times = λ u. refl; closed = λ u. refl })) (λ u. refl) ∙ rw (here n) refl

served-decisions : (b : Bool) (t : TxId) (j : ℕ) (k : Key) (sid : Ident) (h : Node)
    → SameDecisions h.journal (changed (freed b t j k sid) h).journal
served-decisions true t j k sid h = record { decision = λ u. refl; times = λ u. refl; closed = λ u. refl }
served-decisions false t j k sid h = record { decision = λ u. refl; times = λ u. refl; closed = λ u. refl }

-- a read that is served leaves the journal and the clock
served-node : (b : Bool) (t : TxId) (j : ℕ) (k : Key) (sid : Ident) (h : Node)
    → changed (freed b t j k sid) h ≡ record h { held = (if b then h.held else without_read t j k sid h.held) }
served-node true t j k sid h = refl
served-node false t j k sid h = refl

pub step-served : (d : DocumentData) (past : List Act) (n : NodeId) (t : TxId) (j : ℕ) (k : Key) (sid vn : Ident)
    (v : Value) (s : Option ScriptData) → view d (act.Served n t j k sid vn v ∷ past) n
    ≡ behind (got past) s (view d past n) (out.Act (act.Served n t j k sid vn v))
step-served d past n t j k sid vn v s = node-act d past (act.Served n t j k sid vn v) n (rw (here n) (served-decisions (is_request (said_by (got past))) t j k sid (node d past n))) (λ u. refl) ∙ rw (here n, served-node (is_request (said_by (got past))) t j k sid (node d past n)) refl

-- ---- acts that leave the node

pub step-quiet : (d : DocumentData) (past : List Act) (t : TxId) (j : ℕ) (v : Value) (n : NodeId) (e : Option Envelope)
    (s : Option ScriptData) → view d (act.Own t j v ∷ past) n ≡ behind e s (view d past n) (out.Act (act.Own t j v))
step-quiet d past t j v n e s = refl

pub step-refused : (d : DocumentData) (past : List Act) (m : NodeId) (t : TxId) (why : Cause) (n : NodeId)
    (e : Option Envelope) (s : Option ScriptData)
    → view d (act.Refused m t why ∷ past) n ≡ behind e s (view d past n) (out.Act (act.Refused m t why))
step-refused d past m t why n e s = refl

pub step-compacted : (d : DocumentData) (past : List Act) (m n : NodeId) (e : Option Envelope) (s : Option ScriptData)
    → view d (act.Compacted m ∷ past) n ≡ behind e s (view d past n) (out.Act (act.Compacted m))
step-compacted d past m n e s = refl

pub step-taken : (d : DocumentData) (past : List Act) (u : TxId) (j : ℕ) (sid : Ident) (v : Value) (n : NodeId)
    (e : Option Envelope) (s : Option ScriptData)
    → view d (act.Taken u j sid v ∷ past) n ≡ behind e s (view d past n) (out.Act (act.Taken u j sid v))
step-taken d past u j sid v n e s = same-view _ _ refl refl refl refl
    (λ t. desk-taken n (node d past n) (script_of t d.scripts) (story d past t) (u == t) j sid v)
    (λ t. acks-told n (node d past n) t (script_of t d.scripts) (story d past t) (u == t) (progressed (with_value j sid v)) (λ x. refl))

pub step-finished : (d : DocumentData) (past : List Act) (u : TxId) (n : NodeId) (e : Option Envelope)
    (s : Option ScriptData) → view d (act.Finished u ∷ past) n ≡ behind e s (view d past n) (out.Act (act.Finished u))
step-finished d past u n e s = same-view _ _ refl refl refl refl
    (λ t. desk-finished n (node d past n) (script_of t d.scripts) (story d past t) (u == t))
    (λ t. acks-told n (node d past n) t (script_of t d.scripts) (story d past t) (u == t) (λ x. record x { finished = true }) (λ x. refl))

pub step-aborted : (d : DocumentData) (past : List Act) (u : TxId) (m : NodeId) (why : Cause) (n : NodeId)
    (e : Option Envelope) (s : Option ScriptData)
    → view d (act.Aborted u m why ∷ past) n ≡ behind e s (view d past n) (out.Act (act.Aborted u m why))
step-aborted d past u m why n e s = same-view _ _ refl refl refl refl
    (λ t. desk-aborted n (node d past n) (script_of t d.scripts) (story d past t) (u == t))
    (λ t. acks-told n (node d past n) t (script_of t d.scripts) (story d past t) (u == t) (λ x. record x { aborted = true }) (λ x. refl))

-- a message is sent: a request moves the turn of its transaction
pub step-sent : (d : DocumentData) (past : List Act) (k : ℕ) (m to : NodeId) (said : Message) (n : NodeId)
    (e : Option Envelope) (s : Option ScriptData)
    → view d (act.Sent k m to said ∷ past) n ≡ behind e s (view d past n) (out.Send to said)
step-sent d past k m to (message.ReadReq q) n e s = same-view _ _ refl refl refl refl
    (λ t. desk-turn n (node d past n) (script_of t d.scripts) (story d past t) (q.t == t) (length (holders d.cluster.places q.key)))
    (λ t. acks-told n (node d past n) t (script_of t d.scripts) (story d past t) (q.t == t) (progressed (with_request (length (holders d.cluster.places q.key)))) (λ x. refl))
step-sent d past k m to said n e s = refl

-- ---- a transaction begins

begun-home : (nodes : NodeId → Node) (s : ScriptData) (sid0 : Ident)
    → open_at s.home (nodes s.home) (Some s) (Some (begun (times_over s.number (nodes s.home).journal) sid0))
    ≡ opened_by (undone s.number (nodes s.home).journal) (Some s) sid0
begun-home nodes s sid0 = let r : List Record = (nodes s.home).journal in rw (here s.home, later-now s.number r) (entry-begun s (is_closed s.number r) (undone s.number r) (times_over s.number r) sid0)

begun-desk : (d : DocumentData) (nodes : NodeId → Node) (n : NodeId) (s : ScriptData) (sid0 : Ident) (o : Option Story)
    → script_of s.number d.scripts ≡ Some s → s.home ≡ n → (t : TxId) → open_at n (nodes n) (script_of t d.scripts)
    (if s.number == t then Some (begun (over_at nodes (script_of t d.scripts)) sid0) else o) ≡ (if s.number == t
    then opened_by (undone t (nodes n).journal) (Some s) sid0 else open_at n (nodes n) (script_of t d.scripts) o)
begun-desk d nodes n s sid0 o script home t = elim (cases_eq s.number t) [
  | inl same ↦
      rw (← same, here s.number, script, ← home) (begun-home nodes s sid0)
  | inr other ↦ (let apart : (s.number == t) ≡ false = grind (arith, nat_tests) in rw apart refl)
]

begun-acks : (n : NodeId) (h : Node) (t : TxId) (so : Option ScriptData) (o : Option Story) (b : Bool) (k : ℕ)
    (sid0 : Ident) → acks_at n h t so (if b then Some (begun k sid0) else o) ≡ (if b then [] else acks_at n h t so o)
begun-acks n h t so o b k sid0 = grind arith

pub step-began : (d : DocumentData) (past : List Act) (n m : NodeId) (s : ScriptData) (sid0 : Ident)
    (e : Option Envelope) → script_of s.number d.scripts ≡ Some s → s.home ≡ n
    → view d (act.Began s.number m sid0 ∷ past) n
    ≡ behind e (Some s) (view d past n) (out.Act (act.Began s.number m sid0))
step-began d past n m s sid0 e script home = same-view _ _ refl refl refl refl
    (λ t. begun-desk d (node d past) n s sid0 (story d past t) script home t)
    (λ t. begun-acks n (node d past n) t (script_of t d.scripts) (story d past t) (s.number == t) (over_at (node d past) (script_of t d.scripts)) sid0)

-- ---- a transaction is closed

closed-desk : (n : NodeId) (h h' : Node) (so : Option ScriptData) (o : Option Story)
    → ((t : TxId) → decision t h'.journal ≡ decision t h.journal)
    → ((t : TxId) → times_decided t h'.journal ≡ times_decided t h.journal) → open_at n h' so o ≡ open_at n h so o
closed-desk n h h' None o same times = refl
closed-desk n h h' (Some s) o same times = rw (same s.number, times s.number, entry-closed s (is_closed s.number h'.journal) (is_closed s.number h.journal) (later_decision (skipped_in o) s.number h.journal) o) refl

closed-acks : (n : NodeId) (h h' : Node) (t : TxId) (so : Option ScriptData) (o : Option Story) (b : Bool)
    → decision t h'.journal ≡ decision t h.journal → is_closed t h'.journal ≡ (b || is_closed t h.journal)
    → acks_at n h' t so o ≡ (if b then [] else acks_at n h t so o)
closed-acks n h h' t so o true same closed = grind arith
closed-acks n h h' t so o false same closed = grind arith

pub step-closed : (d : DocumentData) (past : List Act) (n : NodeId) (u : TxId) (e : Option Envelope)
    (s : Option ScriptData) → is_home d u n ≡ true
    → view d (act.Closed u ∷ past) n ≡ behind e s (view d past n) (out.Act (act.Closed u))
step-closed d past n u e s home = same-view _ _ refl (rw home refl) (rw home refl) (rw home refl)
    (λ t. closed-desk n (node d past n) (node d (act.Closed u ∷ past) n) (script_of t d.scripts) (story d past t) (λ t. rw home refl) (λ t. rw home refl))
    (λ t. closed-acks n (node d past n) (node d (act.Closed u ∷ past) n) t (script_of t d.scripts) (story d past t) (u == t) (rw home refl) (rw home refl))

-- ---- a transaction is decided

-- what is known of a transaction that stands at the desk of n
pub record AtDesk (d : DocumentData) (past : List Act) (n : NodeId) (u : TxId) (x : Open) : Type 0 where
  pub script : script_of u d.scripts ≡ Some x.script
  pub number : x.script.number ≡ u
  pub home : x.script.home ≡ n
  pub undecided : later_decision (skipped_in (story d past u)) u (node d past n).journal ≡ None

entry-script : (s : ScriptData) (closed : Bool) (y : Option Decision) (o : Option Story) (x : Open)
    → entry s closed y o ≡ Some x → (x.script ≡ s) × (y ≡ None)
entry-script s closed None o x is = (grind arith, refl)
entry-script s closed (Some y) o x is = grind (arith, entry-decided s closed y o)

open-script : (n : NodeId) (h : Node) (so : Option ScriptData) (o : Option Story) (x : Open) → open_at n h so o ≡ Some x
    → (so ≡ Some x.script) × (x.script.home ≡ n) × (later_decision (skipped_in o) x.script.number h.journal ≡ None)
open-script n h None o x is = grind arith
open-script n h (Some s) o x is = go (s.home == n) refl is
  where
    go : (b : Bool) → (s.home == n) ≡ b → (if b
        then entry s (is_closed s.number h.journal) (later_decision (skipped_in o) s.number h.journal) o else None)
        ≡ Some x → (Some s ≡ Some x.script) × (x.script.home ≡ n)
        × (later_decision (skipped_in o) x.script.number h.journal ≡ None)
    go true at is = (let known = entry-script s (is_closed s.number h.journal) (later_decision (skipped_in o) s.number h.journal) o x is in rw known.0 (refl, grind (arith, nat_tests), known.1))
    go false at is = grind arith

pub at-desk : (d : DocumentData) (past : List Act) (n : NodeId) (u : TxId) (x : Open) → (view d past n).desk u ≡ Some x
    → AtDesk d past n u x
at-desk d past n u x is =
    let known = open-script n (node d past n) (script_of u d.scripts) (story d past u) x is in
    let number : x.script.number ≡ u = script-number u d.scripts x.script known.0 in
    record { script = known.0; number = number; home = known.1; undecided = subst (λ w. later_decision (skipped_in (story d past u)) w (node d past n).journal ≡ None) number known.2 }

decided-desk : (n : NodeId) (h h' : Node) (u t : TxId) (so : Option ScriptData) (o : Option Story) (y : Decision)
    → ((s : ScriptData) → so ≡ Some s → s.number ≡ t)
    → ((s : ScriptData) → so ≡ Some s → s.home ≡ n → skipped_in o ≤ times_decided s.number h.journal)
    → decision t h'.journal ≡ (if u == t then Some y else decision t h.journal)
    → times_decided t h'.journal ≡ (if u == t then times_decided t h.journal + 1 else times_decided t h.journal)
    → is_closed t h'.journal ≡ (if u == t then false else is_closed t h.journal)
    → open_at n h' so o ≡ (if u == t then None else open_at n h so o)
decided-desk n h h' u t None o y number most same times closed = grind arith
decided-desk n h h' u t (Some s) o y number most same times closed = elim (cases_eq s.home n) [
  | inl home ↦ go (most s refl home) (u == t) (rw (number s refl) same) (rw (number s refl) times) (rw (number s refl) closed)
  | inr other ↦ (let apart : (s.home == n) ≡ false = grind (arith, nat_tests) in rw apart (same-if (u == t) None))
]
  where
    go : skipped_in o ≤ times_decided s.number h.journal → (b : Bool)
        → decision s.number h'.journal ≡ (if b then Some y else decision s.number h.journal)
        → times_decided s.number h'.journal
        ≡ (if b then times_decided s.number h.journal + 1 else times_decided s.number h.journal)
        → is_closed s.number h'.journal ≡ (if b then false else is_closed s.number h.journal)
        → open_at n h' (Some s) o ≡ (if b then None else open_at n h (Some s) o)
    go k true same times closed =
        let later : later_decision (skipped_in o) s.number h'.journal ≡ Some y = rw (same, times) (grind (arith, nat_tests, k)) in
        rw (later, entry-decided s (is_closed s.number h'.journal) y o) (sym (same-if (s.home == n) None))
    go k false same times closed = rw (same, times, closed) refl

decided-acks : (n : NodeId) (h h' : Node) (u t : TxId) (so : Option ScriptData) (o : Option Story) (y : Decision)
    → (u ≡ t → acks_by o ≡ []) → decision t h'.journal ≡ (if u == t then Some y else decision t h.journal)
    → is_closed t h'.journal ≡ (if u == t then false else is_closed t h.journal)
    → acks_at n h' t so o ≡ (if u == t then [] else acks_at n h t so o)
decided-acks n h h' u t so o y none same closed = elim (cases_eq u t) [
  | inl eq ↦ (let at : (u == t) ≡ true = grind (arith, nat_tests) in let empty : acks_by o ≡ [] = none eq in grind arith)
  | inr other ↦ (let at : (u == t) ≡ false = grind (arith, nat_tests) in grind arith)
]

pub step-decided : (d : DocumentData) (past : List Act) (n : NodeId) (u : TxId) (f : Ident) (x : Open)
    (e : Option Envelope) (s : Option ScriptData) → (view d past n).desk u ≡ Some x
    → view d (act.Decided u f ∷ past) n ≡ behind e s (view d past n) (out.Act (act.Decided u f))
step-decided d past n u f x e s desk =
    let known = at-desk d past n u x desk in
    let home : is_home d u n ≡ true = rw known.script (grind (arith, nat_tests, known.home)) in
    let parts : parts_in d (script_of u d.scripts) ≡ parts_now d.cluster x = rw known.script refl in
    let none : later_decision (skipped_in (story d past u)) x.script.number (node d past x.script.home).journal ≡ None = rw (known.number, known.home) known.undecided in
    let empty : acks_by (story d past u) ≡ [] = undecided-acks d past x.script u known.script none in
    same-view _ _ refl (rw (home, desk, parts) refl) (rw (home, desk) refl) (rw home refl)
    (λ t. decided-desk n (node d past n) (node d (act.Decided u f ∷ past) n) u t (script_of t d.scripts) (story d past t) (record { final = f; parts = parts_in d (script_of u d.scripts) }) (λ s is. script-number t d.scripts s is) (λ s is at. subst (λ k. skipped_in (story d past t) ≤ times_decided s.number (node d past k).journal) at (over-there d past t s is).most) (rw home refl) (rw home refl) (rw home refl))
    (λ t. decided-acks n (node d past n) (node d (act.Decided u f ∷ past) n) u t (script_of t d.scripts) (story d past t) (record { final = f; parts = parts_in d (script_of u d.scripts) }) (λ eq. subst (λ w. acks_by (story d past w) ≡ []) eq empty) (rw home refl) (rw home refl))
