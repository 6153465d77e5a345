-- Which identifier has a read: that of the snapshot, but for a first remote read.
use Rattle.std.proofs.Common.{◌≡◌, ◌≤◌, ℕ, ◌⊎◌, inl, inr, Bool, true, false, List, [], ◌∷◌, Option, Some, None, refl, sym, ap, subst, ◌∙◌}
use Rattle.std.proofs.Math.Nat.{le-max_left}
use Rattle.std.specs.Prelude.{◌==◌, if◌then◌else◌, max}
use Rattle.score_base.specs.declared.ids.TxId.{TxId}
use Rattle.score_base.specs.declared.ids.NodeId.{NodeId}
use Rattle.score_base.specs.declared.ids.Ident.{Ident}
use Rattle.script_lang.specs.Scripts.{ScriptData}
use Rattle.grid_model.specs.declared.acts.Act.{Act}
use Rattle.grid_model.specs.declared.acts.Act.TheVariants as act
use Rattle.grid_model.specs.declared.messages.Envelope.{Envelope}
use Rattle.grid_model.specs.declared.messages.Message.{Message}
use Rattle.grid_model.specs.declared.messages.Message.TheVariants as message
use Rattle.grid_model.specs.declared.messages.ReadReq.{ReadReq}
use Rattle.grid_model.specs.declared.messages.ReadRep.{ReadRep}
use Rattle.grid_model.specs.declared.stories.HeldRead.{HeldRead}
use Rattle.grid_model.specs.Documents.{DocumentData}
use Rattle.grid_model.specs.Histories.{sent, sent_at}
use Rattle.journal_words.specs.Journals.{commit_id}
use Rattle.grid_model.specs.Nodes.{got, held_by, held_from, with_held, journal, script_of}
use Rattle.script_runs.specs.Waits.{waiting}
use Rattle.grid_model.specs.Advances.{date_by}
use Rattle.grid_model.specs.Rows.{dated}
use Rattle.grid_laws.proofs.Causes.{AllDue, IsDue, IsIn, SendDue, RequestDue, Requested, ReplyDue, MayServe, at_once, held, held_ever}
use Rattle.grid_laws.proofs.Frames.{in-append}
use Rattle.grid_laws.proofs.Holds.{got-hold, sent-hold}
use Rattle.grid_laws.proofs.Begins.{BeganBelow, below-more, below-now}
use Rattle.grid_laws.proofs.Snapshots.{HasSnapshot, snapshot-more, snapshot-told, story-step}

-- operation op is the first remote read of t, which began at sid or below, or sid is the snapshot of t
pub record IsDated (d : DocumentData) (past : List Act) (t : TxId) (op : ℕ) (sid : Ident) : Type 0 where
  pub script : ScriptData
  pub is : script_of t d.scripts ≡ Some script
  pub dated : ((waiting script.ops [] ≡ Some op) × BeganBelow d past t sid) ⊎ HasSnapshot d past t sid

pub dated-more : (d : DocumentData) (past : List Act) (a : Act) (t : TxId) (op : ℕ) (sid : Ident) → AllDue d (a ∷ past)
    → IsDated d past t op sid → IsDated d (a ∷ past) t op sid
dated-more d past a t op sid due h =
    record {
      script = h.script;
      is = h.is;
      dated = elim h.dated [
        | inl first ↦ inl (first.0, below-more d past a t sid due first.1)
        | inr later ↦ inr (snapshot-more d past a t sid due later)
      ];
    }

-- ---- requests

-- whatever the commit identifier of its server
abbrev pub RequestDated : DocumentData → List Act → ReadReq → Type 0
RequestDated d past q = (c : Ident) → IsDated d past q.t q.op (dated q.date c)

request-due : (d : DocumentData) (past : List Act) (n y : NodeId) (q : ReadReq) → AllDue d past
    → RequestDue d past n y q → RequestDated d past q
request-due d past n y q all due c = elim (story-step d past q.t due.script due.story all due.at.script due.at.story) [
  | inl none ↦
      let reads : waiting due.script.ops [] ≡ Some q.op = ap (waiting due.script.ops) (sym none.1) ∙ due.reads in
      let sid0 : Ident = due.story.progress.sid0 in
      let is : dated q.date c ≡ max sid0 c = ap (λ z. dated z c) due.date ∙ ap (λ o. dated (date_by sid0 o) c) none.0 in
      let above : sid0 ≤ dated q.date c = rw is (le-max_left sid0 c) in
      let below = below-now d past q.t due.story (dated q.date c) due.at.story above in
      record { script = due.script; is = due.at.script; dated = inl (reads, below) }
  | inr some ↦
      let date : dated q.date c ≡ some.sid = ap (λ z. dated z c) due.date ∙ ap (λ o. dated (date_by due.story.progress.sid0 o) c) some.is in
      record { script = due.script; is = due.at.script; dated = inr (snapshot-told d past q.t due.story (dated q.date c) due.at.story (some.is ∙ ap (λ z. Some z) (sym date))) }
]

abbrev RequestsDated : DocumentData → List Act → NodeId → NodeId → Message → Type 0
RequestsDated d past n y (message.ReadReq q) = RequestDated d past q
RequestsDated d past n y said = Unit {0}

requests-more : (d : DocumentData) (past : List Act) (a : Act) (n y : NodeId) (said : Message) → AllDue d (a ∷ past)
    → RequestsDated d past n y said → RequestsDated d (a ∷ past) n y said
requests-more d past a n y (message.ReadReq q) due h = λ c. dated-more d past a q.t q.op (dated q.date c) due (h c)
requests-more d past a n y said due h = tt

requests-due : (d : DocumentData) (past : List Act) (n y : NodeId) (said : Message) → AllDue d past
    → SendDue d past n y said → RequestsDated d past n y said
requests-due d past n y (message.ReadReq q) all due = request-due d past n y q all due
requests-due d past n y said all due = tt

-- a read that was requested
pub requested-dated : (d : DocumentData) (past : List Act) (n : NodeId) (h : HeldRead) → AllDue d past
    → Requested d past n h → IsDated d past h.t h.op h.sid
requested-dated d past n h due asked =
    let q : ReadReq = asked.request in
    let c : Ident = commit_id (journal d past n) in
    let all : RequestDated d past q = got-hold (RequestsDated d) d past (λ now a n y said all h. requests-more d now a n y said all h) (λ now n y said all h. requests-due d now n y said all h) due (record { from = h.from; to = n; message = message.ReadReq q }) asked.got in
    let P : TxId → Type 0 = λ z. IsDated d past z h.op h.sid in
    let Q : ℕ → Type 0 = λ z. IsDated d past q.t z h.sid in
    let R : Ident → Type 0 = λ z. IsDated d past q.t q.op z in
    subst P (sym asked.t) (subst Q (sym asked.op) (subst R (sym asked.sid) (all c)))

-- ---- held reads

held-is : (e : Option Envelope) (t : TxId) (op : ℕ) (sid : Ident) (y : HeldRead) → held_by e t op sid ≡ Some y
    → (y.t ≡ t) × (y.op ≡ op) × (y.sid ≡ sid)
held-is None t op sid y is = cc
held-is (Some e) t op sid y is = from e.from e.message is
  where
    from : (x : NodeId) (said : Message) → held_from x said t op sid ≡ Some y → (y.t ≡ t) × (y.op ≡ op) × (y.sid ≡ sid)
    from x (message.ReadReq q) is =
        let z : record { t = t; op = op; sid = sid; key = q.key; from = x } ≡ y = cc in
        (ap (λ (h : HeldRead). h.t) (sym z), ap (λ (h : HeldRead). h.op) (sym z), ap (λ (h : HeldRead). h.sid) (sym z))
    from x said is = cc

held-new : (d : DocumentData) (past : List Act) (h : HeldRead) (o : Option HeldRead) (ever : List HeldRead) (t : TxId)
    (op : ℕ) (sid : Ident) → ((y : HeldRead) → o ≡ Some y → (y.t ≡ t) × (y.op ≡ op) × (y.sid ≡ sid))
    → IsDated d past t op sid → (IsIn h ever → IsDated d past h.t h.op h.sid) → IsIn h (with_held o ever)
    → IsDated d past h.t h.op h.sid
held-new d past h None ever t op sid is new go i = go i
held-new d past h (Some y) ever t op sid is new go i = elim (in-append h y ever i) [
  | inl j ↦ go j
  | inr e ↦
      let w = is y refl in
      let A : TxId → Type 0 = λ z. IsDated d past z op sid in
      let B : ℕ → Type 0 = λ z. IsDated d past y.t z sid in
      let C : Ident → Type 0 = λ z. IsDated d past y.t y.op z in
      let P : HeldRead → Type 0 = λ z. IsDated d past z.t z.op z.sid in
      subst P e (subst C (sym w.2) (subst B (sym w.1) (subst A (sym w.0) new)))
]

held-at : (d : DocumentData) (past : List Act) (h : HeldRead) (o : Option HeldRead) (ever : List HeldRead) (t : TxId)
    (op : ℕ) (sid : Ident) (b : Bool) → ((y : HeldRead) → o ≡ Some y → (y.t ≡ t) × (y.op ≡ op) × (y.sid ≡ sid))
    → IsDated d past t op sid → (IsIn h ever → IsDated d past h.t h.op h.sid)
    → IsIn h (if b then with_held o ever else ever) → IsDated d past h.t h.op h.sid
held-at d past h o ever t op sid false is new go i = go i
held-at d past h o ever t op sid true is new go i = held-new d past h o ever t op sid is new go i

held-before : (d : DocumentData) (past : List Act) (a : Act) (n : NodeId) (h : HeldRead) → AllDue d past
    → IsDue d past a → (IsIn h (held_ever d past n) → IsDated d past h.t h.op h.sid) → IsIn h (held_ever d (a ∷ past) n)
    → IsDated d past h.t h.op h.sid
held-before d past (act.Held m t op sid) n h all due go i = held-at d past h (held_by (got past) t op sid) (held_ever d past n) t op sid (m == n) (λ y e. held-is (got past) t op sid y e) (requested-dated d past m (record { t = t; op = op; sid = sid; key = due.0; from = due.1 }) all due.2.requested) go i
held-before d past a n h all due go i = go i

-- each read that was held
pub held-dated : (d : DocumentData) (past : List Act) → AllDue d past → (n : NodeId) (h : HeldRead)
    → IsIn h (held_ever d past n) → IsDated d past h.t h.op h.sid
held-dated d [] due n h i = absurd i
held-dated d (a ∷ past) due n h i = dated-more d past a h.t h.op h.sid due (held-before d past a n h due.1 due.0 (held-dated d past due.1 n h) i)

-- ---- replies

served-dated : (d : DocumentData) (past : List Act) (n : NodeId) (h : HeldRead) → AllDue d past → MayServe d past n h
    → IsDated d past h.t h.op h.sid
served-dated d past n h due (at_once asked cover) = requested-dated d past n h due asked
served-dated d past n h due (held i) = held-dated d past due n h i

reply-due : (d : DocumentData) (past : List Act) (n y : NodeId) (q : ReadRep) → AllDue d past
    → ReplyDue d past n y q.t q.op q.sid q.value → IsDated d past q.t q.op q.sid
reply-due d past n y q all due =
    let a : Act = act.Served n q.t q.op due.key q.sid due.vn q.value in
    let P : List Act → Type 0 = λ p. AllDue d p in
    let Q : List Act → Type 0 = λ p. IsDated d p q.t q.op q.sid in
    let before : AllDue d (a ∷ due.before) = subst P due.is all in
    subst Q (sym due.is) (dated-more d due.before a q.t q.op q.sid before (served-dated d due.before n (record { t = q.t; op = q.op; sid = q.sid; key = due.key; from = y }) before.1 due.may))

abbrev RepliesDated : DocumentData → List Act → NodeId → NodeId → Message → Type 0
RepliesDated d past n y (message.ReadRep q) = IsDated d past q.t q.op q.sid
RepliesDated d past n y said = Unit {0}

replies-more : (d : DocumentData) (past : List Act) (a : Act) (n y : NodeId) (said : Message) → AllDue d (a ∷ past)
    → RepliesDated d past n y said → RepliesDated d (a ∷ past) n y said
replies-more d past a n y (message.ReadRep q) due h = dated-more d past a q.t q.op q.sid due h
replies-more d past a n y said due h = tt

replies-due : (d : DocumentData) (past : List Act) (n y : NodeId) (said : Message) → AllDue d past
    → SendDue d past n y said → RepliesDated d past n y said
replies-due d past n y (message.ReadRep q) all due = reply-due d past n y q all due
replies-due d past n y said all due = tt

-- each reply that was sent
pub reply-dated : (d : DocumentData) (past : List Act) (m : ℕ) (x y : NodeId) (q : ReadRep) → AllDue d past
    → sent_at m (sent past) ≡ Some (record { from = x; to = y; message = message.ReadRep q })
    → IsDated d past q.t q.op q.sid
reply-dated d past m x y q due is = sent-hold (RepliesDated d) d past (λ now a n y said all h. replies-more d now a n y said all h) (λ now n y said all h. replies-due d now n y said all h) due m (record { from = x; to = y; message = message.ReadRep q }) is

-- the reply that was got last
pub reply-got : (d : DocumentData) (past : List Act) (x n : NodeId) (q : ReadRep) → AllDue d past
    → got past ≡ Some (record { from = x; to = n; message = message.ReadRep q })
    → IsDated d past q.t q.op q.sid
reply-got d past x n q due is =
    got-hold (RepliesDated d) d past
    (λ now a n y said all h. replies-more d now a n y said all h)
    (λ now n y said all h. replies-due d now n y said all h)
    due (record { from = x; to = n; message = message.ReadRep q }) is
