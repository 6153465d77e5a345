-- A claim on a story, and which acts leave it: one walk over what acts tell.
use Rattle.std.proofs.Common.{◌≡◌, ℕ, Bool, true, false, List, [], ◌∷◌, Option, Some, None, refl}
use Rattle.std.specs.Prelude.{◌==◌, ◌&&◌, if◌then◌else◌}
use Rattle.score_base.specs.declared.ids.TxId.{TxId}
use Rattle.score_base.specs.declared.ids.NodeId.{NodeId}
use Rattle.score_base.specs.declared.ids.Ident.{Ident}
use Rattle.score_base.specs.declared.causes.Ballot.TheVariants as ballot
use Rattle.script_lang.specs.Scripts.{ScriptData}
use Rattle.grid_model.specs.declared.acts.Act.{Act}
use Rattle.grid_model.specs.declared.acts.Act.TheVariants as act
use Rattle.grid_model.specs.declared.messages.Envelope.{Envelope}
use Rattle.grid_model.specs.declared.messages.Message.{Message}
use Rattle.grid_model.specs.declared.messages.Message.TheVariants as message
use Rattle.grid_model.specs.declared.stories.Story.{Story}
use Rattle.grid_model.specs.declared.stories.Voted.{Voted}
use Rattle.grid_model.specs.Documents.{DocumentData}
use Rattle.grid_model.specs.Histories.{sent, sent_at}
use Rattle.grid_model.specs.Nodes.{Node, node, script_of, parts_of, is_home}
use Rattle.grid_model.specs.Stories.{Phase, story, asked, heard, heard_at, if_told, is_counted_ack, is_counted_vote, phase_at, progressed, with_ack, with_node, with_vote, with_voted}

-- ---- a change

-- a change of a story, where it was told
pub if-claim : (P : Option Story → Type 0) (b : Bool) (f : Story → Story) (o : Option Story)
    → (b ≡ true → (x : Story) → P (Some x) → P (Some (f x))) → P o → P (if_told b f o)
if-claim P b f None go h = h
if-claim P true f (Some x) go h = go refl x h
if-claim P false f (Some x) go h = h

pub else-claim : (P : Option Story → Type 0) (b : Bool) (o p : Option Story) → (b ≡ true → P o) → P p
    → P (if b then o else p)
else-claim P true o p h k = h refl
else-claim P false o p h k = k

-- ---- what is got

-- a claim that a vote and an acknowledgement leave
pub record Hears (P : Option Story → Type 0) : Type 0 where
  pub vote : (n : NodeId) (p : Ident) (x : Story) → P (Some x) → P (Some (progressed (with_vote n p) x))
  pub ack : (n : NodeId) (x : Story) → P (Some x) → P (Some (with_ack n x))

heard-claim : (P : Option Story → Type 0) → Hears P → (ns : List NodeId) (g : Phase) (h : Node) (t : TxId) (n : NodeId)
    (said : Message) (o : Option Story) → P o → P (heard ns g h t n said o)
heard-claim P keeps ns g h t n (message.Vote u (ballot.Yes q)) o k =
    if-claim P ((u == t) && is_counted_vote ns g h.journal h.next n q) (progressed (with_vote n q)) o (λ e x i. keeps.vote n q x i) k
heard-claim P keeps ns g h t n (message.Ack u) o k =
    if-claim P ((u == t) && is_counted_ack ns g h.journal h.next n) (with_ack n) o (λ e x i. keeps.ack n x i) k
heard-claim P keeps ns g h t n said o k = k

-- a message that is got leaves it
pub got-claim : (P : Option Story → Type 0) → Hears P → (d : DocumentData) (past : List Act) (w : Option ScriptData)
    (e : Option Envelope) (o : Option Story) → P o → P (heard_at d past w e o)
got-claim P keeps d past None e o k = k
got-claim P keeps d past (Some s) None o k = k
got-claim P keeps d past (Some s) (Some e) o k =
    let h : Node = node d past s.home in
    else-claim P (e.to == s.home) (heard (parts_of d s) (phase_at s o h) h s.number e.from e.message o) o
    (λ i. heard-claim P keeps (parts_of d s) (phase_at s o h) h s.number e.from e.message o k) k

-- ---- all but a begin and a reply

-- a claim that all changes of a story leave but those of a begin and a reply
pub record Stays (P : Option Story → Type 0) : Type 0 where
  pub votes : (vs : List Voted) (x : Story) → P (Some x) → P (Some (progressed (λ y. record y { votes = vs }) x))
  pub acks : (ns : List NodeId) (x : Story) → P (Some x) → P (Some (record x { acks = ns }))
  pub turn : (k : ℕ) (x : Story) → P (Some x) → P (Some (progressed (λ y. record y { turn = k }) x))
  pub finished : (x : Story) → P (Some x) → P (Some (record x { finished = true }))
  pub aborted : (x : Story) → P (Some x) → P (Some (record x { aborted = true }))
  pub lost : (x : Story) → P (Some x) → P (Some (record x { lost = true }))

-- a claim that any votes and acknowledgements leave
pub hears-any : (P : Option Story → Type 0)
    → ((vs : List Voted) (x : Story) → P (Some x) → P (Some (progressed (λ y. record y { votes = vs }) x)))
    → ((ns : List NodeId) (x : Story) → P (Some x) → P (Some (record x { acks = ns }))) → Hears P
hears-any P votes acks = record {
  vote = λ n p x k. votes (with_voted n p x.progress.votes) x k;
  ack = λ n x k. acks (with_node n x.acks) x k;
}

-- a message that is sent
pub asked-claim : (P : Option Story → Type 0)
    → ((k : ℕ) (x : Story) → P (Some x) → P (Some (progressed (λ y. record y { turn = k }) x)))
    → (d : DocumentData) (t : TxId) (said : Message) (o : Option Story) → P o → P (asked d t said o)
asked-claim P turn d t (message.ReadReq q) o k = if-claim P (q.t == t) _ o (λ e x i. turn _ x i) k
asked-claim P turn d t said o k = k

-- an act that begins nothing and takes no reply
abbrev pub is_untaking : Act → Bool
is_untaking (act.Began t n sid0) = false
is_untaking (act.Taken t op sid v) = false
is_untaking a = true

-- it leaves the claim
pub untaking-claim : (P : Option Story → Type 0) → Stays P → (d : DocumentData) (past : List Act) (a : Act) (t : TxId)
    → is_untaking a ≡ true → P (story d past t) → P (story d (a ∷ past) t)
untaking-claim P s d past (act.Began u n sid0) t free k = cc
untaking-claim P s d past (act.Taken u op sid v) t free k = cc
untaking-claim P s d past (act.Sent m x y said) t free k = asked-claim P s.turn d t said (story d past t) k
untaking-claim P s d past (act.Got m) t free k =
    got-claim P (hears-any P s.votes s.acks) d past (script_of t d.scripts) (sent_at m (sent past)) (story d past t) k
untaking-claim P s d past (act.Finished u) t free k = if-claim P (u == t) _ (story d past t) (λ e x i. s.finished x i) k
untaking-claim P s d past (act.Aborted u n why) t free k =
    if-claim P (u == t) _ (story d past t) (λ e x i. s.aborted x i) k
untaking-claim P s d past (act.Lost u) t free k = if-claim P (u == t) _ (story d past t) (λ e x i. s.lost x i) k
untaking-claim P s d past (act.Down n h) t free k =
    if-claim P (is_home d t n) _ (story d past t) (λ e x i. s.acks [] (progressed (λ y. record y { votes = [] }) x) (s.votes [] x i)) k
untaking-claim P s d past a t free k = k
