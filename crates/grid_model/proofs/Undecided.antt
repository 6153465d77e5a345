-- The Decided that do not count are over; and no acknowledgement is taken of a transaction that its home has not
-- decided.
use Rattle.std.proofs.Common.{ℕ, Bool, ◌==◌, if◌then◌else◌, sym, subst, true, false, List, [], ◌∷◌, Option, None, Some, ◌≡◌, refl, arith}
use Rattle.std.proofs.lemmas.Bool.Decides.{nat_tests}
use Rattle.score_base.specs.declared.ids.TxId.{TxId}
use Rattle.score_base.specs.declared.ids.NodeId.{NodeId}
use Rattle.score_base.specs.declared.causes.Ballot.TheVariants as ballot
use Rattle.script_lang.specs.Scripts.{ScriptData}
use Rattle.script_lang.specs.declared.scripts.Op.{Op}
use Rattle.grid_model.specs.declared.acts.Act.{Act}
use Rattle.grid_model.specs.declared.acts.Act.TheVariants as act
use Rattle.grid_model.specs.declared.messages.Envelope.{Envelope}
use Rattle.grid_model.specs.declared.messages.Message.{Message}
use Rattle.grid_model.specs.declared.messages.Message.TheVariants as message
use Rattle.grid_model.specs.declared.stories.Story.{Story}
use Rattle.grid_model.specs.Documents.{DocumentData}
use Rattle.grid_model.specs.Histories.{sent, sent_at}
use Rattle.journal_words.specs.Journals.{later_decision}
use Rattle.journal_words.proofs.Later.{AreOver, over-now, over-more, later-more}
use Rattle.grid_model.proofs.Growing.{journal-more, journal-before}
use Rattle.grid_model.specs.Nodes.{Node, node, journal, script_of, is_home, parts_of}
use Rattle.grid_model.specs.Stories.{Phase, story, told, begun, skipped_in, over_at, heard, heard_at, if_told, phase_by, phase_at, is_decided, with_vote, with_value, with_request, without_answers, progressed, with_ack}
use Rattle.grid_model.specs.Views.{acks_by}

-- the script of a number has that number
pub script-number : (t : TxId) (ss : List ScriptData) (s : ScriptData) → script_of t ss ≡ Some s → s.number ≡ t
script-number t [] s is = grind arith
script-number t (x ∷ ss) s is = grind (arith, nat_tests, script-number t ss s)

-- ---- the Decided that do not count

-- the act begins t
abbrev pub begins : TxId → Act → Bool
begins t (act.Began u n sid0) = u == t
begins t a = false

skipped-if : (b : Bool) (f : Story → Story) (o : Option Story) → ((x : Story) → (f x).skipped ≡ x.skipped)
    → skipped_in (if_told b f o) ≡ skipped_in o
skipped-if b f None keeps = refl
skipped-if true f (Some x) keeps = keeps x
skipped-if false f (Some x) keeps = refl

pub skipped-heard : (ns : List NodeId) (p : Phase) (h : Node) (t : TxId) (x : NodeId) (said : Message)
    (o : Option Story) → skipped_in (heard ns p h t x said o) ≡ skipped_in o
skipped-heard ns p h t x (message.Vote u (ballot.Yes q)) o = skipped-if _ (progressed (with_vote x q)) o (λ z. refl)
skipped-heard ns p h t x (message.Ack u) o = skipped-if _ (with_ack x) o (λ z. refl)
skipped-heard ns p h t x said o = refl

skipped-got : (d : DocumentData) (past : List Act) (so : Option ScriptData) (e : Option Envelope) (o : Option Story)
    → skipped_in (heard_at d past so e o) ≡ skipped_in o
skipped-got d past None e o = refl
skipped-got d past (Some s) None o = refl
skipped-got d past (Some s) (Some e) o = go (e.to == s.home)
  where
    go : (b : Bool) → skipped_in (if b then heard (parts_of d s) (phase_at s o (node d past s.home))
        (node d past s.home) s.number e.from e.message o else o) ≡ skipped_in o
    go true = skipped-heard (parts_of d s) (phase_at s o (node d past s.home)) (node d past s.home) s.number e.from e.message o
    go false = refl

-- they change where it begins alone
pub skipped-same : (d : DocumentData) (past : List Act) (a : Act) (t : TxId) (o : Option Story) → begins t a ≡ false
    → skipped_in (told d past a t o) ≡ skipped_in o
skipped-same d past (act.Began u n sid0) t o is = rw is refl
skipped-same d past (act.Sent m x y (message.ReadReq q)) t o is = skipped-if (q.t == t) (progressed (with_request _)) o (λ z. refl)
skipped-same d past (act.Sent m x y said) t o is = refl
skipped-same d past (act.Got m) t o is = skipped-got d past (script_of t d.scripts) (sent_at m (sent past)) o
skipped-same d past (act.Taken u j sid v) t o is = skipped-if (u == t) (progressed (with_value j sid v)) o (λ z. refl)
skipped-same d past (act.Finished u) t o is = skipped-if (u == t) _ o (λ z. refl)
skipped-same d past (act.Aborted u n c) t o is = skipped-if (u == t) _ o (λ z. refl)
skipped-same d past (act.Lost u) t o is = skipped-if (u == t) _ o (λ z. refl)
skipped-same d past (act.Down n h) t o is = skipped-if (is_home d t n) without_answers o (λ z. refl)
skipped-same d past a t o is = refl

-- what holds of them where t begins, and is kept by each act, holds of them
pub skipped-told : (P : ℕ → Type 0) (d : DocumentData) (past : List Act) (a : Act) (t : TxId)
    → (begins t a ≡ true → P (over_at (node d past) (script_of t d.scripts))) → P (skipped_in (story d past t))
    → P (skipped_in (story d (a ∷ past) t))
skipped-told P d past (act.Began u n sid0) t first k = go (u == t) refl
  where
    go : (b : Bool) → (u == t) ≡ b → P
        (skipped_in (if b then Some (begun (over_at (node d past) (script_of t d.scripts)) sid0) else story d past t))
    go true at = first at
    go false at = k
skipped-told P d past a t first k = subst P (sym (skipped-same d past a t (story d past t) refl)) k

-- they are over: none of them stands open at its home
pub over-there : (d : DocumentData) (past : List Act) (t : TxId) (s : ScriptData) → script_of t d.scripts ≡ Some s
    → AreOver (skipped_in (story d past t)) s.number (journal d past s.home)
over-there d [] t s script = record { most = grind arith; rest = refl }
over-there d (a ∷ past) t s script =
    journal-more (λ r. AreOver (skipped_in (story d (a ∷ past) t)) s.number r) (λ x r k. over-more (skipped_in (story d (a ∷ past) t)) s.number x r k) d past a s.home
    (skipped-told (λ k. AreOver k s.number (journal d past s.home)) d past a t (λ e. rw script (over-now s.number (journal d past s.home))) (over-there d past t s script))

-- ---- acknowledgements

undecided-phase : (ops : List Op) (o : Option Story) (closed : Bool) → is_decided (phase_by ops o closed None) ≡ false
undecided-phase ops o closed = grind arith

told-acks : (b : Bool) (f : Story → Story) (o : Option Story) → ((x : Story) → x.acks ≡ [] → (f x).acks ≡ [])
    → acks_by o ≡ [] → acks_by (if_told b f o) ≡ []
told-acks b f None keeps is = refl
told-acks true f (Some x) keeps is = keeps x is
told-acks false f (Some x) keeps is = is

heard-acks : (s : ScriptData) (ns : List NodeId) (h : Node) (x : NodeId) (said : Message) (o : Option Story)
    → later_decision (skipped_in o) s.number h.journal ≡ None → acks_by o ≡ []
    → acks_by (heard ns (phase_at s o h) h s.number x said o) ≡ []
heard-acks s ns h x (message.Vote u (ballot.Yes p)) o none is = told-acks _ (progressed (with_vote x p)) o (λ z h. h) is
heard-acks s ns h x (message.Vote u (ballot.No why)) o none is = is
heard-acks s ns h x (message.Ack u) o none is = rw (none, undecided-phase s.ops o) (grind arith)
heard-acks s ns h x said o none is = is

got-acks : (d : DocumentData) (past : List Act) (s : ScriptData) (e : Option Envelope) (o : Option Story)
    → later_decision (skipped_in o) s.number (node d past s.home).journal ≡ None → acks_by o ≡ []
    → acks_by (heard_at d past (Some s) e o) ≡ []
got-acks d past s None o none is = is
got-acks d past s (Some e) o none is = grind (arith, heard-acks s (parts_of d s) (node d past s.home) e.from e.message o none is)

told_one-acks : (d : DocumentData) (past : List Act) (a : Act) (s : ScriptData) (t : TxId)
    → script_of t d.scripts ≡ Some s → (o : Option Story)
    → (begins t a ≡ false → later_decision (skipped_in o) s.number (node d past s.home).journal ≡ None)
    → (begins t a ≡ false → acks_by o ≡ []) → acks_by (told d past a t o) ≡ []
told_one-acks d past (act.Began u n sid0) s t script o none is = begun-acks (u == t) refl
  where
    begun-acks : (b : Bool) → (u == t) ≡ b
        → acks_by (if b then Some (begun (over_at (node d past) (script_of t d.scripts)) sid0) else o) ≡ []
    begun-acks true at = refl
    begun-acks false at = is at
told_one-acks d past (act.Sent m x y (message.ReadReq q)) s t script o none is = told-acks _ (progressed (with_request _)) o (λ z h. h) (is refl)
told_one-acks d past (act.Sent m x y said) s t script o none is = is refl
told_one-acks d past (act.Got m) s t script o none is = rw script (got-acks d past s (sent_at m (sent past)) o (none refl) (is refl))
told_one-acks d past (act.Taken u j sid v) s t script o none is = told-acks _ (progressed (with_value j sid v)) o (λ z h. h) (is refl)
told_one-acks d past (act.Finished u) s t script o none is = told-acks _ _ o (λ z h. h) (is refl)
told_one-acks d past (act.Aborted u n c) s t script o none is = told-acks _ _ o (λ z h. h) (is refl)
told_one-acks d past (act.Lost u) s t script o none is = told-acks _ _ o (λ z h. h) (is refl)
told_one-acks d past (act.Down n h) s t script o none is = told-acks _ without_answers o (λ z h. refl) (is refl)
told_one-acks d past a s t script o none is = is refl

-- no acknowledgement is taken of a transaction that its home has not decided
pub undecided-acks : (d : DocumentData) (past : List Act) (s : ScriptData) (t : TxId) → script_of t d.scripts ≡ Some s
    → later_decision (skipped_in (story d past t)) s.number (node d past s.home).journal ≡ None
    → acks_by (story d past t) ≡ []
undecided-acks d [] s t script none = refl
undecided-acks d (a ∷ past) s t script none =
    told_one-acks d past a s t script (story d past t) before (λ e. undecided-acks d past s t script (before e))
  where
    before : begins t a ≡ false
        → later_decision (skipped_in (story d past t)) s.number (node d past s.home).journal ≡ None
    before e =
        let P : ℕ → Type 0 = λ k. later_decision k s.number (journal d (a ∷ past) s.home) ≡ None in
        journal-before (λ r. later_decision (skipped_in (story d past t)) s.number r ≡ None) (λ x r k. later-more (skipped_in (story d past t)) s.number x r k) d past a s.home (subst P (skipped-same d past a t (story d past t) e) none)
