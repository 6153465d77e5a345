-- A transaction of which an abort was told can never commit.
use Rattle.journal_words.proofs.Later.{undecided-later}
use Rattle.grid_laws.proofs.StoryClaims.{asked-claim, else-claim, got-claim, hears-any, if-claim}
use Rattle.std.proofs.Common.{◌≡◌, ◌⊎◌, inl, inr, ℕ, Bool, true, false, List, [], ◌∷◌, Option, Some, None, refl, sym, ap, subst, ◌∙◌, arith}
use Rattle.std.proofs.lemmas.Bool.Decides.{nat_tests}
use Rattle.std.proofs.lemmas.Bool.{or_right, both_ways, or_left}
use Rattle.std.specs.Prelude.{◌==◌, ◌||◌}
use Rattle.score_base.specs.declared.ids.TxId.{TxId}
use Rattle.score_base.specs.declared.ids.NodeId.{NodeId}
use Rattle.score_base.specs.declared.causes.Outcome.TheVariants as outcome
use Rattle.score_base.specs.declared.records.Record.{Record}
use Rattle.script_lang.specs.Scripts.{ScriptData}
use Rattle.script_lang.specs.Reads.{is_update}
use Rattle.grid_model.specs.declared.acts.Act.{Act}
use Rattle.grid_model.specs.declared.acts.Act.TheVariants as act
use Rattle.grid_model.specs.declared.messages.Message.{Message}
use Rattle.grid_model.specs.declared.messages.Message.TheVariants as message
use Rattle.grid_model.specs.declared.messages.Prepare.{Prepare}
use Rattle.grid_model.specs.declared.stories.Story.{Story}
use Rattle.grid_model.specs.Documents.{DocumentData}
use Rattle.grid_model.specs.Histories.{sent, sent_at}
use Rattle.journal_words.specs.Journals.{Decision, Prepared, decision, ended, home_in, is_closed, prepared_of, undone}
use Rattle.grid_model.specs.Nodes.{Node, got, journal, node, script_of, is_home}
use Rattle.grid_model.specs.Stories.{story, phase_at, is_open, begun_in}
use Rattle.script_runs.specs.Waits.{waiting}
use Rattle.grid_model.specs.Views.{Open, Apart, acks_at, open_at, open_of, open_stage, stage, stage_by, view}
use Rattle.grid_model.specs.Facts.{is_given_up, is_over, MeansNever}
use Rattle.grid_model.proofs.Undecided.{script-number}
use Rattle.grid_laws.proofs.Causes.{AllDue, IsGot, AbortDue, ended_so, given_up, apart, SendDue}
use Rattle.grid_laws.proofs.Holds.{got-hold}
use Rattle.grid_laws.proofs.PreparesSay.{PrepareSays, prepare-more, prepared-say, first-prepared}
use Rattle.grid_laws.proofs.ClosedSay.{over-more, closed-say, closed-stands}

-- ---- what a story's flags mean

abbrev pub Meant : List Act → TxId → Option Story → Type 0
Meant past t None = Unit {0}
Meant past t (Some x) = (x.lost ≡ true → is_given_up t past ≡ true) × (x.aborted ≡ true → is_given_up t past ≡ true)

pub given-more : (a : Act) (past : List Act) (t : TxId) → is_given_up t past ≡ true → is_given_up t (a ∷ past) ≡ true
given-more (act.Aborted u n why) past t h = or_right (u == t) (is_given_up t past) h
given-more (act.Lost u) past t h = or_right (u == t) (is_given_up t past) h
given-more a past t h = h

meant-more : (a : Act) (past : List Act) (t : TxId) (o : Option Story) → Meant past t o → Meant (a ∷ past) t o
meant-more a past t None h = tt
meant-more a past t (Some x) h = (λ e. given-more a past t (h.0 e), λ e. given-more a past t (h.1 e))

meant-told : (d : DocumentData) (past now : List Act) (a : Act) (t : TxId) → now ≡ a ∷ past
    → Meant now t (story d past t) → Meant now t (story d (a ∷ past) t)
meant-told d past now (act.Began u n sid0) t at k =
    else-claim (Meant now t) (u == t) (Some (begun_in d (node d past) t sid0)) (story d past t) (λ same. (λ e. cc, λ e. cc)) k
meant-told d past now (act.Sent m x y said) t at k = asked-claim (Meant now t) (λ j x i. i) d t said (story d past t) k
meant-told d past now (act.Got m) t at k =
    got-claim (Meant now t) (hears-any (Meant now t) (λ vs x i. i) (λ ns x i. i)) d past (script_of t d.scripts)
    (sent_at m (sent past)) (story d past t) k
meant-told d past now (act.Taken u j sid v) t at k = if-claim (Meant now t) (u == t) _ (story d past t) (λ e x i. i) k
meant-told d past now (act.Finished u) t at k = if-claim (Meant now t) (u == t) _ (story d past t) (λ e x i. i) k
meant-told d past now (act.Aborted u n why) t at k =
    if-claim (Meant now t) (u == t) _ (story d past t)
    (λ e x i. (i.0, λ f. rw at (or_left (u == t) (is_given_up t past) e))) k
meant-told d past now (act.Lost u) t at k =
    if-claim (Meant now t) (u == t) _ (story d past t)
    (λ e x i. (λ f. rw at (or_left (u == t) (is_given_up t past) e), i.1)) k
meant-told d past now (act.Down n h) t at k = if-claim (Meant now t) (is_home d t n) _ (story d past t) (λ e x i. i) k
meant-told d past now a t at k = k

pub flags-meant : (d : DocumentData) (past : List Act) (t : TxId) → Meant past t (story d past t)
flags-meant d [] t = tt
flags-meant d (a ∷ past) t =
    meant-told d past (a ∷ past) a t refl (meant-more a past t (story d past t) (flags-meant d past t))

-- ---- a part that asks has a Prepared

-- x asked y, the home, for an update of which it has a Prepared
record Asks (d : DocumentData) (past : List Act) (x y : NodeId) (u : TxId) : Type 0 where
  prepare : Prepare
  says : PrepareSays d past y x prepare
  t : u ≡ prepare.t

abbrev AsksOf : DocumentData → List Act → NodeId → NodeId → Message → Type 0
AsksOf d past x y (message.Ask t) = Asks d past x y t
AsksOf d past x y said = Unit {0}

asks-more : (d : DocumentData) (past : List Act) (a : Act) (x y : NodeId) (said : Message) → AllDue d (a ∷ past)
    → AsksOf d past x y said → AsksOf d (a ∷ past) x y said
asks-more d past a x y (message.Ask t) due s = record { prepare = s.prepare; says = prepare-more d past a y x s.prepare due s.says; t = s.t }
asks-more d past a x y said due s = tt

asks-home : (d : DocumentData) (past : List Act) (x y : NodeId) (t : TxId) (o : Option Prepared) → AllDue d past
    → prepared_of t (journal d past x) ≡ o → home_in o ≡ Some y → Asks d past x y t
asks-home d past x y t None all is home = cc
asks-home d past x y t (Some w) all is home =
    let first = first-prepared d past x t w (journal d past x) (prepared-say d past all x).journal is in
    let same : w.home ≡ y = cc in
    let P : NodeId → Type 0 = λ k. PrepareSays d past k x first.prepare in
    record { prepare = first.prepare; says = subst P same first.says; t = first.t }

asks-due : (d : DocumentData) (past : List Act) (x y : NodeId) (said : Message) → AllDue d past
    → SendDue d past x y said → AsksOf d past x y said
asks-due d past x y (message.Ask t) all due = asks-home d past x y t (prepared_of t (journal d past x)) all refl due.1
asks-due d past x y said all due = tt

asked-last : (d : DocumentData) (past : List Act) (n y : NodeId) (t : TxId) → AllDue d past
    → IsGot past n y (message.Ask t) → Asks d past y n t
asked-last d past n y t all is = got-hold (AsksOf d) d past (λ now a m k said due h. asks-more d now a m k said due h) (λ now m k said due h. asks-due d now m k said due h) all (record { from = y; to = n; message = message.Ask t }) is

-- ---- a home that knows no more of a transaction

apart-undone : (u : Option Decision) (o : Option Open) (acks : List NodeId) → stage_by u o acks ≡ Apart
    → (u ≡ None) × (o ≡ None)
apart-undone (Some y) o acks e = cc
apart-undone None None acks e = (refl, refl)
apart-undone None (Some x) acks e = absurd (other (waiting x.script.ops x.progress.values) e)
  where
    other : (w : Option ℕ) → open_stage x w ≡ Apart → ⊥
    other None i = cc
    other (Some j) i = cc

not-open : (n : NodeId) (h : Node) (s : ScriptData) (x : Story) (b : Bool) → s.home ≡ n
    → is_open (phase_at s (Some x) h) ≡ b → open_at n h (Some s) (Some x) ≡ None
    → is_open (phase_at s (Some x) h) ≡ false
not-open n h s x false home e is = e
not-open n h s x true home e is = absurd (none-some (open_of s x) (sym opens ∙ is))
  where
    none-some : (y : Open) → Some y ≡ None → ⊥
    none-some y i = cc

    opens : open_at n h (Some s) (Some x) ≡ Some (open_of s x)
    opens = let here : (s.home == n) ≡ true = grind (arith, nat_tests) in rw here (rw e refl)

undone-none : (t : TxId) (r : List Record) → is_closed t r ≡ false → undone t r ≡ None → decision t r ≡ None
undone-none t r e is = rw e at is

-- a full update that is neither lost, closed nor aborted, and has no Decided, is open
still-open : (s : ScriptData) (x : Story) (h : Node) → x.lost ≡ false → is_closed s.number h.journal ≡ false
    → decision s.number h.journal ≡ None → x.aborted ≡ false → is_update s.ops ≡ true
    → waiting s.ops x.progress.values ≡ None → is_open (phase_at s (Some x) h) ≡ true
still-open s x h a b c e u w = rw (undecided-later x.skipped s.number h.journal c) (grind (arith, a, e, u, w))

-- it was given up, or n has closed it
abbrev pub IsGone : DocumentData → List Act → NodeId → TxId → Type 0
IsGone d past n t = (is_given_up t past ≡ true) ⊎ (is_closed t (journal d past n) ≡ true)

gone : (d : DocumentData) (past : List Act) (n : NodeId) (t : TxId) (s : ScriptData) (x : Story) (l c a : Bool)
    → s.number ≡ t → Meant past t (Some x) → undone t (journal d past n) ≡ None → is_update s.ops ≡ true
    → waiting s.ops x.progress.values ≡ None → is_open (phase_at s (Some x) (node d past n)) ≡ false → x.lost ≡ l
    → is_closed t (journal d past n) ≡ c → x.aborted ≡ a → IsGone d past n t
gone d past n t s x true c a number meant undone update full closes e1 e2 e3 = inl (meant.0 e1)
gone d past n t s x false true a number meant undone update full closes e1 e2 e3 = inr e2
gone d past n t s x false false true number meant undone update full closes e1 e2 e3 = inl (meant.1 e3)
gone d past n t s x false false false number meant undone update full closes e1 e2 e3 =
    let P : TxId → Type 0 = λ u. is_closed u (journal d past n) ≡ false in
    let Q : TxId → Type 0 = λ u. decision u (journal d past n) ≡ None in
    absurd (both_ways (is_open (phase_at s (Some x) (node d past n))) closes (still-open s x (node d past n) e1 (subst P (sym number) e2) (subst Q (sym number) (undone-none t (journal d past n) e2 undone)) e3 update full))

-- the home that was asked knows no more of it
pub apart-gone : (d : DocumentData) (past : List Act) (n y : NodeId) (t : TxId) → AllDue d past
    → IsGot past n y (message.Ask t) → stage (view d past n) t ≡ Apart → IsGone d past n t
apart-gone d past n y t all got is =
    let asks : Asks d past y n t = asked-last d past n y t all got in
    let f = asks.says.full in
    let s : ScriptData = asks.says.script in
    let x : Story = f.story in
    let P : TxId → Type 0 = λ u. script_of u d.scripts ≡ Some s in
    let Q : TxId → Type 0 = λ u. story d past u ≡ Some x in
    let script : script_of t d.scripts ≡ Some s = subst P (sym asks.t) f.at.script in
    let told : story d past t ≡ Some x = subst Q (sym asks.t) f.at.story in
    let parts = apart-undone (undone t (node d past n).journal) (open_at n (node d past n) (script_of t d.scripts) (story d past t)) (acks_at n (node d past n) t (script_of t d.scripts) (story d past t)) is in
    let closes : open_at n (node d past n) (Some s) (Some x) ≡ None = rw (script, told) at parts.1 in
    let R : Option Story → Type 0 = λ o. Meant past t o in
    gone d past n t s x x.lost (is_closed t (journal d past n)) x.aborted (script-number t d.scripts s script) (subst R told (flags-meant d past t)) parts.0 asks.says.update (ap (waiting s.ops) f.told ∙ f.full) (not-open n (node d past n) s x (is_open (phase_at s (Some x) (node d past n))) f.at.home refl closes) refl refl refl

apart-never : (d : DocumentData) (past : List Act) (n y : NodeId) (t : TxId) → AllDue d past
    → IsGot past n y (message.Ask t) → stage (view d past n) t ≡ Apart → (is_given_up t past || is_over d past t) ≡ true
apart-never d past n y t all got is = elim (apart-gone d past n y t all got is) [
  | inl given ↦ or_left (is_given_up t past) (is_over d past t) given
  | inr closed ↦ or_right (is_given_up t past) (is_over d past t) (closed-stands d past n t (journal d past n) (closed-say d past all n).journal closed)
]

-- ---- each abort that was told

never-more : (d : DocumentData) (past : List Act) (a : Act) (t : TxId) (b c : Bool) → is_given_up t past ≡ b
    → is_over d past t ≡ c → (b || c) ≡ true → (is_given_up t (a ∷ past) || is_over d (a ∷ past) t) ≡ true
never-more d past a t true c g o h = or_left (is_given_up t (a ∷ past)) (is_over d (a ∷ past) t) (given-more a past t g)
never-more d past a t false true g o h = or_right (is_given_up t (a ∷ past)) (is_over d (a ∷ past) t) (over-more d past a t o)
never-more d past a t false false g o h = cc

pub means-more : (d : DocumentData) (past : List Act) (a : Act) (n : NodeId) (said : Message) → MeansNever d past n said
    → MeansNever d (a ∷ past) n said
means-more d past a n (message.Tell t outcome.Abort) h = never-more d past a t (is_given_up t past) (is_over d past t) refl refl h
means-more d past a n said h = tt

abort-never : (d : DocumentData) (past : List Act) (n y : NodeId) (t : TxId) → AllDue d past
    → (ended t (journal d past n) ≡ Some outcome.Abort → is_given_up t past ≡ true) → AbortDue d past n y t
    → (is_given_up t past || is_over d past t) ≡ true
abort-never d past n y t all ends (ended_so got is) = or_left (is_given_up t past) (is_over d past t) (ends is)
abort-never d past n y t all ends (given_up h) = or_left (is_given_up t past) (is_over d past t) h
abort-never d past n y t all ends (apart got is) = apart-never d past n y t all got is

-- where what a node ended with abort was given up, each abort that it tells is final
pub means-due : (d : DocumentData) (past : List Act) (n y : NodeId) (said : Message) → AllDue d past
    → ((t : TxId) → ended t (journal d past n) ≡ Some outcome.Abort → is_given_up t past ≡ true)
    → SendDue d past n y said → MeansNever d past n said
means-due d past n y (message.Tell t outcome.Abort) all ends due = abort-never d past n y t all (ends t) due
means-due d past n y said all ends due = tt
