-- In each run the serial order keeps the order of each session.
use Rattle.std.proofs.Common.{◌≡◌, ◌≤◌, ◌<◌, ℕ, Bool, true, false, List, [], ◌∷◌, ◌++◌, Option, Some, None, refl, sym, subst, ◌∙◌, arith}
use Rattle.std.proofs.Math.Nat.{le-max_right}
use Rattle.std.proofs.lemmas.Bool.{both_ways, true_from_ne_false}
use Rattle.std.proofs.lemmas.List.{append_assoc}
use Rattle.std.proofs.lemmas.Option.{same_Some}
use Rattle.std.specs.Prelude.{◌&&◌}
use Rattle.score_base.specs.declared.ids.TxId.{TxId}
use Rattle.score_base.specs.declared.ids.NodeId.{NodeId}
use Rattle.score_base.specs.declared.ids.Ident.{Ident}
use Rattle.script_lang.specs.Scripts.{ScriptData}
use Rattle.journal_words.specs.Journals.{commit_id}
use Rattle.grid_model.specs.declared.acts.Act.{Act}
use Rattle.grid_model.specs.declared.acts.Act.TheVariants as act
use Rattle.grid_model.specs.declared.items.Item.{Item}
use Rattle.grid_model.specs.declared.stories.Story.{Story}
use Rattle.grid_model.specs.Copies.{snapshot}
use Rattle.grid_model.specs.Documents.{DocumentData}
use Rattle.grid_model.specs.Facts.{IsDecided}
use Rattle.grid_model.specs.Histories.{after}
use Rattle.grid_model.specs.Nodes.{journal, script_of}
use Rattle.grid_model.specs.Runs.{IsRun}
use Rattle.grid_model.specs.Sessions.{AnsweredAt, CommittedAt, InOrder, SessionOrder, floor_at, is_busy_at, is_of, left_on}
use Rattle.grid_model.specs.States.{phase_on, state_of}
use Rattle.grid_model.specs.Stories.{is_open, phase, story}
use Rattle.grid_laws.proofs.Begins.{BeginsAt, begin-now}
use Rattle.grid_laws.proofs.Causes.{AllDue, BeganDue}
use Rattle.grid_laws.proofs.DecisionsRest.{decisions-rest}
use Rattle.grid_laws.proofs.RunsDue.{due-run}
use Rattle.grid_laws.proofs.SnapshotsAbove.{snapshot-above}
use Rattle.cause_laws.proofs.Settled.{is_settled, unsettled-open}
use Rattle.session_laws.proofs.FloorsCover.{floor-covers, script-none, session-is}
use Rattle.session_laws.proofs.LaterPasts.{Follows, begin-later, follows-due}
use Rattle.session_laws.proofs.LeftBefore.{answered-left, committed-left}
use Rattle.session_laws.proofs.PhasesSay.{committed-decided}

-- ---- the transaction that began first

-- a transaction of the session of u
own-session : (k : ℕ) (t u : ScriptData) → is_of k t ≡ true → is_of k u ≡ true → is_of u.session t ≡ true
own-session k t u mine also = let P : ℕ → Type 0 = λ j. is_of j t ≡ true in subst P (sym (session-is k u also)) mine

-- what is due where u begins
record BeginsWell (d : DocumentData) (front : List Act) (u : ScriptData) (ident : Ident) : Type 0 where
  quiet : is_busy_at d front u ≡ false
  floor : floor_at d front u ≤ ident

begins-well : (d : DocumentData) (front : List Act) (u : ScriptData) (home : NodeId) (ident : Ident)
    → script_of u.number d.scripts ≡ Some u → BeganDue d front u.number home ident → BeginsWell d front u ident
begins-well d front u home ident at due =
    let s : ScriptData = due.script in
    let P : ScriptData → Type 0 = λ z. BeginsWell d front z ident in
    let Q : Ident → Type 0 = λ i. floor_at d front s ≤ i in
    let more = le-max_right (commit_id (journal d front s.home)) (floor_at d front s) in
    subst P (same_Some s u (sym due.is ∙ at)) (record { quiet = due.quiet; floor = subst Q (sym due.ident) more })

-- an earlier one of its session is open no more
earlier-over : (d : DocumentData) (front : List Act) (t u : ScriptData) (ident : Ident)
    → script_of t.number d.scripts ≡ Some t → is_of u.session t ≡ true → BeginsWell d front u ident
    → is_open (phase d front t) ≡ false
earlier-over d front t u ident is mine well =
    let busy : ScriptData → Bool = λ s. is_of u.session s && is_open (phase_on (state_of d front) s) in
    other (is_of u.session t) (is_open (phase d front t)) mine (script-none busy t.number t d.scripts is well.quiet)
  where
    other : (b c : Bool) → b ≡ true → (b && c) ≡ false → c ≡ false
    other true c i e = e
    other false c i e = cc

-- what it leaves is at most the identifier at which u begins
earlier-below : (d : DocumentData) (front : List Act) (t u : ScriptData) (ident : Ident)
    → script_of t.number d.scripts ≡ Some t → is_of u.session t ≡ true → BeginsWell d front u ident
    → left_on (state_of d front) t ≤ ident
earlier-below d front t u ident is mine well =
    let covers : left_on (state_of d front) t ≤ floor_at d front u =
    floor-covers (state_of d front) u.session t.number t d.scripts is mine in
    let floor : floor_at d front u ≤ ident = well.floor in
    omega arith

-- what began and is open no more is settled
over-settled : (d : DocumentData) (front : List Act) (t : ScriptData) (x : Story) → story d front t.number ≡ Some x
    → is_open (phase d front t) ≡ false → is_settled d front t ≡ true
over-settled d front t x told over =
    true_from_ne_false (is_settled d front t)
    (λ e. both_ways (is_open (phase d front t)) over (unsettled-open d front t x told e))

-- ---- the transaction that begins behind it

-- an answered one has a snapshot of at least the identifier at which it began
answered-above : (d : DocumentData) (past : List Act) (u : ScriptData) (ident i : Ident) → AllDue d past
    → BeginsAt ident (story d past u.number) → AnsweredAt d past u i → ident ≤ i
answered-above d past u ident i all began a =
    let P : Ident → Type 0 = λ j. ident ≤ j in
    subst P a.at (snapshot-above d past all u.number ident began)

-- a committed one has a final identifier above it
committed-above : (d : DocumentData) (past : List Act) (u : ScriptData) (ident g : Ident) → AllDue d past
    → script_of u.number d.scripts ≡ Some u → BeginsAt ident (story d past u.number) → CommittedAt d past u g
    → ident < g
committed-above d past u ident g all at began c =
    let w : IsDecided d past u.number g = committed-decided d past u g all at c in
    let above : ident ≤ snapshot d past u.number = snapshot-above d past all u.number ident began in
    let fresh : snapshot d past u.number < g = (decisions-rest d past all false w.0 u.number g w.2).1.fresh in
    omega arith

-- ---- two of one session

low-high : (f i g : Ident) → f ≤ i → i < g → f < g
low-high f i g low high = omega arith

low-low : (f i j : Ident) → f ≤ i → i ≤ j → f ≤ j
low-low f i j low high = omega arith

-- the first leaves at most the identifier at which the second began
in-order : (d : DocumentData) (front past : List Act) (t u : ScriptData) (x : Story) (ident : Ident)
    → Follows d front past → script_of t.number d.scripts ≡ Some t → script_of u.number d.scripts ≡ Some u
    → story d front t.number ≡ Some x → is_open (phase d front t) ≡ false → left_on (state_of d front) t ≤ ident
    → BeginsAt ident (story d past u.number) → InOrder d past t u front
in-order d front past t u x ident b is at told over below began =
    record {
      over = over;
      updates = λ f g c e. low-high f ident g (final f c) (committed-above d past u ident g b.due at began e);
      seen = λ f i c a. low-low f ident i (final f c) (answered-above d past u ident i b.due began a);
      written = λ i g a e. low-high i ident g (shown i a) (committed-above d past u ident g b.due at began e);
      read = λ i j a e. low-low i ident j (shown i a) (answered-above d past u ident j b.due began e);
    }
  where
    P : Ident → Type 0
    P = λ i. i ≤ ident

    settled : is_settled d front t ≡ true
    settled = over-settled d front t x told over

    final : (f : Ident) → CommittedAt d past t f → f ≤ ident
    final f c =
        let w : IsDecided d past t.number f = committed-decided d past t f b.due is c in
        subst P (committed-left d front past t x f b is told settled w) below

    shown : (i : Ident) → AnsweredAt d past t i → i ≤ ident
    shown i a = subst P (answered-left d front past t x i b is told settled a) below

-- ---- every run

-- what began has a story
begun-story : (d : DocumentData) (before front : List Act) (t : TxId) (n : NodeId) (first : Ident)
    → Follows d (act.Began t n first ∷ before) front → (x : Story) × (story d front t ≡ Some x)
begun-story d before front t n first f =
    go (story d front t) (begin-later d _ front t first f (begin-now d before t n first))
  where
    go : (o : Option Story) → BeginsAt first o → (x : Story) × (o ≡ Some x)
    go None e = absurd e
    go (Some x) e = (x, refl)

pub session-order : (d : DocumentData) (items : List Item) (h : List Act) → IsRun d items h → SessionOrder d h
session-order d items h run t u k front is at mine also b =
    let past : List Act = after [] h in
    let all : AllDue d past = due-run d items h run in
    let a : Act = act.Began u.number b.home b.ident in
    let here : Follows d (a ∷ front) past = record { later = b.later; is = b.begun; due = all } in
    let due : AllDue d (a ∷ front) = follows-due d (a ∷ front) past here in
    let join : past ≡ (b.later ++ a ∷ []) ++ front = b.begun ∙ sym (append_assoc b.later (a ∷ []) front) in
    let before : Follows d front past = record { later = b.later ++ a ∷ []; is = join; due = all } in
    let earlier : Follows d (act.Began t.number b.node b.first ∷ b.before) front =
    record { later = b.between; is = b.earlier; due = due.1 } in
    let x = begun-story d b.before front t.number b.node b.first earlier in
    let own : is_of u.session t ≡ true = own-session k t u mine also in
    let well : BeginsWell d front u b.ident = begins-well d front u b.home b.ident at due.0 in
    let over = earlier-over d front t u b.ident is own well in
    let below = earlier-below d front t u b.ident is own well in
    let began = begin-later d (a ∷ front) past u.number b.ident here (begin-now d front u.number b.home b.ident) in
    in-order d front past t u x.0 b.ident before is at x.1 over below began
