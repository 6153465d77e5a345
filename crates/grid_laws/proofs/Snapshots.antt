-- When does a transaction have a snapshot, and does it ever change?
use Rattle.grid_laws.proofs.StoryClaims.{Stays, else-claim, untaking-claim}
use Rattle.std.proofs.lemmas.Bool.{eqb-true}
use Rattle.std.proofs.Common.{◌≡◌, ℕ, ◌⊎◌, inl, inr, Bool, true, false, List, [], ◌∷◌, ◌++◌, Option, Some, None, refl, sym, ap, subst, ◌∙◌}
use Rattle.std.specs.Prelude.{◌==◌}
use Rattle.score_base.specs.declared.ids.TxId.{TxId}
use Rattle.score_base.specs.declared.ids.NodeId.{NodeId}
use Rattle.score_base.specs.declared.ids.Ident.{Ident}
use Rattle.score_base.specs.declared.ids.Value.{Value}
use Rattle.script_lang.specs.declared.scripts.Op.{Op}
use Rattle.script_lang.specs.Scripts.{ScriptData}
use Rattle.grid_model.specs.declared.acts.Act.{Act}
use Rattle.grid_model.specs.declared.acts.Act.TheVariants as act
use Rattle.grid_model.specs.declared.stories.Story.{Story}
use Rattle.grid_model.specs.Documents.{DocumentData}
use Rattle.grid_model.specs.Nodes.{script_of, node}
use Rattle.grid_model.specs.Stories.{story, if_told, first_sid, with_value, begun_in, progressed}
use Rattle.script_runs.specs.Waits.{value_taken, waiting}
use Rattle.script_runs.proofs.Walks.{taken-stays, taken-new, waiting-open}
use Rattle.grid_laws.proofs.Causes.{AllDue, BeganDue, TakenDue}

-- ---- a claim on the snapshot and the values of a story

-- the claim of a story, or another where nothing is told
abbrev pub OfStory : Type 0 → (Option Ident → List (ℕ × Value) → Type 0) → Option Story → Type 0
OfStory N Q None = N
OfStory N Q (Some x) = Q x.progress.sid x.progress.values

pub of-stays : (N : Type 0) (Q : Option Ident → List (ℕ × Value) → Type 0) → Stays (OfStory N Q)
of-stays N Q = record { votes = λ vs x i. i; acks = λ ns x i. i; turn = λ k x i. i; finished = λ x i. i; aborted = λ x i. i; lost = λ x i. i }

began-of : (N : Type 0) (Q : Option Ident → List (ℕ × Value) → Type 0) (d : DocumentData) (past : List Act) (u t : TxId)
    (n : NodeId) (sid0 : Ident) → BeganDue d past u n sid0 → (N → Q None []) → OfStory N Q (story d past t)
    → (u == t) ≡ true → Q None []
began-of N Q d past u t n sid0 due began k e =
    let P : TxId → Type 0 = λ w. story d past w ≡ None in
    let R : Option Story → Type 0 = λ o. OfStory N Q o in
    began (subst R (subst P (eqb-true u t e) due.new) k)

taken-of : (N : Type 0) (Q : Option Ident → List (ℕ × Value) → Type 0) (d : DocumentData) (past : List Act) (u t : TxId)
    (op : ℕ) (sid : Ident) (v : Value) (b : Bool) (o : Option Story) → (u == t) ≡ b → story d past t ≡ o
    → TakenDue d past u op sid v → ((w : TakenDue d past t op sid v) → Q w.story.progress.sid w.story.progress.values
    → Q (Some (first_sid w.story.progress.sid sid)) (w.story.progress.values ++ (op, v) ∷ [])) → OfStory N Q o
    → OfStory N Q (if_told b (progressed (with_value op sid v)) o)
taken-of N Q d past u t op sid v b None e told due go k = k
taken-of N Q d past u t op sid v false (Some x) e told due go k = k
taken-of N Q d past u t op sid v true (Some x) e told due go k =
    let P : TxId → Type 0 = λ z. TakenDue d past z op sid v in
    let w : TakenDue d past t op sid v = subst P (eqb-true u t e) due in
    let R : Story → Type 0 = λ z. Q z.progress.sid z.progress.values → Q (Some (first_sid z.progress.sid sid)) (z.progress.values ++ (op, v) ∷ []) in
    subst R (same w.story x (sym w.at.story ∙ told)) (go w) k
  where
    same : (y z : Story) → Some y ≡ Some z → y ≡ z
    same y z i = cc

-- the claim stays, where it holds of a story that begins and of one that takes a value
pub of-more : (N : Type 0) (Q : Option Ident → List (ℕ × Value) → Type 0) (d : DocumentData) (past : List Act) (a : Act)
    (t : TxId) → (N → Q None []) → ((op : ℕ) (sid : Ident) (v : Value) (w : TakenDue d past t op sid v)
    → Q w.story.progress.sid w.story.progress.values
    → Q (Some (first_sid w.story.progress.sid sid)) (w.story.progress.values ++ (op, v) ∷ [])) → AllDue d (a ∷ past)
    → OfStory N Q (story d past t) → OfStory N Q (story d (a ∷ past) t)
of-more N Q d past (act.Began u n sid0) t began taken due k =
    else-claim (OfStory N Q) (u == t) (Some (begun_in d (node d past) t sid0)) (story d past t)
    (λ e. began-of N Q d past u t n sid0 due.0 began k e) k
of-more N Q d past (act.Taken u op sid v) t began taken due k = taken-of N Q d past u t op sid v (u == t) (story d past t) refl refl due.0 (taken op sid v) k
of-more N Q d past a t began taken due k = untaking-claim (OfStory N Q) (of-stays N Q) d past a t refl k

-- ---- the snapshot

-- the snapshot of t is sid
abbrev pub HasSnapshot : DocumentData → List Act → TxId → Ident → Type 0
HasSnapshot d past t sid = OfStory ⊥ (λ o values. o ≡ Some sid) (story d past t)

-- it never changes
pub snapshot-more : (d : DocumentData) (past : List Act) (a : Act) (t : TxId) (sid : Ident) → AllDue d (a ∷ past)
    → HasSnapshot d past t sid → HasSnapshot d (a ∷ past) t sid
snapshot-more d past a t sid due k = of-more ⊥ (λ o values. o ≡ Some sid) d past a t (λ n. absurd n) (λ op i v w e. stays w.story.progress.sid i e) due k
  where
    stays : (o : Option Ident) (i : Ident) → o ≡ Some sid → Some (first_sid o i) ≡ Some sid
    stays None i e = cc
    stays (Some s) i e = e

pub snapshot-told : (d : DocumentData) (past : List Act) (t : TxId) (x : Story) (sid : Ident) → story d past t ≡ Some x
    → x.progress.sid ≡ Some sid → HasSnapshot d past t sid
snapshot-told d past t x sid told e = let P : Option Story → Type 0 = λ o. OfStory ⊥ (λ o values. o ≡ Some sid) o in subst P (sym told) e

pub snapshot-of : (d : DocumentData) (past : List Act) (t : TxId) (x : Story) (sid : Ident) → story d past t ≡ Some x
    → HasSnapshot d past t sid → x.progress.sid ≡ Some sid
snapshot-of d past t x sid told k = let P : Option Story → Type 0 = λ o. OfStory ⊥ (λ o values. o ≡ Some sid) o in subst P told k

-- ---- the first value

-- there is a snapshot, and the first remote read has a value
pub record HasFirst (ops : List Op) (o : Option Ident) (values : List (ℕ × Value)) : Type 0 where
  pub sid : Ident
  pub is : o ≡ Some sid
  pub op : ℕ
  pub value : Value
  pub first : waiting ops [] ≡ Some op
  pub taken : value_taken op values ≡ Some value

-- no snapshot and no value, or a snapshot and a value of the first remote read
abbrev pub IsInStep : List Op → Option Ident → List (ℕ × Value) → Type 0
IsInStep ops o values = ((o ≡ None) × (values ≡ [])) ⊎ HasFirst ops o values

step-more : (ops : List Op) (o : Option Ident) (values : List (ℕ × Value)) (op : ℕ) (sid : Ident) (v : Value)
    → waiting ops values ≡ Some op → IsInStep ops o values
    → IsInStep ops (Some (first_sid o sid)) (values ++ (op, v) ∷ [])
step-more ops o values op sid v reads h = elim h [
  | inl none ↦
      inr (
      record {
        sid = first_sid o sid;
        is = refl;
        op = op;
        value = v;
        first = ap (waiting ops) (sym none.1) ∙ reads;
        taken = taken-new op v values (waiting-open 1 op [] values ops reads).untaken;
      }
      )
  | inr some ↦ inr (record { sid = first_sid o sid; is = refl; op = some.op; value = some.value; first = some.first; taken = taken-stays some.op some.value values ((op, v) ∷ []) some.taken })
]

-- the snapshot and the values of each transaction go in step
pub stories-step : (d : DocumentData) (past : List Act) (t : TxId) (s : ScriptData) → AllDue d past
    → script_of t d.scripts ≡ Some s → OfStory (Unit {0}) (IsInStep s.ops) (story d past t)
stories-step d [] t s due is = tt
stories-step d (a ∷ past) t s due is =
    of-more (Unit {0}) (IsInStep s.ops) d past a t (λ n. inl (refl, refl))
    (λ op sid v w h.
    let same : w.script ≡ s = equal-script w.script s (sym w.at.script ∙ is) in
    let reads : waiting s.ops w.story.progress.values ≡ Some op = ap (λ (z : ScriptData). waiting z.ops w.story.progress.values) (sym same) ∙ w.reads in
    step-more s.ops w.story.progress.sid w.story.progress.values op sid v reads h)
    due (stories-step d past t s due.1 is)
  where
    equal-script : (y z : ScriptData) → Some y ≡ Some z → y ≡ z
    equal-script y z e = cc

pub story-step : (d : DocumentData) (past : List Act) (t : TxId) (s : ScriptData) (x : Story) → AllDue d past
    → script_of t d.scripts ≡ Some s → story d past t ≡ Some x → IsInStep s.ops x.progress.sid x.progress.values
story-step d past t s x due is told = let P : Option Story → Type 0 = λ o. OfStory (Unit {0}) (IsInStep s.ops) o in subst P told (stories-step d past t s due is)
