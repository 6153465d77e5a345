-- Has each reply to a read the snapshot of the transaction, where it reads that operation and has one?
use Rattle.std.proofs.Common.{◌≡◌, ℕ, inl, inr, Bool, true, false, not, ◌||◌, List, [], Option, Some, None, refl, sym, ap, subst, ◌∙◌, arith}
use Rattle.std.proofs.lemmas.Bool.Decides.{nat_tests}
use Rattle.std.specs.Prelude.{◌==◌}
use Rattle.score_base.specs.declared.ids.TxId.{TxId}
use Rattle.score_base.specs.declared.ids.NodeId.{NodeId}
use Rattle.score_base.specs.declared.ids.Ident.{Ident}
use Rattle.score_base.specs.declared.ids.Value.{Value}
use Rattle.script_lang.specs.declared.scripts.Op.{Op}
use Rattle.script_lang.specs.Scripts.{ScriptData}
use Rattle.grid_model.specs.declared.acts.Act.{Act}
use Rattle.grid_model.specs.declared.messages.Message.TheVariants as message
use Rattle.grid_model.specs.declared.messages.ReadRep.{ReadRep}
use Rattle.grid_model.specs.Documents.{DocumentData}
use Rattle.grid_model.specs.Histories.{sent, sent_at}
use Rattle.script_runs.specs.Waits.{value_taken, waiting}
use Rattle.grid_model.specs.Views.{Open, Stage, Apart, Reads, Collects, Commits, view, stage}
use Rattle.grid_model.specs.Fitness.{is_same_ident, is_fit_reply}
use Rattle.script_runs.proofs.Walks.{waiting-open}
use Rattle.grid_laws.proofs.Causes.{AllDue}
use Rattle.grid_laws.proofs.Stages.{Opens, opens-reads}
use Rattle.grid_laws.proofs.Snapshots.{HasFirst, snapshot-of, story-step}
use Rattle.grid_laws.proofs.ReadsDated.{IsDated, reply-dated}

-- who reads the first remote read has no value of it
first-untaken : (ops : List Op) (o : Option Ident) (values : List (ℕ × Value)) (op : ℕ) → waiting ops [] ≡ Some op
    → waiting ops values ≡ Some op → HasFirst ops o values → ⊥
first-untaken ops o values op first reads h =
    let same : h.op ≡ op = some-same h.op op (sym h.first ∙ first) in
    let P : ℕ → Type 0 = λ z. value_taken z values ≡ Some h.value in
    none-some h.value (sym (waiting-open 1 op [] values ops reads).untaken ∙ subst P same h.taken)
  where
    some-same : (a b : ℕ) → Some a ≡ Some b → a ≡ b
    some-same a b e = cc

    none-some : (v : Value) → None ≡ Some v → ⊥
    none-some v e = cc

none-same : (sid : Ident) (o : Option Ident) → o ≡ None → is_same_ident sid o ≡ true
none-same sid None e = refl
none-same sid (Some s) e = cc

some-same : (sid : Ident) (o : Option Ident) → o ≡ Some sid → is_same_ident sid o ≡ true
some-same sid None e = cc
some-same sid (Some s) e = grind (arith, nat_tests, e)

same-ident : (d : DocumentData) (past : List Act) (n : NodeId) (t : TxId) (op : ℕ) (sid : Ident) (x : Open)
    → AllDue d past → IsDated d past t op sid → Opens d past n t x (Some op) → is_same_ident sid x.progress.sid ≡ true
same-ident d past n t op sid x due h o =
    let same : h.script ≡ o.script = equal-script h.script o.script (sym h.is ∙ o.at.script) in
    let told : x.progress.sid ≡ o.story.progress.sid = ap (λ (z : Open). z.progress.sid) o.is in
    elim h.dated [
      | inl first ↦
          let begins : waiting o.script.ops [] ≡ Some op = ap (λ (z : ScriptData). waiting z.ops []) (sym same) ∙ first.0 in
          elim (story-step d past t o.script o.story due o.at.script o.at.story) [
            | inl none ↦ none-same sid x.progress.sid (told ∙ none.0)
            | inr some ↦ absurd (first-untaken o.script.ops o.story.progress.sid o.story.progress.values op begins o.reads some)
          ]
      | inr later ↦ some-same sid x.progress.sid (told ∙ snapshot-of d past t o.story sid o.at.story later)
    ]
  where
    equal-script : (y z : ScriptData) → Some y ≡ Some z → y ≡ z
    equal-script y z e = cc

pub dated-fit : (d : DocumentData) (past : List Act) (n : NodeId) (q : ReadRep) (s : Stage)
    → stage (view d past n) q.t ≡ s → AllDue d past → IsDated d past q.t q.op q.sid → is_fit_reply q s ≡ true
dated-fit d past n q (Reads x j) is due h = go (j == q.op) refl
  where
    go : (b : Bool) → (j == q.op) ≡ b → (not b || is_same_ident q.sid x.progress.sid) ≡ true
    go false e = refl
    go true e =
        let same : j ≡ q.op = grind (arith, nat_tests, e) in
        let P : ℕ → Type 0 = λ z. Opens d past n q.t x (Some z) in
        same-ident d past n q.t q.op q.sid x due h (subst P same (opens-reads d past n q.t x j is))
dated-fit d past n q Apart is due h = refl
dated-fit d past n q (Collects x) is due h = refl
dated-fit d past n q (Commits x acks) is due h = refl

-- each reply that was sent, at any node
pub reply-fit : (d : DocumentData) (past : List Act) (m : ℕ) (x y n : NodeId) (q : ReadRep) → AllDue d past
    → sent_at m (sent past) ≡ Some (record { from = x; to = y; message = message.ReadRep q })
    → is_fit_reply q (stage (view d past n) q.t) ≡ true
reply-fit d past m x y n q due is = dated-fit d past n q (stage (view d past n) q.t) refl due (reply-dated d past m x y q due is)
