-- Is the snapshot of a transaction at least the identifier at which it began?
use Rattle.std.proofs.Common.{◌≡◌, ◌≤◌, ℕ, Bool, true, false, inl, inr, List, [], ◌∷◌, Option, Some, None, refl, sym, subst, ◌∙◌, arith}
use Rattle.std.proofs.lemmas.Bool.{eqb-true}
use Rattle.std.specs.Prelude.{◌==◌}
use Rattle.score_base.specs.declared.ids.TxId.{TxId}
use Rattle.score_base.specs.declared.ids.Ident.{Ident}
use Rattle.score_base.specs.declared.ids.Value.{Value}
use Rattle.grid_model.specs.declared.acts.Act.{Act}
use Rattle.grid_model.specs.declared.acts.Act.TheVariants as act
use Rattle.grid_model.specs.declared.messages.ReadRep.{ReadRep}
use Rattle.grid_model.specs.declared.stories.Story.{Story}
use Rattle.grid_model.specs.Documents.{DocumentData}
use Rattle.grid_model.specs.Copies.{snapshot, snapshot_in}
use Rattle.grid_model.specs.Nodes.{node}
use Rattle.grid_model.specs.Stories.{begun_in, first_sid, if_told, progressed, story, with_value}
use Rattle.grid_laws.proofs.Begins.{BeginsAt}
use Rattle.grid_laws.proofs.Causes.{AllDue, TakenDue}
use Rattle.grid_laws.proofs.ReadsDated.{IsDated, reply-got}
use Rattle.grid_laws.proofs.Snapshots.{snapshot-of}
use Rattle.grid_laws.proofs.StoryClaims.{Stays, else-claim, untaking-claim}

-- the snapshot of a story is at least its first identifier
abbrev IsAbove : Option Story → Type 0
IsAbove None = Unit {0}
IsAbove (Some x) = x.progress.sid0 ≤ first_sid x.progress.sid x.progress.sid0

above-stays : Stays IsAbove
above-stays = record {
  votes = λ vs x k. k;
  acks = λ ns x k. k;
  turn = λ j x k. k;
  finished = λ x k. k;
  aborted = λ x k. k;
  lost = λ x k. k;
}

-- a first reply is at or above it
first-above : (d : DocumentData) (past : List Act) (t : TxId) (op : ℕ) (sid : Ident) (x : Story)
    → story d past t ≡ Some x → x.progress.sid ≡ None → IsDated d past t op sid → x.progress.sid0 ≤ sid
first-above d past t op sid x told none h = elim h.dated [
  | inl first ↦
      let P : Option Story → Type 0 = λ o. BeginsAt first.1.first o in
      let is : x.progress.sid0 ≡ first.1.first = subst P told first.1.began in
      let below : first.1.first ≤ sid = first.1.below in
      omega arith
  | inr later ↦ absurd (none-some sid (sym none ∙ snapshot-of d past t x sid told later))
]
  where
    none-some : (i : Ident) → None ≡ Some i → ⊥
    none-some i e = cc

taken-above : (d : DocumentData) (past : List Act) (u t : TxId) (op : ℕ) (sid : Ident) (v : Value) (b : Bool)
    (o : Option Story)
    → (u == t) ≡ b → story d past t ≡ o → AllDue d past → TakenDue d past u op sid v → IsAbove o
    → IsAbove (if_told b (progressed (with_value op sid v)) o)
taken-above d past u t op sid v b None e told all due k = k
taken-above d past u t op sid v false (Some x) e told all due k = k
taken-above d past u t op sid v true (Some x) e told all due k =
    let P : TxId → Type 0 = λ z. TakenDue d past z op sid v in
    let w : TakenDue d past t op sid v = subst P (eqb-true u t e) due in
    let q : ReadRep = record { t = t; op = op; sid = sid; value = v } in
    let h : IsDated d past t op sid = reply-got d past w.from w.n q all w.got in
    go x.progress.sid refl k (λ none. first-above d past t op sid x told none h)
  where
    go : (i : Option Ident) → x.progress.sid ≡ i → x.progress.sid0 ≤ first_sid i x.progress.sid0
        → (x.progress.sid ≡ None → x.progress.sid0 ≤ sid) → x.progress.sid0 ≤ first_sid i sid
    go None is k first = first is
    go (Some s) is k first = k

above-more : (d : DocumentData) (past : List Act) (a : Act) (t : TxId) → AllDue d (a ∷ past) → IsAbove (story d past t)
    → IsAbove (story d (a ∷ past) t)
above-more d past (act.Began u n sid0) t due k =
    else-claim IsAbove (u == t) (Some (begun_in d (node d past) t sid0)) (story d past t) (λ e. grind arith) k
above-more d past (act.Taken u op sid v) t due k =
    taken-above d past u t op sid v (u == t) (story d past t) refl refl due.1 due.0 k
above-more d past a t due k = untaking-claim IsAbove above-stays d past a t refl k

stories-above : (d : DocumentData) (past : List Act) → AllDue d past → (t : TxId) → IsAbove (story d past t)
stories-above d [] due t = tt
stories-above d (a ∷ past) due t = above-more d past a t due (stories-above d past due.1 t)

-- of each transaction that began
pub snapshot-above : (d : DocumentData) (past : List Act) → AllDue d past → (t : TxId) (i : Ident)
    → BeginsAt i (story d past t) → i ≤ snapshot d past t
snapshot-above d past due t i began = go (story d past t) began (stories-above d past due t)
  where
    go : (o : Option Story) → BeginsAt i o → IsAbove o → i ≤ snapshot_in o
    go None k h = absurd k
    go (Some x) k h = let P : Ident → Type 0 = λ j. j ≤ first_sid x.progress.sid x.progress.sid0 in subst P k h
