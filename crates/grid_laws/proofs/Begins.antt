-- At which identifier did a transaction begin, and does it ever change?
use Rattle.std.proofs.Common.{◌≡◌, ◌≤◌, Bool, true, false, List, ◌∷◌, Option, Some, None, refl, sym, subst}
use Rattle.std.proofs.lemmas.Bool.{eqb-true}
use Rattle.std.specs.Prelude.{◌==◌, if◌then◌else◌}
use Rattle.score_base.specs.declared.ids.TxId.{TxId}
use Rattle.score_base.specs.declared.ids.NodeId.{NodeId}
use Rattle.score_base.specs.declared.ids.Ident.{Ident}
use Rattle.grid_model.specs.declared.acts.Act.{Act}
use Rattle.grid_model.specs.declared.acts.Act.TheVariants as act
use Rattle.grid_model.specs.declared.stories.Story.{Story}
use Rattle.grid_model.specs.Documents.{DocumentData}
use Rattle.grid_model.specs.Nodes.{node}
use Rattle.grid_model.specs.Stories.{begun_in, story}
use Rattle.grid_laws.proofs.Causes.{AllDue, BeganDue}
use Rattle.grid_laws.proofs.Frames.{same-number}
use Rattle.grid_laws.proofs.StoryClaims.{Stays, else-claim, if-claim, untaking-claim}

-- a story that began at this identifier
abbrev pub BeginsAt : Ident → Option Story → Type 0
BeginsAt i None = ⊥
BeginsAt i (Some x) = x.progress.sid0 ≡ i

begins-stays : (i : Ident) → Stays (BeginsAt i)
begins-stays i = record {
  votes = λ vs x k. k;
  acks = λ ns x k. k;
  turn = λ j x k. k;
  finished = λ x k. k;
  aborted = λ x k. k;
  lost = λ x k. k;
}

began-once : (d : DocumentData) (past : List Act) (u t : TxId) (n : NodeId) (sid0 i : Ident) → BeganDue d past u n sid0
    → BeginsAt i (story d past t) → (u == t) ≡ true → ⊥
began-once d past u t n sid0 i due k e =
    let P : TxId → Type 0 = λ w. story d past w ≡ None in
    let Q : Option Story → Type 0 = λ o. BeginsAt i o in
    subst Q (subst P (eqb-true u t e) due.new) k

-- it never changes
pub begin-more : (d : DocumentData) (past : List Act) (a : Act) (t : TxId) (i : Ident) → AllDue d (a ∷ past)
    → BeginsAt i (story d past t) → BeginsAt i (story d (a ∷ past) t)
begin-more d past (act.Began u n sid0) t i due k =
    else-claim (BeginsAt i) (u == t) (Some (begun_in d (node d past) t sid0)) (story d past t)
    (λ e. absurd (began-once d past u t n sid0 i due.0 k e)) k
begin-more d past (act.Taken u op sid v) t i due k = if-claim (BeginsAt i) (u == t) _ (story d past t) (λ e x j. j) k
begin-more d past a t i due k = untaking-claim (BeginsAt i) (begins-stays i) d past a t refl k

pub begin-told : (d : DocumentData) (past : List Act) (t : TxId) (x : Story) → story d past t ≡ Some x
    → BeginsAt x.progress.sid0 (story d past t)
begin-told d past t x told = let P : Option Story → Type 0 = λ o. BeginsAt x.progress.sid0 o in subst P (sym told) refl

-- it is that of its Began
pub begin-now : (d : DocumentData) (past : List Act) (t : TxId) (n : NodeId) (sid0 : Ident)
    → BeginsAt sid0 (story d (act.Began t n sid0 ∷ past) t)
begin-now d past t n sid0 = go (t == t) (same-number t)
  where
    go : (b : Bool) → b ≡ true → BeginsAt sid0 (if b then Some (begun_in d (node d past) t sid0) else story d past t)
    go true e = refl
    go false e = cc

-- ---- at or below another

-- t began at an identifier of at most sid
pub record BeganBelow (d : DocumentData) (past : List Act) (t : TxId) (sid : Ident) : Type 0 where
  pub first : Ident
  pub began : BeginsAt first (story d past t)
  pub below : first ≤ sid

pub below-more : (d : DocumentData) (past : List Act) (a : Act) (t : TxId) (sid : Ident) → AllDue d (a ∷ past)
    → BeganBelow d past t sid → BeganBelow d (a ∷ past) t sid
below-more d past a t sid due h =
    record { first = h.first; began = begin-more d past a t h.first due h.began; below = h.below }

pub below-now : (d : DocumentData) (past : List Act) (t : TxId) (x : Story) (sid : Ident) → story d past t ≡ Some x
    → x.progress.sid0 ≤ sid → BeganBelow d past t sid
below-now d past t x sid told below =
    record { first = x.progress.sid0; began = begin-told d past t x told; below = below }
