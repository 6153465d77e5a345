-- A test of a story that votes and acknowledgements keep is kept by each message that its home gets; and no story
-- begins twice.
use Rattle.grid_laws.proofs.StoryClaims.{Hears, else-claim, got-claim, if-claim}
use Rattle.grid_laws.proofs.Causes.{BeganDue}
use Rattle.grid_model.specs.Nodes.{node}
use Rattle.grid_model.specs.Documents.{DocumentData}
use Rattle.grid_model.specs.Stories.{begun_in, heard_at, if_told, story}
use Rattle.grid_model.specs.declared.acts.Act.{Act}
use Rattle.grid_model.specs.declared.messages.Envelope.{Envelope}
use Rattle.grid_model.specs.declared.stories.Story.{Story}
use Rattle.score_base.specs.declared.ids.Ident.{Ident}
use Rattle.score_base.specs.declared.ids.NodeId.{NodeId}
use Rattle.score_base.specs.declared.ids.TxId.{TxId}
use Rattle.script_lang.specs.Scripts.{ScriptData}
use Rattle.std.proofs.Common.{Bool, List, None, Option, Some, arith, false, subst, true, ◌≡◌}
use Rattle.std.proofs.lemmas.Bool.Decides.{nat_tests}
use Rattle.std.specs.Prelude.{if◌then◌else◌, ◌==◌}

pub if-kept : (p : Option Story → Bool) (b : Bool) (f : Story → Story) (o : Option Story)
    → ((y : Story) → p (Some y) ≡ true → p (Some (f y)) ≡ true) → p o ≡ true → p (if_told b f o) ≡ true
if-kept p b f o go k = if-claim (λ z. p z ≡ true) b f o (λ e y i. go y i) k

pub else-kept : (p : Option Story → Bool) (b : Bool) (o w : Option Story) → (b ≡ true → p o ≡ true) → p w ≡ true
    → p (if b then o else w) ≡ true
else-kept p b o w h k = else-claim (λ z. p z ≡ true) b o w h k

-- votes and acknowledgements keep the test
abbrev pub KeepsHeard : (Option Story → Bool) → Type 0
KeepsHeard p = Hears (λ z. p z ≡ true)

pub got-kept : (p : Option Story → Bool) (d : DocumentData) (past : List Act) (w : Option ScriptData)
    (e : Option Envelope) (o : Option Story)
    → KeepsHeard p → p o ≡ true → p (heard_at d past w e o) ≡ true
got-kept p d past w e o keeps k = got-claim (λ z. p z ≡ true) keeps d past w e o k

-- a story that passes did not begin now
pub began-kept : (p : Option Story → Bool) (d : DocumentData) (past : List Act) (u t : TxId) (n : NodeId) (sid0 : Ident)
    → p None ≡ false → BeganDue d past u n sid0 → p (story d past t) ≡ true → (u == t) ≡ true
    → p (Some (begun_in d (node d past) t sid0)) ≡ true
began-kept p d past u t n sid0 none due k e =
    let same : u ≡ t = grind (arith, nat_tests, e) in
    let P : TxId → Type 0 = λ w. story d past w ≡ None in
    let R : Option Story → Type 0 = λ o. p o ≡ true in
    absurd (not-both none (subst R (subst P same due.new) k))
  where
    not-both : p None ≡ false → p None ≡ true → ⊥
    not-both f g = cc
