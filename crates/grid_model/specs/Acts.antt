-- Claims on the acts of a past, one by one.
use Rattle.std.specs.Prelude.{Bool, false, ◌&&◌, ◌||◌, ◌==◌, List, [], ◌∷◌}
use Rattle.score_base.specs.declared.ids.TxId.{TxId}
use Rattle.score_base.specs.declared.ids.NodeId.{NodeId}
use Rattle.score_base.specs.declared.causes.Cause.{Cause}
use Rattle.score_base.specs.declared.causes.Cause.TheVariants as cause
use Rattle.score_base.specs.Keys.{same_key}
use Rattle.grid_model.specs.declared.acts.Act.{Act}
use Rattle.grid_model.specs.declared.acts.Act.TheVariants as act
use Rattle.grid_model.specs.declared.messages.Message.{Message}

-- each of these acts meets a claim
abbrev pub EachAct : (Act → Type 0) → List Act → Type 0
EachAct P [] = Unit {0}
EachAct P (a ∷ acts) = P a × EachAct P acts

-- each of these acts meets a claim on the acts before it
abbrev pub EachBehind : (Act → List Act → Type 0) → List Act → Type 0
EachBehind P [] = Unit {0}
EachBehind P (a ∷ past) = P a past × EachBehind P past

-- each message that was sent meets a claim, with its sender
abbrev pub EachSent : (NodeId → Message → Type 0) → List Act → Type 0
EachSent P [] = Unit {0}
EachSent P (act.Sent m x y said ∷ past) = P x said × EachSent P past
EachSent P (a ∷ past) = EachSent P past

-- two causes are the same
abbrev pub is_same_cause : Cause → Cause → Bool
is_same_cause (cause.Holder u) (cause.Holder w) = u == w
is_same_cause (cause.Newer k f) (cause.Newer l g) = same_key k l && f == g
is_same_cause a b = false

-- n refused t for this cause
abbrev pub has_refused : NodeId → TxId → Cause → List Act → Bool
has_refused n t why [] = false
has_refused n t why (act.Refused m u other ∷ past) =
    (m == n && (u == t && is_same_cause why other)) || has_refused n t why past
has_refused n t why (a ∷ past) = has_refused n t why past
