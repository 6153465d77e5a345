-- The claim on footprints is not empty: it holds of a run with a bystander, and no message to the bystander meets it.
use Rattle.std.proofs.Common.{◌≡◌, ℕ, Bool, true, false, ◌&&◌, IsTrue, List, [], ◌∷◌, ◌++◌, refl, subst}
use Rattle.std.specs.List.{list_all}
use Rattle.std.proofs.lemmas.Bool.{and_parts}
use Rattle.score_base.specs.declared.ids.NodeId.{NodeId}
use Rattle.grid_model.specs.declared.acts.Act.{Act}
use Rattle.grid_model.specs.declared.acts.Act.TheVariants as act
use Rattle.grid_model.specs.declared.messages.Message.{Message}
use Rattle.grid_model.specs.Documents.{DocumentData}
use Rattle.grid_model.specs.Fitness.{tx_in}
use Rattle.grid_model.specs.Claims.{is_end, Genuine, IsGenuineAct}
use Rattle.grid_laws.proofs.EachActs.{claim-at}
use Rattle.grid_model.proofs.RunsOnThreeNodes.{bystander_gets_nothing, bystander_gets_nothing_acts}
use Rattle.grid_model.proofs.RunsWithConflicts.{write_conflict, write_conflict_acts}

-- is this act a message between two ends of its transaction, or no message?
abbrev is_genuine : DocumentData → Act → Bool
is_genuine d (act.Sent m x y said) = is_end d (tx_in said) x && is_end d (tx_in said) y
is_genuine d a = true

-- the claim is a test of each act
pub tested-genuine : (d : DocumentData) (h : List Act) → IsTrue (list_all (is_genuine d) h) → Genuine d h
tested-genuine d [] are = tt
tested-genuine d (x ∷ h) are = (
    let both : IsTrue (is_genuine d x) × IsTrue (list_all (is_genuine d) h) = and_parts (is_genuine d x) (list_all (is_genuine d) h) are in
    (one x both.0, tested-genuine d h both.1))
  where
    one : (x : Act) → IsTrue (is_genuine d x) → IsGenuineAct d x
    one (act.Sent m x y said) is = is
    one x is = tt

-- nodes n1 and n2 are the ends of the transaction, and every message is between them
pub bystander-genuine : Genuine bystander_gets_nothing bystander_gets_nothing_acts
bystander-genuine = tested-genuine bystander_gets_nothing bystander_gets_nothing_acts refl

-- each message of the two that write one key is between the home and the holder
pub conflict-genuine : Genuine write_conflict write_conflict_acts
conflict-genuine = tested-genuine write_conflict write_conflict_acts refl

-- one message of the transaction to the bystander is refuted, whatever it says and whoever sends it
pub bystander-told-refuted : (m : ℕ) (x : NodeId) (said : Message) → tx_in said ≡ 1
    → Genuine bystander_gets_nothing (bystander_gets_nothing_acts ++ act.Sent m x 3 said ∷ []) → ⊥
bystander-told-refuted m x said of_it genuine =
    let last : IsGenuineAct bystander_gets_nothing (act.Sent m x 3 said) = claim-at (IsGenuineAct bystander_gets_nothing) bystander_gets_nothing_acts (act.Sent m x 3 said) [] genuine in
    let to_it : IsTrue (is_end bystander_gets_nothing (tx_in said) 3) = (and_parts (is_end bystander_gets_nothing (tx_in said) x) (is_end bystander_gets_nothing (tx_in said) 3) last).1 in
    let P : ℕ → Type 0 = λ t. IsTrue (is_end bystander_gets_nothing t 3) in
    let false_is : false ≡ true = subst P of_it to_it in
    cc

-- so is one message from it
pub bystander-says-refuted : (m : ℕ) (y : NodeId) (said : Message) → tx_in said ≡ 1
    → Genuine bystander_gets_nothing (bystander_gets_nothing_acts ++ act.Sent m 3 y said ∷ []) → ⊥
bystander-says-refuted m y said of_it genuine =
    let last : IsGenuineAct bystander_gets_nothing (act.Sent m 3 y said) = claim-at (IsGenuineAct bystander_gets_nothing) bystander_gets_nothing_acts (act.Sent m 3 y said) [] genuine in
    let by_it : IsTrue (is_end bystander_gets_nothing (tx_in said) 3) = (and_parts (is_end bystander_gets_nothing (tx_in said) 3) (is_end bystander_gets_nothing (tx_in said) y) last).0 in
    let P : ℕ → Type 0 = λ t. IsTrue (is_end bystander_gets_nothing t 3) in
    let false_is : false ≡ true = subst P of_it by_it in
    cc
