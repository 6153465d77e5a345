-- The state behind more acts is what these acts leave of the state.
use Rattle.std.proofs.Common.{◌≡◌, List, [], ◌∷◌, ◌++◌, refl, ap, ◌∙◌}
use Rattle.grid_model.specs.declared.acts.Act.{Act}
use Rattle.grid_model.specs.Documents.{DocumentData}
use Rattle.grid_model.specs.Histories.{after}
use Rattle.grid_model.specs.States.{state_of, state_after}
use Rattle.grid_model.proofs.EventShapes.{after-append}

pub state-all : (d : DocumentData) (past acts : List Act)
    → state_of d (after past acts) ≡ state_after d (state_of d past) acts
state-all d past [] = refl
state-all d past (a ∷ acts) = state-all d (a ∷ past) acts

pub state-more : (d : DocumentData) (h acts : List Act)
    → state_of d (after [] (h ++ acts)) ≡ state_after d (state_of d (after [] h)) acts
state-more d h acts = ap (state_of d) (after-append [] h acts) ∙ state-all d (after [] h) acts
