-- The acts of an event, of an opening and of a stop of one node leave each other node.
use Rattle.std.proofs.Common.{◌≡◌, ◌≢◌, ℕ, Bool, true, false, ◌==◌, List, [], ◌∷◌, refl, arith}
use Rattle.std.proofs.lemmas.Bool.{and_from}
use Rattle.std.proofs.lemmas.Bool.Decides.{nat_tests}
use Rattle.std.specs.List.{list_all}
use Rattle.score_base.specs.declared.ids.NodeId.{NodeId}
use Rattle.grid_model.specs.declared.acts.Act.{Act}
use Rattle.grid_model.specs.declared.acts.Act.TheVariants as act
use Rattle.grid_model.specs.declared.acts.Flag.{Flag}
use Rattle.grid_model.specs.declared.events.Event.{Event}
use Rattle.grid_model.specs.declared.events.Event.TheVariants as event
use Rattle.grid_model.specs.declared.events.Out.{Out}
use Rattle.grid_model.specs.Documents.{DocumentData}
use Rattle.grid_model.specs.Fuses.{fuse}
use Rattle.grid_model.specs.Histories.{after}
use Rattle.grid_model.specs.NextViews.{Comes, brought}
use Rattle.grid_model.specs.Rows.{outs_of}
use Rattle.grid_model.specs.Schedules.{kept, losses, numbered, opened_row}
use Rattle.grid_model.specs.Views.{view}
use Rattle.grid_model.proofs.ViewSteps.{here}
use Rattle.view_laws.specs.Unmoved.{IsUnmoved}
use Rattle.view_laws.proofs.OwnOuts.{own-kept, own-losses, own-numbered, own-outs}
use Rattle.view_laws.proofs.Unmoved.{is_own, unmoved-acts, unmoved-got, unmoved-idle, unmoved-same, unmoved-then, unrecorded}

pub unequal : (n m : NodeId) → n ≢ m → (n == m) ≡ false
unequal n m other = grind (arith, nat_tests, other)

brought-unmoved : (d : DocumentData) (past : List Act) (n k : ℕ) (e : Event) (m : NodeId) → Comes d past n k e →
    (n == m) ≡ false → IsUnmoved d past (brought k e past) m
brought-unmoved d past n k (event.Deliver x said) m comes other = unmoved-got d past n x k said m comes.0 other
brought-unmoved d past n k e m comes other = unmoved-same d past m

pub event-unmoved : (d : DocumentData) (past : List Act) (n k i : ℕ) (e : Event) (b : Bool) (m : NodeId) →
    Comes d past n k e → n ≢ m →
    IsUnmoved d past (after (brought k e past) (numbered i n (kept b n (outs_of n (view d past n) e)))) m
event-unmoved d past n k i e b m comes other =
    let os : List Out = outs_of n (view d past n) e in
    let acts : List Act = numbered i n (kept b n os) in
    let apart : (n == m) ≡ false = unequal n m other in
    unmoved-then d past (brought k e past) (after (brought k e past) acts) m
    (brought-unmoved d past n k e m comes apart)
    (unmoved-acts d (brought k e past) acts n m
    (own-numbered d n i (kept b n os) (own-kept d n b os (own-outs d past n k e comes))) apart)

pub opened-unmoved : (d : DocumentData) (past : List Act) (n : NodeId) (f : Flag) (m : NodeId) → n ≢ m →
    IsUnmoved d past (after past (opened_row d past n f)) m
opened-unmoved d past n f m other =
    let up : List Act = act.Up n f ∷ past in
    unmoved-acts d past (opened_row d past n f) n m
    (and_from (is_own d n (act.Up n f)) (list_all (is_own d n) (losses d up n)) (here n) (own-losses d up n))
    (unequal n m other)

-- one act of n that names it
pub one-unmoved : (d : DocumentData) (past : List Act) (a : Act) (n m : NodeId) → is_own d n a ≡ true → n ≢ m →
    IsUnmoved d past (a ∷ past) m
one-unmoved d past a n m own other =
    unmoved-acts d past (a ∷ []) n m (and_from (is_own d n a) true own refl) (unequal n m other)

pub missed-unmoved : (d : DocumentData) (past : List Act) (k : ℕ) (m : NodeId) →
    IsUnmoved d past (act.Missed k ∷ past) m
missed-unmoved d past k m =
    unmoved-idle d past (act.Missed k) m refl refl refl (unrecorded false (fuse d past m) refl) refl (λ t. refl)

pub dropped-unmoved : (d : DocumentData) (past : List Act) (k : ℕ) (m : NodeId) →
    IsUnmoved d past (act.Dropped k ∷ past) m
dropped-unmoved d past k m =
    unmoved-idle d past (act.Dropped k) m refl refl refl (unrecorded false (fuse d past m) refl) refl (λ t. refl)

pub void-unmoved : (d : DocumentData) (past : List Act) (code : ℕ) (m : NodeId) →
    IsUnmoved d past (act.Void code ∷ past) m
void-unmoved d past code m =
    unmoved-idle d past (act.Void code) m refl refl refl (unrecorded false (fuse d past m) refl) refl (λ t. refl)
