-- The turns of a vote and of an acknowledgement give the outs of their rows.
use Rattle.std.proofs.Common.{◌≡◌, Bool, true, false, List, [], ◌∷◌, ◌++◌, refl, if◌then◌else◌}
use Rattle.score_base.specs.declared.ids.TxId.{TxId}
use Rattle.score_base.specs.declared.ids.NodeId.{NodeId}
use Rattle.score_base.specs.declared.causes.Ballot.{Ballot}
use Rattle.score_base.specs.declared.causes.Ballot.TheVariants as ballot
use Rattle.placement.specs.Places.{is_among}
use Rattle.placement.specs.Clusters.{ClusterData}
use Rattle.grid_model.specs.declared.acts.Act.TheVariants as act
use Rattle.grid_model.specs.declared.events.Out.TheVariants as out
use Rattle.grid_model.specs.declared.stories.Voted.{Voted}
use Rattle.grid_model.specs.Stories.{has_voted}
use Rattle.grid_model.specs.Views.{Stage, Apart, Reads, Collects, Commits}
use Rattle.grid_model.specs.Advances.{parts_now}
use Rattle.grid_model.specs.Rows.{full_outs, ballot_outs, vote_outs, ack_outs, closed_outs, decides, greatest_vote, have_voted, are_all_among}
use Rattle.presumed_abort.specs.declared.states.Collecting.{Collecting}
use Rattle.presumed_abort.specs.declared.states.Committed.{Committed}
use Rattle.presumed_abort.specs.declared.stands.Stand.TheVariants as stand
use Rattle.presumed_abort.specs.States.{with_votes}
use Rattle.presumed_abort.specs.Turns.{quiet, waits_as, full_turn, yes_turn, ballot_turn, vote_turn, last_turn, acked_turn, ack_turn}
use Rattle.presumed_abort.specs.Views.{kept}

yes-row : (c : Collecting) (votes : List Voted) → (yes_turn c votes).outs ≡ full_outs c.t c.parts votes
yes-row c votes = go (have_voted c.parts votes)
  where
    go :
        (b : Bool)
        → (if b then full_turn c votes else waits_as (stand.Collecting (with_votes votes c))).outs
        ≡ (if b then decides c.t (greatest_vote votes) c.parts else [])
    go true = refl
    go false = refl

first-row :
    (c : Collecting) (x : NodeId) (b : Ballot)
    → (ballot_turn c x b).outs ≡ ballot_outs c.t c.parts c.tx.progress.votes x b
first-row c x (ballot.Yes p) = yes-row c (c.tx.progress.votes ++ record { from = x; p = p } ∷ [])
first-row c x (ballot.No why) = refl

collecting-row :
    (c : Collecting) (x : NodeId) (b : Ballot)
    → (if has_voted x c.tx.progress.votes then quiet else ballot_turn c x b).outs
    ≡ (if has_voted x c.tx.progress.votes then [] else ballot_outs c.t c.parts c.tx.progress.votes x b)
collecting-row c x b = go (has_voted x c.tx.progress.votes)
  where
    go :
        (voted : Bool)
        → (if voted then quiet else ballot_turn c x b).outs
        ≡ (if voted then [] else ballot_outs c.t c.parts c.tx.progress.votes x b)
    go true = refl
    go false = first-row c x b

pub vote-row :
    (c : ClusterData) (t : TxId) (x : NodeId) (b : Ballot) (s : Stage)
    → (vote_turn x b (kept c t s)).outs ≡ vote_outs c t x b s
vote-row c t x b (Reads o j) = refl
vote-row c t x b (Collects o) = collecting-row (record { t = t; tx = o; parts = parts_now c o }) x b
vote-row c t x b (Commits y acks) = refl
vote-row c t x b Apart = refl

acked-row : (c : Committed) (acks : List NodeId) → (acked_turn c acks).outs ≡ closed_outs c.t c.parts acks
acked-row c acks = go (are_all_among c.parts acks)
  where
    go :
        (b : Bool)
        → (if b then last_turn c else waits_as (stand.Committed (record c { acks = acks }))).outs
        ≡ (if b then out.Act (act.Closed c.t) ∷ [] else [])
    go true = refl
    go false = refl

decided-row :
    (c : Committed) (x : NodeId)
    → (if is_among x c.acks then quiet else acked_turn c (c.acks ++ x ∷ [])).outs
    ≡ (if is_among x c.acks then [] else closed_outs c.t c.parts (c.acks ++ x ∷ []))
decided-row c x = go (is_among x c.acks)
  where
    go :
        (b : Bool)
        → (if b then quiet else acked_turn c (c.acks ++ x ∷ [])).outs
        ≡ (if b then [] else closed_outs c.t c.parts (c.acks ++ x ∷ []))
    go true = refl
    go false = acked-row c (c.acks ++ x ∷ [])

pub ack-row :
    (c : ClusterData) (t : TxId) (x : NodeId) (s : Stage) → (ack_turn x (kept c t s)).outs ≡ ack_outs t x s
ack-row c t x (Reads o j) = refl
ack-row c t x (Collects o) = refl
ack-row c t x (Commits y acks) = decided-row (record { t = t; f = y.final; parts = y.parts; acks = acks }) x
ack-row c t x Apart = refl
