-- The view behind a vote: its transaction alone stands otherwise, as the turn says.
use Rattle.std.proofs.Common.{◌≡◌, ◌&&◌, Bool, true, false, List, [], ◌∷◌, ◌++◌, Option, Some, None, refl, ap, ◌∙◌, arith, if◌then◌else◌}
use Rattle.std.proofs.lemmas.Bool.Decides.{nat_tests}
use Rattle.std.specs.Prelude.{◌==◌}
use Rattle.score_base.specs.declared.ids.TxId.{TxId}
use Rattle.score_base.specs.declared.ids.NodeId.{NodeId}
use Rattle.score_base.specs.declared.ids.Ident.{Ident}
use Rattle.score_base.specs.declared.causes.Ballot.{Ballot}
use Rattle.score_base.specs.declared.causes.Ballot.TheVariants as ballot
use Rattle.score_base.specs.declared.causes.Cause.{Cause}
use Rattle.score_base.specs.declared.causes.Outcome.TheVariants as outcome
use Rattle.score_base.specs.declared.records.Record.TheVariants as record'
use Rattle.placement.specs.Places.{others}
use Rattle.journal_words.specs.Journals.{undone}
use Rattle.grid_model.specs.declared.acts.Act.TheVariants as act
use Rattle.grid_model.specs.declared.events.Event.TheVariants as event
use Rattle.grid_model.specs.declared.events.Out.{Out}
use Rattle.grid_model.specs.declared.events.Out.TheVariants as out
use Rattle.grid_model.specs.declared.messages.Envelope.{Envelope}
use Rattle.grid_model.specs.declared.messages.Message.{Message}
use Rattle.grid_model.specs.declared.messages.Message.TheVariants as message
use Rattle.grid_model.specs.declared.stories.Voted.{Voted}
use Rattle.grid_model.specs.Stories.{has_voted, is_collecting, with_vote}
use Rattle.grid_model.specs.Fitness.{is_fit}
use Rattle.grid_model.specs.Views.{View, Open, Stage, Apart, Reads, Collects, Commits, open_stage, stage, phase_in}
use Rattle.grid_model.specs.Advances.{parts_now}
use Rattle.grid_model.specs.Nodes.{written, learnt}
use Rattle.grid_model.specs.Rows.{full_outs, ballot_outs, vote_outs, decides, greatest_vote, have_voted, tells}
use Rattle.grid_model.specs.NextViews.{changed_open, desk_heard, decided_by, next_view}
use Rattle.presumed_abort.specs.declared.states.Collecting.{Collecting}
use Rattle.presumed_abort.specs.declared.stands.Stand.TheVariants as stand
use Rattle.presumed_abort.specs.States.{with_votes}
use Rattle.presumed_abort.specs.Turns.{Turn, Keeps, Goes, quiet, waits_as, full_turn, yes_turn, ballot_turn, vote_turn}
use Rattle.presumed_abort.specs.Views.{kept}
use Rattle.presumed_abort.proofs.DeskSteps.{Steps}
use Rattle.presumed_abort.proofs.Stages.{stage-is, AtVotes, at-votes, tells-behind}
use Rattle.presumed_abort.proofs.Undone.{decided-undone, decided-other}

-- the view behind a vote to which n gives these outs
abbrev pub voted_view : NodeId → View → NodeId → TxId → Ballot → List Out → View
voted_view n v x t b os = next_view n v (event.Deliver x (message.Vote t b)) os

abbrev letter : NodeId → NodeId → Message → Option Envelope
letter n x said = Some (record { from = x; to = n; message = said })

self : (t : TxId) → (t == t) ≡ true
self t = grind (arith, nat_tests)

-- an open transaction that took a yes
abbrev pub with_yes : NodeId → Ident → Open → Open
with_yes x p o =
    record o {
      progress = record o.progress { votes = o.progress.votes ++ record { from = x; p = p } ∷ [] };
    }

-- ---- the vote is heard

heard-other :
    (v : View) (x : NodeId) (t u : TxId) (b : Ballot)
    → (t == u) ≡ false → desk_heard v x (message.Vote t b) u ≡ v.desk u
heard-other v x t u (ballot.Yes p) other = rw other refl
heard-other v x t u (ballot.No why) other = refl

counted :
    {A : Type 0} (own collects fit : Bool) (y z : A)
    → own ≡ true → fit ≡ true → (if own && (collects && fit) then y else z) ≡ (if collects then y else z)
counted own true fit y z o f = rw (o, f) refl
counted own false fit y z o f = rw o refl

heard-yes :
    (n : NodeId) (v : View) (x : NodeId) (t : TxId) (p : Ident)
    → is_fit n v x (message.Vote t (ballot.Yes p)) ≡ true
    → desk_heard v x (message.Vote t (ballot.Yes p)) t
    ≡ (if is_collecting (phase_in (stage v t)) then changed_open (with_vote x p) (v.desk t) else v.desk t)
heard-yes n v x t p fit =
    counted
    (t == t) (is_collecting (phase_in (stage v t))) (is_fit n v x (message.Vote t (ballot.Yes p)))
    (changed_open (with_vote x p) (v.desk t)) (v.desk t) (self t) fit

-- a vote where nothing is taken
heard-apart :
    (n : NodeId) (v : View) (x : NodeId) (t : TxId) (b : Ballot)
    → is_fit n v x (message.Vote t b) ≡ true → is_collecting (phase_in (stage v t)) ≡ false
    → desk_heard v x (message.Vote t b) t ≡ v.desk t
heard-apart n v x t (ballot.Yes p) fit apart = heard-yes n v x t p fit ∙ rw apart refl
heard-apart n v x t (ballot.No why) fit apart = refl

heard-collects :
    (n : NodeId) (v : View) (x : NodeId) (t : TxId) (p : Ident) (o : Open)
    → is_fit n v x (message.Vote t (ballot.Yes p)) ≡ true → stage v t ≡ Collects o
    → AtVotes (undone t v.journal) (v.desk t) o
    → desk_heard v x (message.Vote t (ballot.Yes p)) t ≡ changed_open (with_vote x p) (Some o)
heard-collects n v x t p o fit is at =
    heard-yes n v x t p fit
    ∙ (let c : is_collecting (phase_in (stage v t)) ≡ true = ap (λ s. is_collecting (phase_in s)) is in
    rw (c, at.open') refl)

-- ---- where no outs are given

quiet-others :
    (n : NodeId) (v : View) (x : NodeId) (t u : TxId) (b : Ballot)
    → (t == u) ≡ false → stage (voted_view n v x t b []) u ≡ stage v u
quiet-others n v x t u b other =
    stage-is (voted_view n v x t b []) u _ _ _ refl (heard-other v x t u b other) refl

quiet-steps :
    (n : NodeId) (v : View) (x : NodeId) (t : TxId) (b : Ballot)
    → desk_heard v x (message.Vote t b) t ≡ v.desk t → Steps v (voted_view n v x t b []) t quiet
quiet-steps n v x t b same =
    record {
      cluster = refl;
      journal = refl;
      next = refl;
      held = refl;
      others = λ u other. quiet-others n v x t u b other;
      same = ap (kept v.cluster t) (stage-is (voted_view n v x t b []) t _ _ _ refl same refl);
    }

-- a yes, and others are missing
more-steps :
    (n : NodeId) (v : View) (x : NodeId) (t : TxId) (p : Ident) (o : Open)
    → AtVotes (undone t v.journal) (v.desk t) o
    → desk_heard v x (message.Vote t (ballot.Yes p)) t ≡ Some (with_yes x p o)
    → Steps v (voted_view n v x t (ballot.Yes p) []) t
    (record {
      outs = [];
      change = Keeps (stand.Collecting (record { t = t; tx = with_yes x p o; parts = parts_now v.cluster o }));
      rec = None;
    })
more-steps n v x t p o at heard =
    let w = voted_view n v x t (ballot.Yes p) [] in
    record {
      cluster = refl;
      journal = refl;
      next = refl;
      held = refl;
      others = λ u other. quiet-others n v x t u (ballot.Yes p) other;
      same =
          ap (kept v.cluster t)
          (stage-is w t None (Some (with_yes x p o)) (v.acks t) at.undecided heard refl
          ∙ ap (open_stage (with_yes x p o)) at.ends);
    }

-- ---- the last yes

full-steps :
    (n : NodeId) (v : View) (x : NodeId) (t : TxId) (p f : Ident) (o : Open)
    → desk_heard v x (message.Vote t (ballot.Yes p)) t ≡ Some (with_yes x p o)
    → Steps v (voted_view n v x t (ballot.Yes p) (decides t f (parts_now v.cluster o))) t
    (record {
      outs = decides t f (parts_now v.cluster o);
      change = Keeps (stand.Committed (record { t = t; f = f; parts = parts_now v.cluster o; acks = [] }));
      rec = Some (record'.Decided t f (parts_now v.cluster o));
    })
full-steps n v x t p f o heard =
    let ns = parts_now v.cluster o in
    let w = voted_view n v x t (ballot.Yes p) (out.Act (act.Decided t f) ∷ (out.Act (act.Finished t) ∷ [])) in
    let told : (voted_view n v x t (ballot.Yes p) (decides t f ns) ≡ w) =
    tells-behind (letter n x (message.Vote t (ballot.Yes p))) None w t (outcome.Commit f) ns in
    let rec = record'.Decided t f ns in
    let journal : (w.journal ≡ rec ∷ v.journal) = ap (λ d. written (decided_by d v.cluster t f) v.journal) heard in
    rw told (record {
      cluster = refl;
      journal = journal;
      next = ap (λ d. learnt (decided_by d v.cluster t f) v.next) heard;
      held = refl;
      others = λ u other.
          stage-is w u _ _ _ (ap (undone u) journal ∙ decided-other t u f ns v.journal other)
          (rw other refl) (rw other refl);
      same = ap (kept v.cluster t)
          (stage-is w t (Some (record { final = f; parts = ns })) _ []
          (ap (undone t) journal ∙ decided-undone t f ns v.journal) refl (rw (self t) refl));
    })

-- ---- a no

no-steps :
    (n : NodeId) (v : View) (x : NodeId) (t : TxId) (why : Cause) (ns : List NodeId) (os : List Out)
    → undone t v.journal ≡ None
    → Steps v (voted_view n v x t (ballot.No why) (out.Act (act.Aborted t x why) ∷ tells t outcome.Abort ns)) t
    (record { outs = os; change = Goes; rec = None })
no-steps n v x t why ns os undecided =
    let w = voted_view n v x t (ballot.No why) (out.Act (act.Aborted t x why) ∷ []) in
    let told : (voted_view n v x t (ballot.No why) (out.Act (act.Aborted t x why) ∷ tells t outcome.Abort ns) ≡ w) =
    tells-behind (letter n x (message.Vote t (ballot.No why))) None w t outcome.Abort ns in
    rw told (record {
      cluster = refl;
      journal = refl;
      next = refl;
      held = refl;
      others = λ u other. stage-is w u _ _ _ refl (rw other refl) refl;
      same = ap (kept v.cluster t) (stage-is w t None None (v.acks t) undecided (rw (self t) refl) refl);
    })

-- ---- the vote

yes-steps :
    (n : NodeId) (v : View) (x : NodeId) (t : TxId) (p : Ident) (o : Open)
    → AtVotes (undone t v.journal) (v.desk t) o
    → desk_heard v x (message.Vote t (ballot.Yes p)) t ≡ Some (with_yes x p o)
    → Steps v
    (voted_view n v x t (ballot.Yes p) (full_outs t (parts_now v.cluster o) (with_yes x p o).progress.votes)) t
    (yes_turn (record { t = t; tx = o; parts = parts_now v.cluster o }) (with_yes x p o).progress.votes)
yes-steps n v x t p o at heard = go (have_voted (parts_now v.cluster o) votes)
  where
    votes : List Voted
    votes = (with_yes x p o).progress.votes

    c : Collecting
    c = record { t = t; tx = o; parts = parts_now v.cluster o }

    waits : Turn
    waits = waits_as (stand.Collecting (with_votes votes c))

    go :
        (full : Bool)
        → Steps v
        (voted_view n v x t (ballot.Yes p)
        (if full then decides t (greatest_vote votes) (parts_now v.cluster o) else [])) t
        (if full then full_turn c votes else waits)
    go true = full-steps n v x t p (greatest_vote votes) o heard
    go false = more-steps n v x t p o at heard

-- a part that has voted votes again
again :
    (n : NodeId) (v : View) (x : NodeId) (t : TxId) (b : Ballot) (o : Open)
    → is_fit n v x (message.Vote t b) ≡ true → stage v t ≡ Collects o
    → AtVotes (undone t v.journal) (v.desk t) o → has_voted x o.progress.votes ≡ true
    → desk_heard v x (message.Vote t b) t ≡ v.desk t
again n v x t (ballot.Yes p) o fit is at voted =
    heard-collects n v x t p o fit is at ∙ rw (voted, at.open') refl
again n v x t (ballot.No why) o fit is at voted = refl

first-steps :
    (n : NodeId) (v : View) (x : NodeId) (t : TxId) (b : Ballot) (o : Open)
    → is_fit n v x (message.Vote t b) ≡ true → stage v t ≡ Collects o
    → AtVotes (undone t v.journal) (v.desk t) o → has_voted x o.progress.votes ≡ false
    → Steps v (voted_view n v x t b (ballot_outs t (parts_now v.cluster o) o.progress.votes x b)) t
    (ballot_turn (record { t = t; tx = o; parts = parts_now v.cluster o }) x b)
first-steps n v x t (ballot.Yes p) o fit is at voted =
    yes-steps n v x t p o at (heard-collects n v x t p o fit is at ∙ rw voted refl)
first-steps n v x t (ballot.No why) o fit is at voted =
    no-steps n v x t why (others x (parts_now v.cluster o)) _ at.undecided

pub vote-steps :
    (n : NodeId) (v : View) (x : NodeId) (t : TxId) (b : Ballot)
    → is_fit n v x (message.Vote t b) ≡ true
    → Steps v (voted_view n v x t b (vote_outs v.cluster t x b (stage v t))) t
    (vote_turn x b (kept v.cluster t (stage v t)))
vote-steps n v x t b fit = go (stage v t) refl
  where
    go :
        (s : Stage) → stage v t ≡ s
        → Steps v (voted_view n v x t b (vote_outs v.cluster t x b s)) t (vote_turn x b (kept v.cluster t s))
    go (Reads o j) is = quiet-steps n v x t b (heard-apart n v x t b fit (ap (λ s. is_collecting (phase_in s)) is))
    go (Commits y acks) is =
        quiet-steps n v x t b (heard-apart n v x t b fit (ap (λ s. is_collecting (phase_in s)) is))
    go Apart is = quiet-steps n v x t b (heard-apart n v x t b fit (ap (λ s. is_collecting (phase_in s)) is))
    go (Collects o) is = by (has_voted x o.progress.votes) refl
      where
        at : AtVotes (undone t v.journal) (v.desk t) o
        at = at-votes (undone t v.journal) (v.desk t) (v.acks t) o is

        c : Collecting
        c = record { t = t; tx = o; parts = parts_now v.cluster o }

        by :
            (voted : Bool) → has_voted x o.progress.votes ≡ voted
            → Steps v
            (voted_view n v x t b
            (if voted then [] else ballot_outs t (parts_now v.cluster o) o.progress.votes x b)) t
            (if voted then quiet else ballot_turn c x b)
        by true voted = quiet-steps n v x t b (again n v x t b o fit is at voted)
        by false voted = first-steps n v x t b o fit is at voted
