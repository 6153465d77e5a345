-- The view behind a retry and behind a question: what is sent again changes whose turn a read is, and nothing else.
use Rattle.std.proofs.Common.{◌≡◌, ℕ, List, [], ◌∷◌, Option, Some, None, refl, sym, ap, ◌∙◌, slice_get, length}
use Rattle.score_base.specs.declared.ids.TxId.{TxId}
use Rattle.score_base.specs.declared.ids.NodeId.{NodeId}
use Rattle.score_base.specs.declared.causes.Outcome.TheVariants as outcome
use Rattle.script_lang.specs.declared.scripts.Op.{Op}
use Rattle.script_lang.specs.Reads.{key_of}
use Rattle.script_runs.specs.Waits.{waiting}
use Rattle.script_runs.specs.Walks.{op_at}
use Rattle.placement.specs.Places.{holders, preferred}
use Rattle.placement.specs.Clusters.{ClusterData}
use Rattle.journal_words.specs.Journals.{undone}
use Rattle.grid_model.specs.declared.events.Event.TheVariants as event
use Rattle.grid_model.specs.declared.events.Out.{Out}
use Rattle.grid_model.specs.declared.messages.Message.{Message}
use Rattle.grid_model.specs.declared.messages.Message.TheVariants as message
use Rattle.grid_model.specs.Stories.{with_request}
use Rattle.grid_model.specs.Views.{View, Open, Stage, Apart, Reads, Collects, Commits, stage}
use Rattle.grid_model.specs.Advances.{parts_now, request_of, request, to_node, date_by}
use Rattle.grid_model.specs.Rows.{asked_outs, retry_outs, not_voted, not_among}
use Rattle.grid_model.specs.NextViews.{changed_open, next_view}
use Rattle.presumed_abort.specs.declared.states.Reading.{Reading}
use Rattle.presumed_abort.specs.declared.stands.Stand.TheVariants as stand
use Rattle.presumed_abort.specs.Turns.{quiet}
use Rattle.presumed_abort.specs.Replies.{with_asked}
use Rattle.presumed_abort.specs.Retries.{asked_again, sent_again, retry_turn, told_of}
use Rattle.presumed_abort.specs.Views.{kept, OwnNumbers}
use Rattle.presumed_abort.proofs.DeskSteps.{Steps}
use Rattle.presumed_abort.proofs.Stages.{stage-is, at-reads, tells-behind}
use Rattle.presumed_abort.proofs.AdvanceSteps.{hits, misses, prepares-behind}

-- ---- the outs

again-outs : (c : ClusterData) (r : Reading) (os : List Out) → (asked_again c r os).outs ≡ os
again-outs c r [] = refl
again-outs c r (o ∷ os) = refl

pub retry-row : (c : ClusterData) (t : TxId) (s : Stage) → (retry_turn c (kept c t s)).outs ≡ retry_outs c t s
retry-row c t (Reads x j) = again-outs c (record { tx = x; op = j }) (request c x j x.progress.turn)
retry-row c t (Collects x) = refl
retry-row c t (Commits y acks) = refl
retry-row c t Apart = refl

pub ask-row : (c : ClusterData) (t : TxId) (x : NodeId) (s : Stage) → told_of t x (kept c t s) ≡ asked_outs t x s
ask-row c t x (Reads o j) = refl
ask-row c t x (Collects o) = refl
ask-row c t x (Commits y acks) = refl
ask-row c t x Apart = refl

-- ---- the view

-- nothing changes
same-steps : (v : View) (t : TxId) (os : List Out) → Steps v v t (sent_again os)
same-steps v t os =
    record {
      cluster = refl;
      journal = refl;
      next = refl;
      held = refl;
      others = λ u apart. refl;
      same = refl;
    }

again-steps :
    (n : NodeId) (v : View) (t : TxId) (x : Open) (j : ℕ)
    → undone t v.journal ≡ None → v.desk t ≡ Some x → waiting x.script.ops x.progress.values ≡ Some j
    → x.script.number ≡ t
    → Steps v (next_view n v (event.Retry t) (request v.cluster x j x.progress.turn)) t
    (asked_again v.cluster (record { tx = x; op = j }) (request v.cluster x j x.progress.turn))
again-steps n v t x j undecided here waits number = by (op_at x.script.ops j) refl
  where
    r : Reading
    r = record { tx = x; op = j }

    quiet-steps : Steps v v t quiet
    quiet-steps =
        record {
          cluster = refl;
          journal = refl;
          next = refl;
          held = refl;
          others = λ u apart. refl;
          same = refl;
        }

    by :
        (op : Option Op) → op_at x.script.ops j ≡ op
        → Steps v (next_view n v (event.Retry t) (request_of v.cluster x j x.progress.turn op)) t
        (asked_again v.cluster r (request_of v.cluster x j x.progress.turn op))
    by None is = quiet-steps
    by (Some op) is = to (slice_get (preferred v.cluster.places x.script.home (key_of op)) x.progress.turn)
      where
        turned : Open
        turned = record x { progress = with_request (length (holders v.cluster.places (key_of op))) x.progress }

        asked : with_asked v.cluster j x ≡ turned
        asked = rw is refl

        said : Message
        said =
            message.ReadReq
            (record {
              t = x.script.number;
              op = j;
              key = key_of op;
              date = date_by x.progress.sid0 x.progress.sid;
            })

        to :
            (m : Option NodeId)
            → Steps v (next_view n v (event.Retry t) (to_node m said)) t (asked_again v.cluster r (to_node m said))
        to None = quiet-steps
        to (Some m) =
            let w = next_view n v (event.Retry t) (to_node (Some m) said) in
            record {
              cluster = refl;
              journal = refl;
              next = refl;
              held = refl;
              others = λ u apart. stage-is w u _ _ _ refl (misses x.script.number t u _ _ number apart) refl;
              same =
                  ap (kept v.cluster t)
                  (stage-is w t None (Some turned) (v.acks t) undecided
                  (hits x.script.number t _ _ number
                  ∙ ap (changed_open (with_request (length (holders v.cluster.places (key_of op))))) here)
                  refl)
                  ∙ rw waits (ap (λ y. Some (stand.Reading (record { tx = y; op = j }))) (sym asked));
            }

pub retry-steps :
    (n : NodeId) (v : View) (t : TxId)
    → OwnNumbers v
    → Steps v (next_view n v (event.Retry t) (retry_outs v.cluster t (stage v t))) t
    (retry_turn v.cluster (kept v.cluster t (stage v t)))
retry-steps n v t own = go (stage v t) refl
  where
    go :
        (s : Stage) → stage v t ≡ s
        → Steps v (next_view n v (event.Retry t) (retry_outs v.cluster t s)) t
        (retry_turn v.cluster (kept v.cluster t s))
    go Apart is = same-steps v t []
    go (Collects x) is =
        rw (prepares-behind None None v v.cluster x (not_voted (parts_now v.cluster x) x.progress.votes))
        (same-steps v t _)
    go (Commits y acks) is =
        rw (tells-behind None None v t (outcome.Commit y.final) (not_among y.parts acks)) (same-steps v t _)
    go (Reads x j) is =
        let at = at-reads (undone t v.journal) (v.desk t) (v.acks t) x j is in
        again-steps n v t x j at.undecided at.open' at.waits (own t x at.open')

pub ask-steps :
    (n : NodeId) (v : View) (x : NodeId) (t : TxId)
    → Steps v (next_view n v (event.Deliver x (message.Ask t)) (asked_outs t x (stage v t))) t
    (sent_again (told_of t x (kept v.cluster t (stage v t))))
ask-steps n v x t = go (stage v t)
  where
    go :
        (s : Stage)
        → Steps v (next_view n v (event.Deliver x (message.Ask t)) (asked_outs t x s)) t
        (sent_again (told_of t x (kept v.cluster t s)))
    go (Reads o j) = same-steps v t []
    go (Collects o) = same-steps v t []
    go (Commits y acks) = same-steps v t _
    go Apart = same-steps v t _
