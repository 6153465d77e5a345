-- The view behind an acknowledgement: its transaction alone stands otherwise, as the turn says.
use Rattle.std.proofs.Common.{◌≡◌, ◌&&◌, Bool, true, false, List, [], ◌∷◌, ◌++◌, Some, None, refl, ap, ◌∙◌, arith, if◌then◌else◌}
use Rattle.std.proofs.lemmas.Bool.Decides.{nat_tests}
use Rattle.std.specs.Prelude.{◌==◌}
use Rattle.score_base.specs.declared.ids.TxId.{TxId}
use Rattle.score_base.specs.declared.ids.NodeId.{NodeId}
use Rattle.score_base.specs.declared.records.Record.TheVariants as record'
use Rattle.placement.specs.Places.{is_among}
use Rattle.journal_words.specs.Journals.{Decision, undone}
use Rattle.grid_model.specs.declared.acts.Act.TheVariants as act
use Rattle.grid_model.specs.declared.events.Event.TheVariants as event
use Rattle.grid_model.specs.declared.events.Out.{Out}
use Rattle.grid_model.specs.declared.events.Out.TheVariants as out
use Rattle.grid_model.specs.declared.messages.Message.TheVariants as message
use Rattle.grid_model.specs.Stories.{is_decided, with_node}
use Rattle.grid_model.specs.Fitness.{is_fit}
use Rattle.grid_model.specs.Views.{View, Stage, Apart, Reads, Collects, Commits, stage, phase_in}
use Rattle.grid_model.specs.Rows.{ack_outs, closed_outs, are_all_among}
use Rattle.grid_model.specs.NextViews.{acks_heard, next_view}
use Rattle.presumed_abort.specs.declared.states.Committed.{Committed}
use Rattle.presumed_abort.specs.declared.stands.Stand.TheVariants as stand
use Rattle.presumed_abort.specs.Turns.{Turn, Keeps, Goes, quiet, waits_as, last_turn, acked_turn, ack_turn}
use Rattle.presumed_abort.specs.Views.{kept, AreApart}
use Rattle.presumed_abort.proofs.DeskSteps.{Steps}
use Rattle.presumed_abort.proofs.Stages.{stage-is, at-acks}
use Rattle.presumed_abort.proofs.Undone.{closed-done, closed-other}

-- the view behind an acknowledgement to which n gives these outs
abbrev pub acked_view : NodeId → View → NodeId → TxId → List Out → View
acked_view n v x t os = next_view n v (event.Deliver x (message.Ack t)) os

self : (t : TxId) → (t == t) ≡ true
self t = grind (arith, nat_tests)

heard-other :
    (v : View) (x : NodeId) (t u : TxId) → (t == u) ≡ false → acks_heard v x (message.Ack t) u ≡ v.acks u
heard-other v x t u other = rw other refl

counted :
    {A : Type 0} (own decided fit : Bool) (y z : A)
    → own ≡ true → fit ≡ true → (if own && (decided && fit) then y else z) ≡ (if decided then y else z)
counted own true fit y z o f = rw (o, f) refl
counted own false fit y z o f = rw o refl

heard-ack :
    (n : NodeId) (v : View) (x : NodeId) (t : TxId)
    → is_fit n v x (message.Ack t) ≡ true
    → acks_heard v x (message.Ack t) t
    ≡ (if is_decided (phase_in (stage v t)) then with_node x (v.acks t) else v.acks t)
heard-ack n v x t fit =
    counted
    (t == t) (is_decided (phase_in (stage v t))) (is_fit n v x (message.Ack t))
    (with_node x (v.acks t)) (v.acks t) (self t) fit

quiet-steps :
    (n : NodeId) (v : View) (x : NodeId) (t : TxId)
    → acks_heard v x (message.Ack t) t ≡ v.acks t → Steps v (acked_view n v x t []) t quiet
quiet-steps n v x t same =
    record {
      cluster = refl;
      journal = refl;
      next = refl;
      held = refl;
      others = λ u other. stage-is (acked_view n v x t []) u _ _ _ refl refl (heard-other v x t u other);
      same = ap (kept v.cluster t) (stage-is (acked_view n v x t []) t _ _ _ refl refl same);
    }

more-steps :
    (n : NodeId) (v : View) (x : NodeId) (t : TxId) (y : Decision) (acks : List NodeId)
    → undone t v.journal ≡ Some y → acks_heard v x (message.Ack t) t ≡ acks
    → Steps v (acked_view n v x t []) t
    (record {
      outs = [];
      change = Keeps (stand.Committed (record { t = t; f = y.final; parts = y.parts; acks = acks }));
      rec = None;
    })
more-steps n v x t y acks decided heard =
    record {
      cluster = refl;
      journal = refl;
      next = refl;
      held = refl;
      others = λ u other. stage-is (acked_view n v x t []) u _ _ _ refl refl (heard-other v x t u other);
      same = ap (kept v.cluster t) (stage-is (acked_view n v x t []) t (Some y) (v.desk t) acks decided refl heard);
    }

-- the end; the transaction is not open besides
last-steps :
    (n : NodeId) (v : View) (x : NodeId) (t : TxId)
    → v.desk t ≡ None
    → Steps v (acked_view n v x t (out.Act (act.Closed t) ∷ [])) t
    (record { outs = out.Act (act.Closed t) ∷ []; change = Goes; rec = Some (record'.Closed t) })
last-steps n v x t apart =
    let w = acked_view n v x t (out.Act (act.Closed t) ∷ []) in
    record {
      cluster = refl;
      journal = refl;
      next = refl;
      held = refl;
      others = λ u other.
          stage-is w u _ _ _ (closed-other t u v.journal other) refl (rw other refl);
      same = ap (kept v.cluster t) (stage-is w t None None _ (closed-done t v.journal) apart refl);
    }

acked-steps :
    (n : NodeId) (v : View) (x : NodeId) (t : TxId) (y : Decision) (acks : List NodeId)
    → v.desk t ≡ None → undone t v.journal ≡ Some y → acks_heard v x (message.Ack t) t ≡ acks
    → Steps v (acked_view n v x t (closed_outs t y.parts acks)) t
    (acked_turn (record { t = t; f = y.final; parts = y.parts; acks = v.acks t }) acks)
acked-steps n v x t y acks apart decided heard = go (are_all_among y.parts acks)
  where
    c : Committed
    c = record { t = t; f = y.final; parts = y.parts; acks = v.acks t }

    waits : Turn
    waits = waits_as (stand.Committed (record c { acks = acks }))

    go :
        (all : Bool)
        → Steps v (acked_view n v x t (if all then out.Act (act.Closed t) ∷ [] else [])) t
        (if all then last_turn c else waits)
    go true = last-steps n v x t apart
    go false = more-steps n v x t y acks decided heard

commits-heard :
    (n : NodeId) (v : View) (x : NodeId) (t : TxId) (y : Decision) (acks : List NodeId)
    → is_fit n v x (message.Ack t) ≡ true → stage v t ≡ Commits y acks
    → acks_heard v x (message.Ack t) t ≡ with_node x (v.acks t)
commits-heard n v x t y acks fit is =
    heard-ack n v x t fit
    ∙ (let c : is_decided (phase_in (stage v t)) ≡ true = ap (λ s. is_decided (phase_in s)) is in rw c refl)

apart-heard :
    (n : NodeId) (v : View) (x : NodeId) (t : TxId)
    → is_fit n v x (message.Ack t) ≡ true → is_decided (phase_in (stage v t)) ≡ false
    → acks_heard v x (message.Ack t) t ≡ v.acks t
apart-heard n v x t fit apart = heard-ack n v x t fit ∙ rw apart refl

pub ack-steps :
    (n : NodeId) (v : View) (x : NodeId) (t : TxId)
    → AreApart v → is_fit n v x (message.Ack t) ≡ true
    → Steps v (acked_view n v x t (ack_outs t x (stage v t))) t (ack_turn x (kept v.cluster t (stage v t)))
ack-steps n v x t apart fit = go (stage v t) refl
  where
    go :
        (s : Stage) → stage v t ≡ s
        → Steps v (acked_view n v x t (ack_outs t x s)) t (ack_turn x (kept v.cluster t s))
    go (Reads o j) is = quiet-steps n v x t (apart-heard n v x t fit (ap (λ s. is_decided (phase_in s)) is))
    go (Collects o) is = quiet-steps n v x t (apart-heard n v x t fit (ap (λ s. is_decided (phase_in s)) is))
    go Apart is = quiet-steps n v x t (apart-heard n v x t fit (ap (λ s. is_decided (phase_in s)) is))
    go (Commits y acks) is =
        let at = at-acks (undone t v.journal) (v.desk t) (v.acks t) y acks is in
        rw (← at.acks) (by (is_among x (v.acks t)) refl at.decided)
      where
        c : Committed
        c = record { t = t; f = y.final; parts = y.parts; acks = v.acks t }

        by :
            (taken : Bool) → is_among x (v.acks t) ≡ taken → undone t v.journal ≡ Some y
            → Steps v (acked_view n v x t (if taken then [] else closed_outs t y.parts (v.acks t ++ x ∷ []))) t
            (if taken then quiet else acked_turn c (v.acks t ++ x ∷ []))
        by true taken decided = quiet-steps n v x t (commits-heard n v x t y acks fit is ∙ rw taken refl)
        by false taken decided =
            acked-steps n v x t y (v.acks t ++ x ∷ []) (apart t y decided) decided
            (commits-heard n v x t y acks fit is ∙ rw taken refl)
