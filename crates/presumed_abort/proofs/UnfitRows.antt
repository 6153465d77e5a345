-- A message or a begin that is not fit leaves the view as it is.
use Rattle.std.proofs.Common.{◌≡◌, ◌==◌, ◌&&◌, Bool, true, false, [], inl, inr, refl, ap, subst, ◌∙◌, arith, if◌then◌else◌}
use Rattle.std.proofs.lemmas.Bool.{cases_eq}
use Rattle.std.proofs.lemmas.Bool.Decides.{nat_tests}
use Rattle.score_base.specs.declared.ids.TxId.{TxId}
use Rattle.score_base.specs.declared.ids.NodeId.{NodeId}
use Rattle.score_base.specs.declared.ids.Ident.{Ident}
use Rattle.score_base.specs.declared.causes.Ballot.TheVariants as ballot
use Rattle.script_lang.specs.Scripts.{ScriptData}
use Rattle.grid_model.specs.declared.events.Event.TheVariants as event
use Rattle.grid_model.specs.declared.messages.Message.{Message}
use Rattle.grid_model.specs.declared.messages.Message.TheVariants as message
use Rattle.grid_model.specs.Stories.{is_collecting, is_decided, with_vote, with_node}
use Rattle.grid_model.specs.Fitness.{is_fit, is_fit_begin}
use Rattle.grid_model.specs.Views.{View, stage, phase_in}
use Rattle.grid_model.specs.Rows.{outs_of}
use Rattle.grid_model.specs.NextViews.{changed_open, desk_heard, acks_heard, heard_view, next_view}
use Rattle.grid_model.proofs.ViewSteps.{same-view}

self : (t : TxId) → (t == t) ≡ true
self t = grind (arith, nat_tests)

uncounted :
    {A : Type 0} (own stands fit : Bool) (y z : A) → fit ≡ false → (if own && (stands && fit) then y else z) ≡ z
uncounted true true fit y z f = rw f refl
uncounted true false fit y z f = refl
uncounted false stands fit y z f = refl

unheard-desk :
    (n : NodeId) (v : View) (x : NodeId) (said : Message) (u : TxId)
    → is_fit n v x said ≡ false → desk_heard v x said u ≡ v.desk u
unheard-desk n v x (message.Vote t (ballot.Yes p)) u fit = elim (cases_eq t u) [
  | inl same ↦
      subst (λ (z : TxId). desk_heard v x (message.Vote t (ballot.Yes p)) z ≡ v.desk z) same
      (uncounted
      (t == t) (is_collecting (phase_in (stage v t))) (is_fit n v x (message.Vote t (ballot.Yes p)))
      (changed_open (with_vote x p) (v.desk t)) (v.desk t) fit)
  | inr other ↦ (let apart : (t == u) ≡ false = grind (arith, nat_tests) in rw apart refl)
]
unheard-desk n v x (message.Vote t (ballot.No why)) u fit = refl
unheard-desk n v x said u fit = refl

unheard-acks :
    (n : NodeId) (v : View) (x : NodeId) (said : Message) (u : TxId)
    → is_fit n v x said ≡ false → acks_heard v x said u ≡ v.acks u
unheard-acks n v x (message.Ack t) u fit = elim (cases_eq t u) [
  | inl same ↦
      subst (λ (z : TxId). acks_heard v x (message.Ack t) z ≡ v.acks z) same
      (uncounted
      (t == t) (is_decided (phase_in (stage v t))) (is_fit n v x (message.Ack t))
      (with_node x (v.acks t)) (v.acks t) fit)
  | inr other ↦ (let apart : (t == u) ≡ false = grind (arith, nat_tests) in rw apart refl)
]
unheard-acks n v x said u fit = refl

pub unfit-outs :
    (n : NodeId) (v : View) (x : NodeId) (said : Message)
    → is_fit n v x said ≡ false → outs_of n v (event.Deliver x said) ≡ []
unfit-outs n v x said fit = rw fit refl

pub unfit-view :
    (n : NodeId) (v : View) (x : NodeId) (said : Message)
    → is_fit n v x said ≡ false
    → next_view n v (event.Deliver x said) (outs_of n v (event.Deliver x said)) ≡ v
unfit-view n v x said fit =
    ap (next_view n v (event.Deliver x said)) (unfit-outs n v x said fit)
    ∙ same-view (heard_view v x said) v refl refl refl refl
    (λ u. unheard-desk n v x said u fit) (λ u. unheard-acks n v x said u fit)

pub unfit-begin-outs :
    (n : NodeId) (v : View) (s : ScriptData) (floor : Ident)
    → is_fit_begin n v s floor ≡ false → outs_of n v (event.Begin s floor) ≡ []
unfit-begin-outs n v s floor fit = rw fit refl

pub unfit-begin-view :
    (n : NodeId) (v : View) (s : ScriptData) (floor : Ident)
    → is_fit_begin n v s floor ≡ false
    → next_view n v (event.Begin s floor) (outs_of n v (event.Begin s floor)) ≡ v
unfit-begin-view n v s floor fit = ap (next_view n v (event.Begin s floor)) (unfit-begin-outs n v s floor fit)
