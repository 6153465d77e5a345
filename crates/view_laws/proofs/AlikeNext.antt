-- Behind an event the same records are written on alike journals, and nothing else tells the views apart.
use Rattle.std.proofs.Common.{◌≡◌, List, [], ◌∷◌, ◌++◌, Option, Some, None, refl, sym, ap, subst, ◌∙◌}
use Rattle.std.proofs.lemmas.List.{append_assoc}
use Rattle.score_base.specs.declared.ids.TxId.{TxId}
use Rattle.score_base.specs.declared.ids.NodeId.{NodeId}
use Rattle.score_base.specs.declared.records.Record.{Record}
use Rattle.score_base.specs.declared.causes.Ballot.TheVariants as ballot
use Rattle.script_lang.specs.Scripts.{ScriptData}
use Rattle.journal_words.specs.Participants.{written}
use Rattle.journal_words.specs.Small.{AreAlike}
use Rattle.journal_words.proofs.AlikeFits.{alike-more}
use Rattle.grid_model.specs.declared.acts.Act.TheVariants as act
use Rattle.grid_model.specs.declared.events.Event.{Event}
use Rattle.grid_model.specs.declared.events.Event.TheVariants as event
use Rattle.grid_model.specs.declared.events.Out.{Out}
use Rattle.grid_model.specs.declared.events.Out.TheVariants as out
use Rattle.grid_model.specs.declared.messages.Envelope.{Envelope}
use Rattle.grid_model.specs.declared.messages.Message.{Message}
use Rattle.grid_model.specs.declared.messages.Message.TheVariants as message
use Rattle.grid_model.specs.Views.{View}
use Rattle.grid_model.specs.NextViews.{acks_heard, behind, behind_all, desk_behind, desk_heard, envelope_of, record_by, script_begun, view_heard}
use Rattle.grid_model.proofs.ViewSteps.{same-view}
use Rattle.view_laws.specs.AlikeViews.{IsNextAlike}
use Rattle.view_laws.proofs.AlikeRows.{alike-stage}

-- ---- one out

behind-desk : (s : Option ScriptData) (v : View) (r : List Record) (o : Out) (t : TxId) → AreAlike r v.journal →
    desk_behind s (record v { journal = r }) o t ≡ desk_behind s v o t
behind-desk s v r (out.Act (act.Began u n sid0)) t a = rw (a.decisions t) refl
behind-desk s v r (out.Act x) t a = refl
behind-desk s v r (out.Send to said) t a = refl

behind-alike : (e : Option Envelope) (s : Option ScriptData) (v : View) (r : List Record) (o : Out) →
    AreAlike r v.journal →
    behind e s (record v { journal = r }) o ≡ record (behind e s v o) { journal = written (record_by e v o) r }
behind-alike e s v r o a =
    same-view _ _ refl refl refl refl (λ t. behind-desk s v r o t a) (λ t. refl)

written-alike : (x : Option Record) (r s : List Record) → AreAlike r s → AreAlike (written x r) (written x s)
written-alike None r s a = a
written-alike (Some x) r s a = alike-more x r s a

-- ---- all outs

-- the views behind these outs, by the records that were written
record AreBehindAlike (e : Option Envelope) (s : Option ScriptData) (v : View) (r : List Record) (os : List Out)
    : Type 0 where
  pub fresh : List Record
  pub journal : (behind_all e s v os).journal ≡ fresh ++ v.journal
  pub view : behind_all e s (record v { journal = r }) os ≡ record (behind_all e s v os) { journal = fresh ++ r }
  pub alike : AreAlike (fresh ++ r) (behind_all e s v os).journal

-- the record of an out, as a list
abbrev pub as_list : Option Record → List Record
as_list None = []
as_list (Some x) = x ∷ []

pub written-list : (x : Option Record) (r : List Record) → written x r ≡ as_list x ++ r
written-list None r = refl
written-list (Some x) r = refl

behind-all-alike : (e : Option Envelope) (s : Option ScriptData) (v : View) (r : List Record) (os : List Out) →
    AreAlike r v.journal → AreBehindAlike e s v r os
behind-all-alike e s v r [] a = record { fresh = []; journal = refl; view = refl; alike = a }
behind-all-alike e s v r (o ∷ os) a =
    let x : Option Record = record_by e v o in
    let more = behind-all-alike e s (behind e s v o) (written x r) os (written-alike x r v.journal a) in
    let joined : (q : List Record) → more.fresh ++ written x q ≡ (more.fresh ++ as_list x) ++ q =
    λ q. ap (λ z. more.fresh ++ z) (written-list x q) ∙ sym (append_assoc more.fresh (as_list x) q) in
    record {
      fresh = more.fresh ++ as_list x;
      journal = more.journal ∙ joined v.journal;
      view =
          ap (λ w. behind_all e s w os) (behind-alike e s v r o a)
          ∙ more.view
          ∙ ap (λ z. record (behind_all e s v (o ∷ os)) { journal = z }) (joined r);
      alike =
          subst (λ z. AreAlike z (behind_all e s v (o ∷ os)).journal) (joined r) more.alike;
    }

-- ---- what an event brings

heard-desk : (v : View) (r : List Record) (x : NodeId) (said : Message) (t : TxId) → AreAlike r v.journal →
    desk_heard (record v { journal = r }) x said t ≡ desk_heard v x said t
heard-desk v r x (message.Vote u (ballot.Yes p)) t a = rw (alike-stage v r t a, a.clock) refl
heard-desk v r x said t a = refl

heard-acks : (v : View) (r : List Record) (x : NodeId) (said : Message) (t : TxId) → AreAlike r v.journal →
    acks_heard (record v { journal = r }) x said t ≡ acks_heard v x said t
heard-acks v r x (message.Ack u) t a = rw (alike-stage v r t a, a.clock) refl
heard-acks v r x said t a = refl

heard-alike : (v : View) (r : List Record) (e : Event) → AreAlike r v.journal →
    view_heard (record v { journal = r }) e ≡ record (view_heard v e) { journal = r }
heard-alike v r (event.Deliver x said) a =
    same-view _ _ refl refl refl refl (λ t. heard-desk v r x said t a) (λ t. heard-acks v r x said t a)
heard-alike v r e a = refl

heard-journal : (v : View) (e : Event) → (view_heard v e).journal ≡ v.journal
heard-journal v (event.Deliver x said) = refl
heard-journal v e = refl

-- ---- an event

pub alike-next : (n : NodeId) (v : View) (r : List Record) (e : Event) (os : List Out) → AreAlike r v.journal →
    IsNextAlike n v r e os
alike-next n v r e os a =
    let kept : (view_heard v e).journal ≡ v.journal = heard-journal v e in
    let from : AreAlike r (view_heard v e).journal = subst (AreAlike r) (sym kept) a in
    let more = behind-all-alike (envelope_of n e) (script_begun e) (view_heard v e) r os from in
    record {
      fresh = more.fresh;
      journal = more.journal ∙ ap (λ z. more.fresh ++ z) kept;
      view = ap (λ w. behind_all (envelope_of n e) (script_begun e) w os) (heard-alike v r e a) ∙ more.view;
      alike = more.alike;
    }
