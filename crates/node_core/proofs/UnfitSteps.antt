-- What is not fit gives nothing and leaves the node as it is.
use Rattle.std.proofs.Common.{◌≡◌, false, List, [], None, refl, sym, ap, subst, ◌∙◌}
use Rattle.score_base.specs.declared.ids.NodeId.{NodeId}
use Rattle.score_base.specs.declared.ids.Ident.{Ident}
use Rattle.script_lang.specs.Scripts.{ScriptData}
use Rattle.score_disk.specs.declared.disk.Disk.{Ghosts}
use Rattle.grid_model.specs.declared.events.Event.{Event}
use Rattle.grid_model.specs.declared.events.Event.TheVariants as event
use Rattle.grid_model.specs.declared.events.Out.{Out}
use Rattle.grid_model.specs.declared.messages.Message.{Message}
use Rattle.grid_model.specs.Fitness.{is_fit, is_fit_begin}
use Rattle.grid_model.specs.NextViews.{next_view}
use Rattle.grid_model.specs.Rows.{outs_of}
use Rattle.grid_model.specs.Views.{View}
use Rattle.grid_store.specs.Given.{Given}
use Rattle.presumed_abort.proofs.UnfitRows.{unfit-outs, unfit-view, unfit-begin-outs, unfit-begin-view}
use Rattle.node_core.specs.declared.nodes.Node.{Node}
use Rattle.node_core.specs.declared.ends.Stepped.{Stepped}
use Rattle.node_core.specs.declared.ends.Stepped.TheVariants as stepped
use Rattle.node_core.specs.Homes.{IsMadeOf, GivesOuts}
use Rattle.node_core.specs.Steps.{ShowsView, IsDone, IsStepped}
use Rattle.node_core.proofs.Afterwards.{unwritten-same}
use Rattle.node_core.proofs.Compacted.{same-shows}
use Rattle.node_core.proofs.PlainEvents.{IsPlainEvent}

module _ {D : Type 0} {g : Ghosts D} where
  -- in each view that is shown the event gives nothing and changes nothing
  record IsIdle (old : Node D g) (e : Event) : Type 0 where
    pub outs : (v : View) → ShowsView old v → outs_of old.store.node v e ≡ []
    pub view : (v : View) → ShowsView old v
        → next_view old.store.node v e (outs_of old.store.node v e) ≡ v

  idle-done : (old new : Node D g) (e : Event) (outs : List Out) → IsPlainEvent g e → IsIdle old e
      → IsMadeOf old.store old.waiting old.desk old.pair new → outs ≡ [] → IsDone old e new outs
  idle-done old new e outs plain idle made none =
      record {
        node = ap (λ (s : Given). s.node) made.store;
        cluster = ap (λ (s : Given). s.cluster) made.store;
        row = λ v shows. none ∙ sym (idle.outs v shows) ∙ sym (plain.row old.store.node old.pair.number v);
        view = λ v shows.
            subst (ShowsView new)
            (sym (ap (next_view old.store.node v e) (none ∙ sym (idle.outs v shows)) ∙ idle.view v shows))
            (same-shows old new v (record { store = made.store; waiting = made.waiting; desk = made.desk }) shows);
        moves = plain.moves old new None (record {
          journal = ap (λ (s : Given). s.journal) made.store;
          disks = unwritten-same old.pair new.pair made.pair;
        });
      }

  idle-step : (old : Node D g) (e : Event) (r : Stepped D g) → IsPlainEvent g e → IsIdle old e
      → GivesOuts old.store old.waiting old.desk old.pair [] r → IsStepped old e r
  idle-step old e (stepped.Done new outs) plain idle of = idle-done old new e outs.items plain idle of.0 of.1
  idle-step old e (stepped.Down a b h) plain idle of = absurd of
  idle-step old e (stepped.Memory new) plain idle of = absurd of

  -- a message that is not fit
  pub unfit-step : (old : Node D g) (from : NodeId) (said : Message) (r : Stepped D g)
      → ((v : View) → ShowsView old v → false ≡ is_fit old.store.node v from said)
      → GivesOuts old.store old.waiting old.desk old.pair [] r → IsStepped old (event.Deliver from said) r
  unfit-step old from said r unfit of =
      idle-step old (event.Deliver from said) r (record { row = λ n gen v. refl; moves = λ o n x m. (x, m) })
      (record {
        outs = λ v shows. unfit-outs old.store.node v from said (sym (unfit v shows));
        view = λ v shows. unfit-view old.store.node v from said (sym (unfit v shows));
      }) of

  -- a begin that is not fit
  pub unfit-begin-step : (old : Node D g) (script : ScriptData) (floor : Ident) (r : Stepped D g)
      → ((v : View) → ShowsView old v → false ≡ is_fit_begin old.store.node v script floor)
      → GivesOuts old.store old.waiting old.desk old.pair [] r → IsStepped old (event.Begin script floor) r
  unfit-begin-step old script floor r unfit of =
      idle-step old (event.Begin script floor) r (record { row = λ n gen v. refl; moves = λ o n x m. (x, m) })
      (record {
        outs = λ v shows. unfit-begin-outs old.store.node v script floor (sym (unfit v shows));
        view = λ v shows. unfit-begin-view old.store.node v script floor (sym (unfit v shows));
      }) of
