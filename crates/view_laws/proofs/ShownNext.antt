-- A node that shows the view of a run with a list of its own shows the view behind an event so too.
use Rattle.std.proofs.Common.{◌≡◌, ℕ, List, ◌++◌, Option, sym, ap, subst, ◌∙◌}
use Rattle.std.proofs.lemmas.List.{append_cancel_right}
use Rattle.score_base.specs.declared.records.Record.{Record}
use Rattle.journal_words.specs.Small.{AreAlike}
use Rattle.grid_model.specs.declared.acts.Act.{Act}
use Rattle.grid_model.specs.declared.events.Event.{Event}
use Rattle.grid_model.specs.declared.events.Out.{Out}
use Rattle.grid_model.specs.Documents.{DocumentData}
use Rattle.grid_model.specs.Histories.{after}
use Rattle.grid_model.specs.NextViews.{Comes, brought, next_view}
use Rattle.grid_model.specs.Nodes.{journal, written}
use Rattle.grid_model.specs.Rows.{outs_of}
use Rattle.grid_model.specs.Schedules.{numbered}
use Rattle.grid_model.specs.Views.{View, view}
use Rattle.grid_model.proofs.NextSteps.{event-view}
use Rattle.view_laws.specs.AlikeViews.{IsShownNext}
use Rattle.view_laws.specs.RowRecords.{journal_behind}
use Rattle.view_laws.proofs.AlikeNext.{alike-next, as_list, written-list}
use Rattle.view_laws.proofs.AlikeRows.{alike-outs}

-- a view with this list in the place of its journal
abbrev view-with : View → List Record → View
view-with v r = record v { journal = r }

-- what an event writes is the same on each list
same-fresh : (fresh j : List Record) (x : Option Record) → fresh ++ j ≡ written x j → (r : List Record) →
    fresh ++ r ≡ written x r
same-fresh fresh j x is r =
    ap (λ q. q ++ r) (append_cancel_right fresh (as_list x) j (is ∙ written-list x j)) ∙ sym (written-list x r)

pub shown-next : (d : DocumentData) (past : List Act) (n m k : ℕ) (e : Event) (r : List Record) (x : Option Record) →
    Comes d past n m e → AreAlike r (journal d past n) →
    journal_behind n (view d past n) e ≡ written x (journal d past n) →
    IsShownNext d past (after (brought m e past) (numbered k n (outs_of n (view d past n) e))) n e r x
shown-next d past n m k e r x comes a is =
    let v : View = view d past n in
    let os : List Out = outs_of n v e in
    let now : List Act = after (brought m e past) (numbered k n os) in
    let more = alike-next n v r e os a in
    let fresh : more.fresh ++ r ≡ written x r = same-fresh more.fresh v.journal x (sym more.journal ∙ is) r in
    let next : next_view n v e os ≡ view d now n = sym (event-view d past n m k e comes) in
    record {
      outs = alike-outs n v r e a;
      view =
          more.view
          ∙ ap (λ (w : View). view-with w (more.fresh ++ r)) next
          ∙ ap (view-with (view d now n)) fresh;
      alike =
          subst (AreAlike (written x r)) (ap (λ (w : View). w.journal) next)
          (subst (λ q. AreAlike q (next_view n v e os).journal) fresh more.alike);
    }
