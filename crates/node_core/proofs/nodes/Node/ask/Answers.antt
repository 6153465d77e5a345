use Rattle.std.proofs.Common.{◌≡◌, List, [], refl, ap, ◌∙◌}
use Rattle.std.specs.Prelude.{Bool, is_some, if◌then◌else◌}
use Rattle.grid_model.specs.declared.events.Event.TheVariants as event
use Rattle.grid_model.specs.declared.events.Out.{Out}
use Rattle.grid_model.specs.declared.messages.Message.TheVariants as message
use Rattle.grid_model.specs.Advances.{to_node}
use Rattle.grid_model.specs.Rows.{ask_outs}
use Rattle.journal_words.specs.Journals.{home_of}
use Rattle.grid_store.specs.Given.{participant_in}
use Rattle.node_core.proofs.Rows.{put-none}
use Rattle.node_core.proofs.QuestionRows.{ask-at, quiet-done}
use Rattle.node_core.proofs.nodes.Node.ask.Goals.{then-is_some, else-is_some}
use Rattle.node_core.proofs.nodes.Node.ask.Goals as goal

pub returns : goal.returns
returns g c =
    let s = c.args.self.store in
    let t = c.args.t in
    let none : c.reserve.new.self.items ≡ [] = c.reserve.ensures.items ∙ c.new-outs.ensures.items in
    let asks : Bool → List Out = λ b. if b then to_node (home_of t s.journal) (message.Ask t) else [] in
    let is : c.if-is_some.outs.items ≡ ask_outs (participant_in s) t =
    elim c.if-is_some.branch [
      | then-is_some w ↦ ap (λ v. v.items) w.outs-is
          ∙ put-none _ c.reserve.new.self.items _ _ w.put_question.ensures.outs none
          (ap (λ home. to_node home (message.Ask t)) w.home.ensures
          ∙ ap asks (w.if-is_some.ensures ∙ ap is_some c.pending.ensures))
      | else-is_some w ↦ ap (λ v. v.items) w.outs-is ∙ none
          ∙ ap asks (w.if-is_some.ensures ∙ ap is_some c.pending.ensures)
    ] in
    quiet-done c.args.self (event.Ask t) c.if-is_some.outs.items refl
    (record { row = λ n gen v. refl; moves = λ old new x r. (x, r) })
    (ask-at s c.args.self.waiting.reads t c.if-is_some.outs.items is)
