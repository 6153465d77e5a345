use Rattle.std.proofs.Common.{◌≡◌, List, [], ◌∷◌, refl, sym, ap, ◌∙◌}
use Rattle.std.specs.Prelude.{Bool, if◌then◌else◌}
use Rattle.grid_model.specs.declared.events.Event.TheVariants as event
use Rattle.grid_model.specs.declared.events.Out.{Out}
use Rattle.grid_model.specs.declared.events.Out.TheVariants as out
use Rattle.grid_model.specs.declared.messages.Message.TheVariants as message
use Rattle.grid_model.specs.Rows.{ask_peer_outs}
use Rattle.grid_store.specs.Given.{participant_in}
use Rattle.node_core.proofs.Rows.{put-none}
use Rattle.node_core.proofs.QuestionRows.{ask-part-at, quiet-done}
use Rattle.node_core.proofs.nodes.Node.ask_part.Goals.{then-part, else-part}
use Rattle.node_core.proofs.nodes.Node.ask_part.Goals as goal

pub returns : goal.returns
returns g c =
    let s = c.args.self.store in
    let t = c.args.t in
    let m = c.args.m in
    let none : c.reserve.new.self.items ≡ [] = c.reserve.ensures.items ∙ c.new-outs.ensures.items in
    let asks : Bool → List Out = λ b. if b then out.Send m (message.AskPeer t) ∷ [] else [] in
    let is : c.if-part.outs.items ≡ ask_peer_outs (participant_in s) t m =
    elim c.if-part.branch [
      | then-part w ↦ ap (λ v. v.items) w.outs-is
          ∙ put-none _ c.reserve.new.self.items _ _ w.push_reserved.ensures.items none
          (ap asks (sym w.if-part.true ∙ c.part.ensures))
      | else-part w ↦ ap (λ v. v.items) w.outs-is ∙ none ∙ ap asks (sym w.if-part.false ∙ c.part.ensures)
    ] in
    quiet-done c.args.self (event.AskPeer t m) c.if-part.outs.items refl
    (record { row = λ n gen v. refl; moves = λ old new x r. (x, r) })
    (ask-part-at s c.args.self.waiting.reads t m c.if-part.outs.items is)
