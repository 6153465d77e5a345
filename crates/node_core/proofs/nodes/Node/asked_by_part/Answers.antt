use Rattle.std.proofs.Common.{◌≡◌, true, [], refl, sym, ap, ◌∙◌}
use Rattle.std.proofs.lemmas.Bool.{and_parts}
use Rattle.journal_words.specs.Journals.{ended}
use Rattle.grid_model.specs.declared.events.Event.TheVariants as event
use Rattle.grid_model.specs.declared.messages.Message.TheVariants as message
use Rattle.grid_model.specs.Stories.{is_small_node}
use Rattle.grid_model.specs.Rows.{peer_outs}
use Rattle.node_core.proofs.Rows.{put-none}
use Rattle.node_core.proofs.QuestionRows.{peer-at, quiet-done}
use Rattle.node_core.proofs.nodes.Node.asked_by_part.Goals.{in-Some, in_default}
use Rattle.node_core.proofs.nodes.Node.asked_by_part.Goals as goal

pub returns : goal.returns
returns g c =
    let s = c.args.self.store in
    let t = c.args.t in
    let x = c.args.from in
    let none : c.reserve.new.self.items ≡ [] = c.reserve.ensures.items ∙ c.new-outs.ensures.items in
    let is : c.match-ended.outs.items ≡ peer_outs t x (ended t s.journal) =
    elim c.match-ended.branch [
      | in-Some w ↦ ap (λ v. v.items) w.outs-is
          ∙ put-none _ c.reserve.new.self.items _ _ w.push_reserved.ensures.items none
          (ap (λ o. peer_outs t x o) (sym w.in-Some.is ∙ c.ended.ensures))
      | in_default w ↦ ap (λ v. v.items) w.outs-is ∙ none ∙ ap (λ o. peer_outs t x o) (sym w.in_default.is ∙ c.ended.ensures)
    ] in
    quiet-done c.args.self (event.Deliver x (message.AskPeer t)) c.match-ended.outs.items refl
    (record { row = λ n gen v. refl; moves = λ old new y r. (y, r) })
    (peer-at s c.args.self.waiting.reads x t c.match-ended.outs.items
    (and_parts (is_small_node s.journal s.next) true c.requires.fit).0 is)
