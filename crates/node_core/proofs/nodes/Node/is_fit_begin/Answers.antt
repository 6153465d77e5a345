use Rattle.std.proofs.Common.{◌&&◌, not, nat_eq, ap, ◌∙◌}
use Rattle.script_lang.specs.Scripts.{ScriptData}
use Rattle.grid_model.specs.Stories.{is_small}
use Rattle.presumed_abort.specs.Stands.{standing, is_here}
use Rattle.node_core.proofs.FitMessages.{begin-fit}
use Rattle.node_core.proofs.nodes.Node.is_fit_begin.Goals as goal

pub returns : goal.returns
returns g c =
    let old = c.args.self.now in
    let script = c.args.script.now in
    let home =
    c.eq-here.ensures ∙ ap (λ n. nat_eq c.script.inside.home n) c.node.ensures
    ∙ ap (λ (s : ScriptData). nat_eq s.home old.store.node) c.script.view_is in
    let free =
    ap not (c.has-free.ensures ∙ ap (λ (s : ScriptData). is_here (standing old.desk s.number)) c.script.view_is) in
    λ v shows.
    c.are_both-2.ensures ∙ ap (λ b. b && c.are_both.result) home
    ∙ ap (λ b. nat_eq script.home old.store.node && b)
    (c.are_both.ensures ∙ ap (λ b. b && not c.has-free.result) c.is_small.ensures
    ∙ ap (λ b. is_small c.args.floor && b) free)
    ∙ begin-fit old.store old.waiting.reads old.desk script c.args.floor v shows
