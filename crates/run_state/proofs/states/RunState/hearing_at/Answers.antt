use Rattle.std.proofs.Common.{arith}
use Rattle.std.proofs.lemmas.Grind.{common_steps}
use Rattle.run_state.specs.Kept.{past}
use Rattle.run_state.proofs.Told.{hearing-here}
use Rattle.run_state.proofs.states.RunState.hearing_at.Goals as goal

pub returns : goal.returns
returns c =
    hearing-here c.args.self.now.doc c.doc-doc.result.now (past c.args.self.now) c.args.envelope.now c.args.t c.in-Some.script.now c.in-Some-story.story.now c.in_ok-heard.field-0 c.node-home.result.now
    c.doc-doc.ensures
    (grind (arith, common_steps))
    (grind (arith, common_steps))
    (grind (arith, common_steps))
    (grind (arith, common_steps))
    (grind (arith, common_steps))
