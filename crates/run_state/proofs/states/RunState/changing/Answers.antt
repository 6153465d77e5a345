use Rattle.std.proofs.Common.{rules, ◌≡◌, refl, arith, Some}
use Rattle.std.proofs.lemmas.Grind.{common_steps}
use Rattle.std.specs.Fn.{FnOnceReturnsAtMut}
use Rattle.grid_model.specs.Stories.{story}
use Rattle.run_state.specs.Kept.{past}
use Rattle.run_state.proofs.states.RunState.changing.Goals as goal

pub returns : goal.returns
returns g c f means =
    let made : FnOnceReturnsAtMut g.F.FnOnce c.args.change c.in_ok-told.told tt c.change.new.arg2 = search rules in
    let same : c.change.new.arg2 ≡ f c.in_ok-told.told = means c.in_ok-told.told c.change.new.arg2 made in
    let there : story c.args.self.now.doc (past c.args.self.now) c.args.t ≡ Some c.in_ok-told.told = grind (arith, common_steps) in
    rw (same, there) refl
