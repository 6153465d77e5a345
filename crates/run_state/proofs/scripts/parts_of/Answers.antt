use Rattle.std.proofs.Common.{◌≡◌, ap}
use Rattle.placement.specs.Places.{parts}
use Rattle.script_lang.specs.Reads.{keys_of}
use Rattle.grid_model.specs.Nodes.{parts_of}
use Rattle.run_state.proofs.scripts.parts_of.Goals as goal

pub returns : goal.returns
returns c =
    let same : parts c.cluster.result.now.places (keys_of c.args.script.now.ops) ≡ parts_of c.args.doc.now c.args.script.now = ap (λ x. parts x.places (keys_of c.args.script.now.ops)) c.cluster.ensures.value in
    rw (← same) c.parts_at.ensures
