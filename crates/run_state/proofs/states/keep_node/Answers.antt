use Rattle.std.proofs.Common.{◌≡◌, arith, Some}
use Rattle.std.proofs.lemmas.Grind.{common_steps}
use Rattle.std.specs.Option.{option_copied}
use Rattle.grid_model.specs.Nodes.{change, changed}
use Rattle.run_state.specs.Kept.{place_of, node_in}
use Rattle.run_state.proofs.Elsewhere.{nodes-one}
use Rattle.run_state.proofs.states.keep_node.Goals as goal

pub returns-clause-each : goal.returns-clause-each
returns-clause-each c =
    let at : place_of c.args.doc.now c.args.act.now ≡ Some c.n.inside.number = grind (arith, common_steps) in
    let made : c.keep.new.self ≡ changed (change c.args.doc.now (option_copied c.args.last) c.args.act.now c.n.inside.number) (node_in c.args.nodes.now.items c.n.inside.number) = grind (arith, common_steps) in
    nodes-one c.args.doc.now (option_copied c.args.last) c.args.act.now c.args.nodes.now.items c.n.inside.number c.keep.new.self (grind arith) (grind arith) c.requires at made
