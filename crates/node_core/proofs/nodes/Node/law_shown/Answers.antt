use Rattle.node_core.proofs.OwnViews.{shown-own}
use Rattle.node_core.proofs.nodes.Node.law_shown.Goals as goal

pub returns : goal.returns
returns g c = shown-own c.args.self.now.store c.args.self.now.waiting.reads c.args.self.now.desk c.args.self.now.own
