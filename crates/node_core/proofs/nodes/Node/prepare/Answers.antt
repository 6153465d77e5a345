use Rattle.std.proofs.Common.{refl}
use Rattle.std.proofs.lemmas.Bool.{and_parts}
use Rattle.grid_model.specs.declared.events.Event.TheVariants as event
use Rattle.grid_model.specs.declared.messages.Message.TheVariants as message
use Rattle.grid_model.specs.Fitness.{is_fit_prepare}
use Rattle.grid_model.specs.Stories.{is_small_node}
use Rattle.node_core.proofs.Played.{played-own, stepped-of}
use Rattle.node_core.proofs.nodes.Node.prepare.Goals as goal

pub play_prepare-played-requires-clause-small : goal.play_prepare-played-requires-clause-small
play_prepare-played-requires-clause-small g c =
    let s = c.args.self.store in
    (and_parts (is_small_node s.journal s.next) (is_fit_prepare s.cluster s.node c.args.q.now) c.requires.fit).0

pub play_prepare-played-requires-clause-fit : goal.play_prepare-played-requires-clause-fit
play_prepare-played-requires-clause-fit g c =
    let s = c.args.self.store in
    (and_parts (is_small_node s.journal s.next) (is_fit_prepare s.cluster s.node c.args.q.now) c.requires.fit).1

pub finish-requires : goal.finish-requires
finish-requires g c =
    played-own c.args.self.store c.args.self.waiting.reads c.args.self.desk c.args.self.pair _ _ _
    c.play_prepare-played.result refl c.args.self.own (c.play_prepare-played.ensures c.args.self.waiting.reads)

pub returns : goal.returns
returns g c =
    stepped-of c.args.self (event.Deliver c.args.from (message.Prepare c.args.q.now)) _ _ c.play_prepare-played.result
    c.finish.result refl (record { row = λ n gen v. refl; moves = λ old new x r. (x, r) })
    (c.play_prepare-played.ensures c.args.self.waiting.reads) c.finish.ensures
