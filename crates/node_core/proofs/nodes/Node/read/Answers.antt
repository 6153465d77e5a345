use Rattle.std.proofs.Common.{refl}
use Rattle.std.proofs.lemmas.Bool.{and_parts}
use Rattle.grid_model.specs.declared.events.Event.TheVariants as event
use Rattle.grid_model.specs.declared.messages.Message.TheVariants as message
use Rattle.grid_model.specs.Fitness.{is_fit_request}
use Rattle.grid_model.specs.Stories.{is_small_node}
use Rattle.node_core.proofs.Played.{played-own, stepped-of}
use Rattle.node_core.proofs.nodes.Node.read.Goals as goal

pub play_read-played-requires-clause-small : goal.play_read-played-requires-clause-small
play_read-played-requires-clause-small g c =
    let s = c.args.self.store in
    (and_parts (is_small_node s.journal s.next) (is_fit_request s.cluster s.node c.args.q.now) c.requires.fit).0

pub play_read-played-requires-clause-fit : goal.play_read-played-requires-clause-fit
play_read-played-requires-clause-fit g c =
    let s = c.args.self.store in
    (and_parts (is_small_node s.journal s.next) (is_fit_request s.cluster s.node c.args.q.now) c.requires.fit).1

pub finish-requires : goal.finish-requires
finish-requires g c =
    played-own c.args.self.store c.args.self.waiting.reads c.args.self.desk c.args.self.pair _ _ _
    c.play_read-played.result refl c.args.self.own c.play_read-played.ensures

pub returns : goal.returns
returns g c =
    stepped-of c.args.self (event.Deliver c.args.from (message.ReadReq c.args.q.now)) _ _ c.play_read-played.result
    c.finish.result refl (record { row = λ n gen v. refl; moves = λ old new x r. (x, r) }) c.play_read-played.ensures
    c.finish.ensures
