use Rattle.std.proofs.Common.{◌≡◌, true, subst}
use Rattle.grid_model.specs.declared.messages.Message.{Message}
use Rattle.grid_model.specs.Fitness.{is_fit}
use Rattle.node_core.specs.Shows.{own_view}
use Rattle.node_core.proofs.OwnViews.{shown-own}
use Rattle.node_core.proofs.nodes.Node.take.Goals as goal

pub read-requires : goal.read-requires
read-requires g c =
    let n = c.args.self in
    let own = own_view n.store n.waiting.reads n.desk in
    record {
      fit = subst (λ (m : Message). is_fit n.store.node own c.args.from m ≡ true) c.in-ReadReq.is
          (c.requires.fit own (shown-own n.store n.waiting.reads n.desk n.own));
    }

pub prepare-requires : goal.prepare-requires
prepare-requires g c =
    let n = c.args.self in
    let own = own_view n.store n.waiting.reads n.desk in
    record {
      fit = subst (λ (m : Message). is_fit n.store.node own c.args.from m ≡ true) c.in-Prepare.is
          (c.requires.fit own (shown-own n.store n.waiting.reads n.desk n.own));
    }

pub tell-requires : goal.tell-requires
tell-requires g c =
    let n = c.args.self in
    let own = own_view n.store n.waiting.reads n.desk in
    record {
      fit = subst (λ (m : Message). is_fit n.store.node own c.args.from m ≡ true) c.in-Tell.is
          (c.requires.fit own (shown-own n.store n.waiting.reads n.desk n.own));
    }

pub asked_by_part-requires : goal.asked_by_part-requires
asked_by_part-requires g c =
    let n = c.args.self in
    let own = own_view n.store n.waiting.reads n.desk in
    record {
      fit = subst (λ (m : Message). is_fit n.store.node own c.args.from m ≡ true) c.in-AskPeer.is
          (c.requires.fit own (shown-own n.store n.waiting.reads n.desk n.own));
    }
