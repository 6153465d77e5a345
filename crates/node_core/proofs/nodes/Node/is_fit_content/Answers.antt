use Rattle.std.proofs.Common.{◌≡◌, ◌&&◌, not, sym, ap, subst, ◌∙◌}
use Rattle.grid_model.specs.declared.messages.Message.{Message}
use Rattle.grid_model.specs.Fitness.{is_same_ident, is_fit_content, tx_in}
use Rattle.grid_model.specs.Views.{participant, stage}
use Rattle.presumed_abort.specs.Stands.{standing}
use Rattle.presumed_abort.specs.Replays.{snapshot_of, is_stranger}
use Rattle.node_core.proofs.FitMessages.{reply-fit, vote-fit, ack-fit}
use Rattle.node_core.proofs.nodes.Node.is_fit_content.Goals as goal

pub returns-then-is_small : goal.returns-then-is_small
returns-then-is_small g c =
    let n = c.args.self.now in
    let q = c.in-ReadRep.q in
    λ v shows.
    subst
    (λ (m : Message). c.is_same_ident.result
    ≡ is_fit_content n.store.node (participant v) (stage v (tx_in m)) c.args.from m) (sym c.in-ReadRep.is)
    (c.is_same_ident.ensures ∙ ap (is_same_ident q.sid) c.snapshot.ensures
    ∙ ap (λ b. b && is_same_ident q.sid (snapshot_of q.op (standing n.desk q.t))) c.if-is_small.ensures
    ∙ reply-fit n.store n.waiting.reads n.desk c.args.from q v shows)

pub returns-then-is_fit_ballot : goal.returns-then-is_fit_ballot
returns-then-is_fit_ballot g c =
    let n = c.args.self.now in
    let t = c.in-Vote.t in
    λ v shows.
    subst
    (λ (m : Message). not c.stranger.result
    ≡ is_fit_content n.store.node (participant v) (stage v (tx_in m)) c.args.from m) (sym c.in-Vote.is)
    (ap not c.stranger.ensures
    ∙ ap (λ b. b && not (is_stranger c.args.from (standing n.desk t))) c.if-is_fit_ballot.ensures
    ∙ vote-fit n.store n.waiting.reads n.desk c.args.from t c.in-Vote.ballot v shows)

pub returns-in-Ack : goal.returns-in-Ack
returns-in-Ack g c =
    let n = c.args.self.now in
    let t = c.in-Ack.t in
    λ v shows.
    subst
    (λ (m : Message). not c.stranger-in-Ack.result
    ≡ is_fit_content n.store.node (participant v) (stage v (tx_in m)) c.args.from m) (sym c.in-Ack.is)
    (ap not c.stranger-in-Ack.ensures ∙ ack-fit n.store n.waiting.reads n.desk c.args.from t v shows)
