-- What a desk sends again, and what it answers where it is asked.
use Rattle.std.specs.Prelude.{List, [], ◌∷◌, Option, Some, None}
use Rattle.score_base.specs.declared.ids.TxId.{TxId}
use Rattle.score_base.specs.declared.ids.NodeId.{NodeId}
use Rattle.score_base.specs.declared.causes.Outcome.TheVariants as outcome
use Rattle.placement.specs.Clusters.{ClusterData}
use Rattle.grid_model.specs.declared.events.Out.{Out}
use Rattle.grid_model.specs.declared.events.Out.TheVariants as out
use Rattle.grid_model.specs.declared.messages.Message.TheVariants as message
use Rattle.grid_model.specs.Advances.{request, prepares}
use Rattle.grid_model.specs.Rows.{tells, not_voted, not_among}
use Rattle.presumed_abort.specs.declared.states.Reading.{Reading}
use Rattle.presumed_abort.specs.declared.stands.Stand.{Stand}
use Rattle.presumed_abort.specs.declared.stands.Stand.TheVariants as stand
use Rattle.presumed_abort.specs.Turns.{Stays, Keeps, Turn, quiet}
use Rattle.presumed_abort.specs.Replies.{with_asked}

-- a read of which the next holder in turn comes next
abbrev pub turned : ClusterData → Reading → Reading
turned c r = record r { tx = with_asked c r.op r.tx }

-- a read that is asked for again with this request: where there is one, the next holder in turn comes next
abbrev pub asked_again : ClusterData → Reading → List Out → Turn
asked_again c r [] = quiet
asked_again c r (o ∷ os) =
    record { outs = o ∷ os; change = Keeps (stand.Reading (turned c r)); rec = None }

-- these are given, and nothing changes
abbrev pub sent_again : List Out → Turn
sent_again outs = record { outs = outs; change = Stays; rec = None }

-- what is sent again of a transaction that stands so: what is outstanding
abbrev pub retry_turn : ClusterData → Option Stand → Turn
retry_turn c None = quiet
retry_turn c (Some stand.Away) = quiet
retry_turn c (Some (stand.Reading r)) = asked_again c r (request c r.tx r.op r.tx.progress.turn)
retry_turn c (Some (stand.Collecting x)) = sent_again (prepares c x.tx (not_voted x.parts x.tx.progress.votes))
retry_turn c (Some (stand.Committed x)) = sent_again (tells x.t (outcome.Commit x.f) (not_among x.parts x.acks))

-- what is answered where x asks how t ended that stands so: no record and no open transaction means abort
abbrev pub told_of : TxId → NodeId → Option Stand → List Out
told_of t x None = out.Send x (message.Tell t outcome.Abort) ∷ []
told_of t x (Some (stand.Committed y)) = out.Send x (message.Tell t (outcome.Commit y.f)) ∷ []
told_of t x (Some s) = []
