-- What an event makes of one transaction at a desk: the outs, what changes of it, and the record on which both rest.
use Rattle.std.specs.Prelude.{nat_eq, List, [], ◌∷◌, ◌++◌, Option, Some, None, if◌then◌else◌}
use Rattle.indexmap.specs.IndexMap.{insert_entry, shift_remove_entry}
use Rattle.score_base.specs.declared.ids.TxId.{TxId}
use Rattle.score_base.specs.declared.ids.NodeId.{NodeId}
use Rattle.score_base.specs.declared.causes.Ballot.{Ballot}
use Rattle.score_base.specs.declared.causes.Ballot.TheVariants as ballot
use Rattle.score_base.specs.declared.causes.Cause.{Cause}
use Rattle.score_base.specs.declared.records.Record.{Record}
use Rattle.score_base.specs.declared.records.Record.TheVariants as record'
use Rattle.grid_model.specs.declared.events.Out.{Out}
use Rattle.grid_model.specs.declared.stories.Voted.{Voted}
use Rattle.grid_model.specs.Stories.{has_voted}
use Rattle.placement.specs.Places.{is_among}
use Rattle.grid_model.specs.declared.acts.Act.TheVariants as act
use Rattle.grid_model.specs.declared.events.Out.TheVariants as out
use Rattle.grid_model.specs.Rows.{ballot_outs, decides, greatest_vote, have_voted, are_all_among}
use Rattle.presumed_abort.specs.declared.states.Committed.{Committed}
use Rattle.presumed_abort.specs.declared.states.Collecting.{Collecting}
use Rattle.presumed_abort.specs.declared.stands.Stand.{Stand}
use Rattle.presumed_abort.specs.declared.stands.Stand.TheVariants as stand
use Rattle.presumed_abort.specs.States.{with_votes}

-- nothing changes; the transaction stands so, in its place of the order; it is taken out
pub data Change : Type 0 where
  Stays : Change
  Keeps : Stand → Change
  Goes : Change

-- the desk behind a change of t
abbrev pub changed : TxId → Change → List (TxId × Stand) → List (TxId × Stand)
changed t Stays desk = desk
changed t (Keeps s) desk = insert_entry nat_eq desk t s
changed t Goes desk = shift_remove_entry (nat_eq t) desk

-- the change is one
abbrev pub Makes : Change → Type 0
Makes Stays = ⊥
Makes x = Unit {0}

-- What an event makes of one transaction: the outs, the change, and the record on which both rest, where there is one.
pub record Turn : Type 0 where
  pub outs : List Out
  pub change : Change
  pub rec : Option Record

-- nothing is given, and nothing changes
abbrev pub quiet : Turn
quiet = record { outs = []; change = Stays; rec = None }

-- nothing is given, and the transaction stands so
abbrev pub waits_as : Stand → Turn
waits_as s = record { outs = []; change = Keeps s; rec = None }

-- the last yes: the decision, with the greatest of these proposals
abbrev pub full_turn : Collecting → List Voted → Turn
full_turn c votes =
    record {
      outs = decides c.t (greatest_vote votes) c.parts;
      change = Keeps (stand.Committed (record { t = c.t; f = greatest_vote votes; parts = c.parts; acks = [] }));
      rec = Some (record'.Decided c.t (greatest_vote votes) c.parts);
    }

-- a yes, with which these votes are taken
abbrev pub yes_turn : Collecting → List Voted → Turn
yes_turn c votes =
    if have_voted c.parts votes then full_turn c votes else waits_as (stand.Collecting (with_votes votes c))

-- a no of x: the transaction is aborted
abbrev pub no_turn : Collecting → NodeId → Cause → Turn
no_turn c x why =
    record { outs = ballot_outs c.t c.parts c.tx.progress.votes x (ballot.No why); change = Goes; rec = None }

-- a vote of x that is the first of its part
abbrev pub ballot_turn : Collecting → NodeId → Ballot → Turn
ballot_turn c x (ballot.Yes p) = yes_turn c (c.tx.progress.votes ++ record { from = x; p = p } ∷ [])
ballot_turn c x (ballot.No why) = no_turn c x why

-- a vote of x on a transaction that stands so
abbrev pub vote_turn : NodeId → Ballot → Option Stand → Turn
vote_turn x b (Some (stand.Collecting c)) = if has_voted x c.tx.progress.votes then quiet else ballot_turn c x b
vote_turn x b o = quiet

-- the last acknowledgement: the end of the commit
abbrev pub last_turn : Committed → Turn
last_turn c = record { outs = out.Act (act.Closed c.t) ∷ []; change = Goes; rec = Some (record'.Closed c.t) }

-- an acknowledgement, with which these are taken
abbrev pub acked_turn : Committed → List NodeId → Turn
acked_turn c acks =
    if are_all_among c.parts acks then last_turn c else waits_as (stand.Committed (record c { acks = acks }))

-- an acknowledgement of x to a transaction that stands so
abbrev pub ack_turn : NodeId → Option Stand → Turn
ack_turn x (Some (stand.Committed c)) = if is_among x c.acks then quiet else acked_turn c (c.acks ++ x ∷ [])
ack_turn x o = quiet
