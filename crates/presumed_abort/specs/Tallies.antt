-- A vote that is counted, before its transaction changes.
use Rattle.std.specs.Prelude.{Some, None}
use Rattle.score_base.specs.declared.records.Record.TheVariants as record'
use Rattle.presumed_abort.specs.declared.tallies.Tally.{Tally}
use Rattle.presumed_abort.specs.declared.tallies.Made.{Made}
use Rattle.presumed_abort.specs.declared.tallies.Made.TheVariants as made
use Rattle.presumed_abort.specs.declared.tallies.AckTally.{AckTally}
use Rattle.presumed_abort.specs.declared.tallies.AckMade.{AckMade}
use Rattle.presumed_abort.specs.declared.tallies.AckMade.TheVariants as acks
use Rattle.presumed_abort.specs.declared.states.Collecting.{Collecting}
use Rattle.presumed_abort.specs.declared.states.Committed.{Committed}
use Rattle.presumed_abort.specs.declared.stands.Stand.TheVariants as stand
use Rattle.presumed_abort.specs.States.{with_votes}
use Rattle.presumed_abort.specs.Turns.{Turn, Keeps, Goes, waits_as}

-- the turn of what a vote makes of a transaction
abbrev pub made_turn : Collecting → Made → Turn
made_turn c (made.No outs) = record { outs = outs.items; change = Goes; rec = None }
made_turn c (made.More votes) = waits_as (stand.Collecting (with_votes votes c))
made_turn c (made.Full f parts acks outs) =
    record {
      outs = outs.items;
      change = Keeps (stand.Committed (record { t = c.t; f = f; parts = c.parts; acks = acks }));
      rec = Some (record'.Decided c.t f parts);
    }

-- the turn that a tally makes of its transaction
abbrev pub tally_turn : Collecting → Tally → Turn
tally_turn c y = made_turn c y.made

-- the turn of what an acknowledgement makes of a transaction
abbrev pub ack_made_turn : Committed → AckMade → Turn
ack_made_turn c (acks.More ns) = waits_as (stand.Committed (record c { acks = ns }))
ack_made_turn c (acks.Last outs) = record { outs = outs.items; change = Goes; rec = Some (record'.Closed c.t) }

-- the turn that an acknowledgement makes of its transaction
abbrev pub ack_tally_turn : Committed → AckTally → Turn
ack_tally_turn c y = ack_made_turn c y.made
