-- Runs of reads: served at once, held, promised over a crash, or behind equal finals.
use Rattle.std.proofs.Common.{List, [], ◌∷◌, ◌++◌, ◌≡◌, refl, None}
use Rattle.score_base.specs.declared.causes.Date.TheVariants as date
use Rattle.score_base.specs.declared.causes.Ballot.TheVariants as ballot
use Rattle.score_base.specs.declared.causes.Outcome.TheVariants as outcome
use Rattle.script_lang.specs.declared.exprs.Atom.TheVariants as atom
use Rattle.script_lang.specs.declared.scripts.Op.TheVariants as op
use Rattle.grid_model.specs.declared.acts.Act.{Act}
use Rattle.grid_model.specs.declared.acts.Act.TheVariants as act
use Rattle.grid_model.specs.declared.acts.Flag.TheVariants as flag
use Rattle.grid_model.specs.declared.items.Item.TheVariants as item
use Rattle.grid_model.specs.declared.messages.Message.TheVariants as message
use Rattle.grid_model.specs.Documents.{DocumentData}
use Rattle.grid_model.specs.Histories.{after}
use Rattle.grid_model.specs.Runs.{Lawful}
use Rattle.grid_model.specs.Stories.{Closed, Decided, Answered, Reading, Collecting}
use Rattle.journal_words.proofs.TwoNodes.{a, b, two_nodes}
use Rattle.grid_model.proofs.Plays.{usually, all_open, played-run, request, reply, prepare, phases, newest_at}
use Rattle.grid_model.proofs.Unarmed.{no_rise, calm-lawful}
use Rattle.grid_model.proofs.TransferActs.{copy_script, asks, votes, decides}

-- nothing is scheduled: the nodes are opened
abbrev pub empty_schedule : DocumentData
empty_schedule = record {
  cluster = two_nodes;
  scripts = [];
  items = [];
}

-- both come up
abbrev pub empty_schedule_acts : List Act
empty_schedule_acts =
    act.Up 1 flag.Untouched
    ∷ act.Up 2 flag.Untouched
    ∷ []

pub empty_schedule-lawful : Lawful empty_schedule empty_schedule_acts no_rise
empty_schedule-lawful = calm-lawful empty_schedule empty_schedule_acts (played-run empty_schedule all_open (usually empty_schedule.items) refl) (λ n. refl) (λ n. refl)

-- one transaction reads `a`; its request and the reply are delivered
abbrev pub first_read : DocumentData
first_read = record {
  cluster = two_nodes;
  scripts = record { number = 1; home = 1; session = 0; ops = (op.Read a ∷ []) } ∷ [];
  items = item.Begin 1 ∷ item.Deliver 1 ∷ item.Deliver 2 ∷ [];
}

-- the read is served, and the client is told
abbrev pub first_read_acts : List Act
first_read_acts =
    act.Up 1 flag.Untouched
    ∷ act.Up 2 flag.Untouched
    ∷ act.Began 1 1 0
    ∷ act.Sent 1 1 2 (request 1 1 a (date.First 0))
    ∷ act.Got 1
    ∷ act.Served 2 1 1 a 0 0 10
    ∷ act.Sent 2 2 1 (reply 1 1 0 10)
    ∷ act.Got 2
    ∷ act.Taken 1 1 0 10
    ∷ act.Finished 1
    ∷ []

pub first_read-lawful : Lawful first_read first_read_acts no_rise
first_read-lawful = calm-lawful first_read first_read_acts (played-run first_read all_open (usually first_read.items) refl) (λ n. refl) (λ n. refl)

pub first_read-phases : phases first_read (after [] first_read_acts) ≡ Answered ∷ []
first_read-phases = refl

pub first_read-a_at_2 : newest_at first_read (after [] first_read_acts) 2 a ≡ (10, 0)
first_read-a_at_2 = refl

pub first_read-b_at_1 : newest_at first_read (after [] first_read_acts) 1 b ≡ (0, 0)
first_read-b_at_1 = refl

-- a read comes to a node at which a transaction is pending
abbrev pub held_read : DocumentData
held_read = record {
  cluster = two_nodes;
  scripts = copy_script ∷ record { number = 2; home = 1; session = 0; ops = (op.Read b ∷ op.Read a ∷ []) } ∷ [];
  items = item.Begin 1 ∷ item.Next 7 ∷ item.Begin 2 ∷ item.Deliver 10 ∷ item.Deliver 11 ∷ item.Deliver 12 ∷ item.Deliver 8 ∷ item.Deliver 14 ∷ [];
}

-- the first update is decided, and has ended at n1
abbrev pub ended_at_home : List Act
ended_at_home =
    asks ++ (votes ++ (decides ++ (act.Got 7 ∷ act.Ended 1 1 (outcome.Commit 1) ∷ act.Sent 9 1 1 (message.Ack 1) ∷ [])))

-- the second read is held
abbrev pub held_read_front : List Act
held_read_front =
    ended_at_home
    ++ act.Began 2 1 1
    ∷ act.Sent 10 1 1 (request 2 1 b (date.First 1))
    ∷ act.Got 10
    ∷ act.Served 1 2 1 b 1 1 11
    ∷ act.Sent 11 1 1 (reply 2 1 1 11)
    ∷ act.Got 11
    ∷ act.Taken 2 1 1 11
    ∷ act.Sent 12 1 2 (request 2 2 a (date.At 1))
    ∷ act.Got 12
    ∷ act.Held 2 2 2 1
    ∷ []

-- it is served where the transaction ends
abbrev pub held_read_acts : List Act
held_read_acts =
    held_read_front
    ++ act.Got 8
    ∷ act.Ended 2 1 (outcome.Commit 1)
    ∷ act.Sent 13 2 1 (message.Ack 1)
    ∷ act.Served 2 2 2 a 1 0 10
    ∷ act.Sent 14 2 1 (reply 2 2 1 10)
    ∷ act.Got 14
    ∷ act.Taken 2 2 1 10
    ∷ act.Finished 2
    ∷ []

pub held_read-lawful : Lawful held_read held_read_acts no_rise
held_read-lawful = calm-lawful held_read held_read_acts (played-run held_read all_open (usually held_read.items) refl) (λ n. refl) (λ n. refl)

pub held_read-phases : phases held_read (after [] held_read_acts) ≡ Decided (record { final = 1; parts = (1 ∷ 2 ∷ []) })
    ∷ Answered ∷ []
held_read-phases = refl

-- a node promises a read, stops, and is opened again
abbrev pub ceiling_after_crash : DocumentData
ceiling_after_crash = record {
  cluster = two_nodes;
  scripts = record { number = 1; home = 1; session = 0; ops = (op.Write b (record { first = atom.Number 5; steps = [] }) ∷ []) } ∷ record { number = 2; home = 1; session = 0; ops = (op.Read a ∷ []) } ∷ record { number = 3; home = 1; session = 0; ops = (op.Write a (record { first = atom.Number 7; steps = [] }) ∷ []) } ∷ [];
  items = item.Begin 1 ∷ item.Next 4 ∷ item.Begin 2 ∷ item.Deliver 5 ∷ item.Crash 2 0 ∷ item.Restart 2 ∷ item.Begin 3 ∷ item.Deliver 7 ∷ [];
}

-- its next proposal is above the promise
abbrev pub ceiling_after_crash_acts : List Act
ceiling_after_crash_acts =
    act.Up 1 flag.Untouched
    ∷ act.Up 2 flag.Untouched
    ∷ act.Began 1 1 0
    ∷ act.Sent 1 1 1 (prepare 1 0 (1 ∷ []) [] ((b, 5) ∷ []))
    ∷ act.Got 1
    ∷ act.Prepared 1 1 1
    ∷ act.Sent 2 1 1 (message.Vote 1 (ballot.Yes 1))
    ∷ act.Got 2
    ∷ act.Decided 1 1
    ∷ act.Finished 1
    ∷ act.Sent 3 1 1 (message.Tell 1 (outcome.Commit 1))
    ∷ act.Got 3
    ∷ act.Ended 1 1 (outcome.Commit 1)
    ∷ act.Sent 4 1 1 (message.Ack 1)
    ∷ act.Got 4
    ∷ act.Closed 1
    ∷ act.Began 2 1 1
    ∷ act.Sent 5 1 2 (request 2 1 a (date.First 1))
    ∷ act.Got 5
    ∷ act.Ceiling 2 64
    ∷ act.Raised 2 1
    ∷ act.Served 2 2 1 a 1 0 10
    ∷ act.Sent 6 2 1 (reply 2 1 1 10)
    ∷ act.Down 2 None
    ∷ act.Up 2 flag.Untouched
    ∷ act.Began 3 1 1
    ∷ act.Sent 7 1 2 (prepare 3 1 (2 ∷ []) [] ((a, 7) ∷ []))
    ∷ act.Got 7
    ∷ act.Prepared 2 3 65
    ∷ act.Sent 8 2 1 (message.Vote 3 (ballot.Yes 65))
    ∷ []

pub ceiling_after_crash-lawful : Lawful ceiling_after_crash ceiling_after_crash_acts no_rise
ceiling_after_crash-lawful = calm-lawful ceiling_after_crash ceiling_after_crash_acts (played-run ceiling_after_crash all_open (usually ceiling_after_crash.items) refl) (λ n. refl) (λ n. refl)

pub ceiling_after_crash-phases : phases ceiling_after_crash (after [] ceiling_after_crash_acts) ≡ Closed 1 ∷ Reading 1 ∷
    Collecting ∷ []
ceiling_after_crash-phases = refl

-- two updates have the same final identifier, and a third transaction reads both
abbrev pub equal_finals : DocumentData
equal_finals = record {
  cluster = two_nodes;
  scripts = record { number = 1; home = 1; session = 0; ops = (op.Write b (record { first = atom.Number 5; steps = [] }) ∷ []) } ∷ record { number = 2; home = 2; session = 0; ops = (op.Write a (record { first = atom.Number 7; steps = [] }) ∷ []) } ∷ record { number = 3; home = 1; session = 0; ops = (op.Read b ∷ op.Read a ∷ []) } ∷ [];
  items = item.Begin 1 ∷ item.Begin 2 ∷ item.Next 8 ∷ item.Begin 3 ∷ item.Next 4 ∷ [];
}

-- it reads both writes
abbrev pub equal_finals_acts : List Act
equal_finals_acts =
    act.Up 1 flag.Untouched
    ∷ act.Up 2 flag.Untouched
    ∷ act.Began 1 1 0
    ∷ act.Sent 1 1 1 (prepare 1 0 (1 ∷ []) [] ((b, 5) ∷ []))
    ∷ act.Began 2 2 0
    ∷ act.Sent 2 2 2 (prepare 2 0 (2 ∷ []) [] ((a, 7) ∷ []))
    ∷ act.Got 1
    ∷ act.Prepared 1 1 1
    ∷ act.Sent 3 1 1 (message.Vote 1 (ballot.Yes 1))
    ∷ act.Got 2
    ∷ act.Prepared 2 2 1
    ∷ act.Sent 4 2 2 (message.Vote 2 (ballot.Yes 1))
    ∷ act.Got 3
    ∷ act.Decided 1 1
    ∷ act.Finished 1
    ∷ act.Sent 5 1 1 (message.Tell 1 (outcome.Commit 1))
    ∷ act.Got 4
    ∷ act.Decided 2 1
    ∷ act.Finished 2
    ∷ act.Sent 6 2 2 (message.Tell 2 (outcome.Commit 1))
    ∷ act.Got 5
    ∷ act.Ended 1 1 (outcome.Commit 1)
    ∷ act.Sent 7 1 1 (message.Ack 1)
    ∷ act.Got 6
    ∷ act.Ended 2 2 (outcome.Commit 1)
    ∷ act.Sent 8 2 2 (message.Ack 2)
    ∷ act.Got 7
    ∷ act.Closed 1
    ∷ act.Got 8
    ∷ act.Closed 2
    ∷ act.Began 3 1 1
    ∷ act.Sent 9 1 1 (request 3 1 b (date.First 1))
    ∷ act.Got 9
    ∷ act.Served 1 3 1 b 1 1 5
    ∷ act.Sent 10 1 1 (reply 3 1 1 5)
    ∷ act.Got 10
    ∷ act.Taken 3 1 1 5
    ∷ act.Sent 11 1 2 (request 3 2 a (date.At 1))
    ∷ act.Got 11
    ∷ act.Served 2 3 2 a 1 1 7
    ∷ act.Sent 12 2 1 (reply 3 2 1 7)
    ∷ act.Got 12
    ∷ act.Taken 3 2 1 7
    ∷ act.Finished 3
    ∷ []

pub equal_finals-lawful : Lawful equal_finals equal_finals_acts no_rise
equal_finals-lawful = calm-lawful equal_finals equal_finals_acts (played-run equal_finals all_open (usually equal_finals.items) refl) (λ n. refl) (λ n. refl)

pub equal_finals-phases : phases equal_finals (after [] equal_finals_acts) ≡ Closed 1 ∷ Closed 1 ∷ Answered ∷ []
equal_finals-phases = refl
