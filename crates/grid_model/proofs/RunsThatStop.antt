-- Runs in which nodes stop, and void events.
use Rattle.std.proofs.Common.{ℕ, List, [], ◌∷◌, ◌++◌, ◌≡◌, refl, Some, None}
use Rattle.score_base.specs.declared.causes.Date.TheVariants as date
use Rattle.score_base.specs.declared.causes.Ballot.TheVariants as ballot
use Rattle.score_base.specs.declared.causes.Outcome.TheVariants as outcome
use Rattle.script_lang.specs.declared.scripts.Op.TheVariants as op
use Rattle.grid_model.specs.declared.acts.Act.{Act}
use Rattle.grid_model.specs.declared.acts.Act.TheVariants as act
use Rattle.grid_model.specs.declared.acts.Flag.TheVariants as flag
use Rattle.grid_model.specs.declared.acts.Head.TheVariants as head
use Rattle.grid_model.specs.declared.items.Item.{Item}
use Rattle.grid_model.specs.declared.items.Item.TheVariants as item
use Rattle.grid_model.specs.declared.messages.Message.TheVariants as message
use Rattle.grid_model.specs.Documents.{DocumentData}
use Rattle.grid_model.specs.Histories.{after}
use Rattle.grid_model.specs.Runs.{IsRun, Lawful}
use Rattle.grid_model.specs.Schedules.{Choice}
use Rattle.grid_model.specs.Stories.{Unbegun, Lost, Closed, Decided, Reading}
use Rattle.journal_words.proofs.TwoNodes.{a, b, two_nodes}
use Rattle.grid_model.proofs.Plays.{usual, broken, unfound, unopened, usually, all_open, played-run, request, prepare, phases}
use Rattle.grid_model.proofs.Unarmed.{no_rise, calm-lawful}
use Rattle.grid_model.proofs.TransferActs.{copy_script, asks, votes}

-- one vote is taken, and the fuse of n1 is armed
abbrev pub one_vote : ℕ → ℕ → List Act
one_vote k how = asks ++ (votes ++ (act.Got 5 ∷ act.Armed 1 k how ∷ []))

-- the fuse stops the disk of the home at its decision, at its k-th call; the image will be `how`
abbrev pub stop_at_the_decision : ℕ → ℕ → DocumentData
stop_at_the_decision k how = record {
  cluster = two_nodes;
  scripts = copy_script ∷ [];
  items = item.Begin 1 ∷ item.Next 5 ∷ item.Fuse 1 k how ∷ item.Deliver 6 ∷ item.Restart 1 ∷ item.Retry 1 ∷ [];
}

-- the record is gone, and the transaction is lost
abbrev pub decision_gone_acts : List Act
decision_gone_acts =
    act.Got 6
    ∷ act.Down 1 (Some (head.Decided 1 1))
    ∷ act.Up 1 flag.Gone
    ∷ act.Lost 1
    ∷ act.Void 5
    ∷ []

-- the record is kept, and the commit is sent again
abbrev pub decision_kept_acts : List Act
decision_kept_acts =
    act.Got 6
    ∷ act.Down 1 (Some (head.Decided 1 1))
    ∷ act.Up 1 flag.Kept
    ∷ act.Sent 7 1 1 (message.Tell 1 (outcome.Commit 1))
    ∷ act.Sent 8 1 2 (message.Tell 1 (outcome.Commit 1))
    ∷ []

-- what the disks do: that of n1 fails at the decision
abbrev pub stops_deciding : ℕ → ℕ → Choice → List (Item × Choice)
stops_deciding k how found =
    usually (item.Begin 1 ∷ item.Next 5 ∷ item.Fuse 1 k how ∷ [])
    ++ ((item.Deliver 6, broken) ∷ (item.Restart 1, found) ∷ (item.Retry 1, usual) ∷ [])

pub stop_at_the_decision-gone : (k : ℕ) (how : ℕ)
    → IsRun (stop_at_the_decision k how) (stop_at_the_decision k how).items (one_vote k how ++ decision_gone_acts)
stop_at_the_decision-gone k how = played-run (stop_at_the_decision k how) all_open (stops_deciding k how unfound) refl

pub stop_at_the_decision-kept : (k : ℕ) (how : ℕ)
    → IsRun (stop_at_the_decision k how) (stop_at_the_decision k how).items (one_vote k how ++ decision_kept_acts)
stop_at_the_decision-kept k how = played-run (stop_at_the_decision k how) all_open (stops_deciding k how usual) refl

pub stop_at_the_decision-lost : (k : ℕ) (how : ℕ)
    → phases (stop_at_the_decision k how) (after [] (one_vote k how ++ decision_gone_acts)) ≡ Lost ∷ []
stop_at_the_decision-lost k how = refl

pub stop_at_the_decision-decided : (k : ℕ) (how : ℕ)
    → phases (stop_at_the_decision k how) (after [] (one_vote k how ++ decision_kept_acts))
    ≡ Decided (record { final = 1; parts = (1 ∷ 2 ∷ []) }) ∷ []
stop_at_the_decision-decided k how = refl

-- the home stops while it collects, and the parts ask
abbrev pub presumed_abort : DocumentData
presumed_abort = record {
  cluster = two_nodes;
  scripts = copy_script ∷ [];
  items = item.Begin 1 ∷ item.Next 4 ∷ item.Crash 1 0 ∷ item.Restart 1 ∷ item.Deliver 5 ∷ item.Ask 2 1 ∷ item.Deliver 7 ∷ item.Deliver 8 ∷ item.Ask 1 1 ∷ item.Deliver 9 ∷ item.Deliver 10 ∷ [];
}

-- they are told that it aborted
abbrev pub presumed_abort_acts : List Act
presumed_abort_acts =
    asks
    ++ votes
    ++ act.Down 1 None
    ∷ act.Up 1 flag.Untouched
    ∷ act.Lost 1
    ∷ act.Got 5
    ∷ act.Sent 7 2 1 (message.Ask 1)
    ∷ act.Got 7
    ∷ act.Sent 8 1 2 (message.Tell 1 outcome.Abort)
    ∷ act.Got 8
    ∷ act.Ended 2 1 outcome.Abort
    ∷ act.Sent 9 1 1 (message.Ask 1)
    ∷ act.Got 9
    ∷ act.Sent 10 1 1 (message.Tell 1 outcome.Abort)
    ∷ act.Got 10
    ∷ act.Ended 1 1 outcome.Abort
    ∷ []

pub presumed_abort-lawful : Lawful presumed_abort presumed_abort_acts no_rise
presumed_abort-lawful = calm-lawful presumed_abort presumed_abort_acts (played-run presumed_abort all_open (usually presumed_abort.items) refl) (λ n. refl) (λ n. refl)

pub presumed_abort-phases : phases presumed_abort (after [] presumed_abort_acts) ≡ Lost ∷ []
presumed_abort-phases = refl

-- events that change nothing, each for another reason
abbrev pub void_events : DocumentData
void_events = record {
  cluster = two_nodes;
  scripts = record { number = 1; home = 1; session = 0; ops = (op.Read a ∷ []) } ∷ record { number = 2; home = 2; session = 0; ops = (op.Read b ∷ []) } ∷ [];
  items = item.Next 1 ∷ item.Begin 1 ∷ item.Begin 1 ∷ item.Deliver 99 ∷ item.Restart 1 ∷ item.Retry 2 ∷ item.Ask 1 1 ∷ item.Crash 2 0 ∷ item.Crash 2 0 ∷ item.Begin 2 ∷ item.Deliver 1 ∷ item.Drop 1 ∷ [];
}

-- the code of each
abbrev pub void_events_acts : List Act
void_events_acts =
    act.Up 1 flag.Untouched
    ∷ act.Up 2 flag.Untouched
    ∷ act.Void 4
    ∷ act.Began 1 1 0
    ∷ act.Sent 1 1 2 (request 1 1 a (date.First 0))
    ∷ act.Void 1
    ∷ act.Void 3
    ∷ act.Void 8
    ∷ act.Void 5
    ∷ act.Void 6
    ∷ act.Down 2 None
    ∷ act.Void 7
    ∷ act.Void 2
    ∷ act.Missed 1
    ∷ act.Dropped 1
    ∷ []

pub void_events-lawful : Lawful void_events void_events_acts no_rise
void_events-lawful = calm-lawful void_events void_events_acts (played-run void_events all_open (usually void_events.items) refl) (λ n. refl) (λ n. refl)

pub void_events-phases : phases void_events (after [] void_events_acts) ≡ Reading 1 ∷ Unbegun ∷ []
void_events-phases = refl

-- the disk of n2 fails at its first record
abbrev pub failing_device_call : DocumentData
failing_device_call = record {
  cluster = two_nodes;
  scripts = copy_script ∷ [];
  items = item.Begin 1 ∷ item.Next 4 ∷ item.Restart 2 ∷ item.Retry 1 ∷ item.Next 9 ∷ [];
}

-- the record is gone, and both parts are asked again
abbrev pub failing_device_call_acts : List Act
failing_device_call_acts =
    asks
    ++ (act.Got 3 ∷ act.Prepared 1 1 1 ∷ act.Sent 5 1 1 (message.Vote 1 (ballot.Yes 1)) ∷ [])
    ++ act.Got 4
    ∷ act.Down 2 (Some (head.Prepared 1 1))
    ∷ act.Up 2 flag.Gone
    ∷ act.Sent 6 1 1 (prepare 1 0 (1 ∷ 2 ∷ []) [] ((b, 11) ∷ []))
    ∷ act.Sent 7 1 2 (prepare 1 0 (1 ∷ 2 ∷ []) (a ∷ []) [])
    ∷ act.Got 5
    ∷ act.Got 6
    ∷ act.Sent 8 1 1 (message.Vote 1 (ballot.Yes 1))
    ∷ act.Got 7
    ∷ act.Prepared 2 1 1
    ∷ act.Sent 9 2 1 (message.Vote 1 (ballot.Yes 1))
    ∷ act.Got 8
    ∷ act.Got 9
    ∷ act.Decided 1 1
    ∷ act.Finished 1
    ∷ act.Sent 10 1 1 (message.Tell 1 (outcome.Commit 1))
    ∷ act.Sent 11 1 2 (message.Tell 1 (outcome.Commit 1))
    ∷ act.Got 10
    ∷ act.Ended 1 1 (outcome.Commit 1)
    ∷ act.Sent 12 1 1 (message.Ack 1)
    ∷ act.Got 11
    ∷ act.Ended 2 1 (outcome.Commit 1)
    ∷ act.Sent 13 2 1 (message.Ack 1)
    ∷ act.Got 12
    ∷ act.Got 13
    ∷ act.Closed 1
    ∷ []

pub failing_device_call-run : IsRun failing_device_call failing_device_call.items failing_device_call_acts
failing_device_call-run = played-run failing_device_call all_open (usually (item.Begin 1 ∷ item.Next 3 ∷ []) ++ ((item.Next 1, broken) ∷ (item.Restart 2, unfound) ∷ usually (item.Retry 1 ∷ item.Next 9 ∷ []))) refl

pub failing_device_call-phases : phases failing_device_call (after [] failing_device_call_acts) ≡ Closed 1 ∷ []
failing_device_call-phases = refl

-- the fuse of n2 stops its first opening behind a crash
abbrev pub opening_fails : DocumentData
opening_fails = record {
  cluster = two_nodes;
  scripts = [];
  items = item.Crash 2 0 ∷ item.Fuse 2 1 0 ∷ item.Restart 2 ∷ item.Restart 2 ∷ [];
}

-- the second opening succeeds
abbrev pub opening_fails_acts : List Act
opening_fails_acts =
    act.Up 1 flag.Untouched
    ∷ act.Up 2 flag.Untouched
    ∷ act.Down 2 None
    ∷ act.Armed 2 1 0
    ∷ act.StillDown 2
    ∷ act.Up 2 flag.Untouched
    ∷ []

pub opening_fails-run : IsRun opening_fails opening_fails.items opening_fails_acts
opening_fails-run = played-run opening_fails all_open (usually (item.Crash 2 0 ∷ item.Fuse 2 1 0 ∷ []) ++ ((item.Restart 2, unopened) ∷ (item.Restart 2, usual) ∷ [])) refl
