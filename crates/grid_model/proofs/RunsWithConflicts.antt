-- Runs in which a vote is no.
use Rattle.std.proofs.Common.{List, [], ◌∷◌, ◌≡◌, refl}
use Rattle.score_base.specs.declared.causes.Date.TheVariants as date
use Rattle.score_base.specs.declared.causes.Ballot.TheVariants as ballot
use Rattle.score_base.specs.declared.causes.Cause.TheVariants as cause
use Rattle.score_base.specs.declared.causes.Outcome.TheVariants as outcome
use Rattle.script_lang.specs.declared.exprs.Atom.TheVariants as atom
use Rattle.script_lang.specs.declared.scripts.Op.TheVariants as op
use Rattle.grid_model.specs.declared.acts.Act.{Act}
use Rattle.grid_model.specs.declared.acts.Act.TheVariants as act
use Rattle.grid_model.specs.declared.acts.Flag.TheVariants as flag
use Rattle.grid_model.specs.declared.items.Item.TheVariants as item
use Rattle.grid_model.specs.declared.messages.Message.TheVariants as message
use Rattle.grid_model.specs.Documents.{DocumentData}
use Rattle.grid_model.specs.Histories.{after}
use Rattle.grid_model.specs.Runs.{Lawful}
use Rattle.grid_model.specs.Stories.{Closed, Decided, Aborted, Collecting}
use Rattle.journal_words.proofs.TwoNodes.{a, b, c, two_nodes}
use Rattle.grid_model.proofs.Plays.{usually, all_open, played-run, request, reply, prepare, phases, newest_at}
use Rattle.grid_model.proofs.Unarmed.{no_rise, calm-lawful}

-- two transactions write the same key at once
abbrev pub write_conflict : DocumentData
write_conflict = record {
  cluster = two_nodes;
  scripts = record { number = 1; home = 1; session = 0; ops = (op.Write a (record { first = atom.Number 1; steps = [] }) ∷ []) } ∷ record { number = 2; home = 2; session = 0; ops = (op.Write a (record { first = atom.Number 2; steps = [] }) ∷ []) } ∷ [];
  items = item.Begin 1 ∷ item.Begin 2 ∷ item.Deliver 1 ∷ item.Deliver 2 ∷ item.Deliver 4 ∷ [];
}

-- the second is refused by the lock of the first
abbrev pub write_conflict_acts : List Act
write_conflict_acts =
    act.Up 1 flag.Untouched
    ∷ act.Up 2 flag.Untouched
    ∷ act.Began 1 1 0
    ∷ act.Sent 1 1 2 (prepare 1 0 (2 ∷ []) [] ((a, 1) ∷ []))
    ∷ act.Began 2 2 0
    ∷ act.Sent 2 2 2 (prepare 2 0 (2 ∷ []) [] ((a, 2) ∷ []))
    ∷ act.Got 1
    ∷ act.Prepared 2 1 1
    ∷ act.Sent 3 2 1 (message.Vote 1 (ballot.Yes 1))
    ∷ act.Got 2
    ∷ act.Refused 2 2 (cause.Holder 1)
    ∷ act.Sent 4 2 2 (message.Vote 2 (ballot.No (cause.Holder 1)))
    ∷ act.Got 4
    ∷ act.Aborted 2 2 (cause.Holder 1)
    ∷ []

pub write_conflict-lawful : Lawful write_conflict write_conflict_acts no_rise
write_conflict-lawful = calm-lawful write_conflict write_conflict_acts (played-run write_conflict all_open (usually write_conflict.items) refl) (λ n. refl) (λ n. refl)

pub write_conflict-phases : phases write_conflict (after [] write_conflict_acts) ≡ Collecting ∷ Aborted ∷ []
write_conflict-phases = refl

-- another transaction writes a key behind its read
abbrev pub stale_read_refused : DocumentData
stale_read_refused = record {
  cluster = two_nodes;
  scripts = record { number = 1; home = 1; session = 0; ops = (op.Read a ∷ op.Write b (record { first = atom.Key a; steps = [] }) ∷ []) } ∷ record { number = 2; home = 2; session = 0; ops = (op.Write a (record { first = atom.Number 7; steps = [] }) ∷ []) } ∷ [];
  items = item.Begin 1 ∷ item.Deliver 1 ∷ item.Begin 2 ∷ item.Deliver 3 ∷ item.Deliver 4 ∷ item.Deliver 5 ∷ item.Deliver 6 ∷ item.Deliver 2 ∷ item.Deliver 8 ∷ item.Deliver 9 ∷ item.Deliver 7 ∷ item.Deliver 10 ∷ [];
}

-- the reader is refused by the newer version
abbrev pub stale_read_refused_acts : List Act
stale_read_refused_acts =
    act.Up 1 flag.Untouched
    ∷ act.Up 2 flag.Untouched
    ∷ act.Began 1 1 0
    ∷ act.Sent 1 1 2 (request 1 1 a (date.First 0))
    ∷ act.Got 1
    ∷ act.Served 2 1 1 a 0 0 10
    ∷ act.Sent 2 2 1 (reply 1 1 0 10)
    ∷ act.Began 2 2 0
    ∷ act.Sent 3 2 2 (prepare 2 0 (2 ∷ []) [] ((a, 7) ∷ []))
    ∷ act.Got 3
    ∷ act.Prepared 2 2 1
    ∷ act.Sent 4 2 2 (message.Vote 2 (ballot.Yes 1))
    ∷ act.Got 4
    ∷ act.Decided 2 1
    ∷ act.Finished 2
    ∷ act.Sent 5 2 2 (message.Tell 2 (outcome.Commit 1))
    ∷ act.Got 5
    ∷ act.Ended 2 2 (outcome.Commit 1)
    ∷ act.Sent 6 2 2 (message.Ack 2)
    ∷ act.Got 6
    ∷ act.Closed 2
    ∷ act.Got 2
    ∷ act.Taken 1 1 0 10
    ∷ act.Sent 7 1 1 (prepare 1 0 (1 ∷ 2 ∷ []) [] ((b, 10) ∷ []))
    ∷ act.Sent 8 1 2 (prepare 1 0 (1 ∷ 2 ∷ []) (a ∷ []) [])
    ∷ act.Got 8
    ∷ act.Refused 2 1 (cause.Newer a 1)
    ∷ act.Sent 9 2 1 (message.Vote 1 (ballot.No (cause.Newer a 1)))
    ∷ act.Got 9
    ∷ act.Aborted 1 2 (cause.Newer a 1)
    ∷ act.Sent 10 1 1 (message.Tell 1 outcome.Abort)
    ∷ act.Got 7
    ∷ act.Prepared 1 1 1
    ∷ act.Sent 11 1 1 (message.Vote 1 (ballot.Yes 1))
    ∷ act.Got 10
    ∷ act.Ended 1 1 outcome.Abort
    ∷ []

pub stale_read_refused-lawful : Lawful stale_read_refused stale_read_refused_acts no_rise
stale_read_refused-lawful = calm-lawful stale_read_refused stale_read_refused_acts (played-run stale_read_refused all_open (usually stale_read_refused.items) refl) (λ n. refl) (λ n. refl)

pub stale_read_refused-phases : phases stale_read_refused (after [] stale_read_refused_acts) ≡ Aborted ∷ Closed 1 ∷ []
stale_read_refused-phases = refl

-- two transactions without a common key are pending at n2, and the second ends first
abbrev pub lock_until_applied : DocumentData
lock_until_applied = record {
  cluster = two_nodes;
  scripts = record { number = 1; home = 1; session = 0; ops = (op.Write a (record { first = atom.Number 1; steps = [] }) ∷ []) } ∷ record { number = 2; home = 1; session = 0; ops = (op.Write c (record { first = atom.Number 2; steps = [] }) ∷ []) } ∷ record { number = 3; home = 1; session = 0; ops = (op.Write c (record { first = atom.Number 3; steps = [] }) ∷ []) } ∷ [];
  items = item.Begin 1 ∷ item.Begin 2 ∷ item.Deliver 1 ∷ item.Deliver 2 ∷ item.Deliver 4 ∷ item.Deliver 5 ∷ item.Begin 3 ∷ item.Deliver 7 ∷ [];
}

-- it is not applied, and keeps its lock
abbrev pub lock_until_applied_acts : List Act
lock_until_applied_acts =
    act.Up 1 flag.Untouched
    ∷ act.Up 2 flag.Untouched
    ∷ act.Began 1 1 0
    ∷ act.Sent 1 1 2 (prepare 1 0 (2 ∷ []) [] ((a, 1) ∷ []))
    ∷ act.Began 2 1 0
    ∷ act.Sent 2 1 2 (prepare 2 0 (2 ∷ []) [] ((c, 2) ∷ []))
    ∷ act.Got 1
    ∷ act.Prepared 2 1 1
    ∷ act.Sent 3 2 1 (message.Vote 1 (ballot.Yes 1))
    ∷ act.Got 2
    ∷ act.Prepared 2 2 2
    ∷ act.Sent 4 2 1 (message.Vote 2 (ballot.Yes 2))
    ∷ act.Got 4
    ∷ act.Decided 2 2
    ∷ act.Finished 2
    ∷ act.Sent 5 1 2 (message.Tell 2 (outcome.Commit 2))
    ∷ act.Got 5
    ∷ act.Ended 2 2 (outcome.Commit 2)
    ∷ act.Sent 6 2 1 (message.Ack 2)
    ∷ act.Began 3 1 0
    ∷ act.Sent 7 1 2 (prepare 3 0 (2 ∷ []) [] ((c, 3) ∷ []))
    ∷ act.Got 7
    ∷ act.Refused 2 3 (cause.Holder 2)
    ∷ act.Sent 8 2 1 (message.Vote 3 (ballot.No (cause.Holder 2)))
    ∷ []

pub lock_until_applied-lawful : Lawful lock_until_applied lock_until_applied_acts no_rise
lock_until_applied-lawful = calm-lawful lock_until_applied lock_until_applied_acts (played-run lock_until_applied all_open (usually lock_until_applied.items) refl) (λ n. refl) (λ n. refl)

pub lock_until_applied-phases : phases lock_until_applied (after [] lock_until_applied_acts) ≡ Collecting ∷ Decided
    (record { final = 2; parts = (2 ∷ []) }) ∷ Collecting ∷ []
lock_until_applied-phases = refl

pub lock_until_applied-a_at_2 : newest_at lock_until_applied (after [] lock_until_applied_acts) 2 a ≡ (10, 0)
lock_until_applied-a_at_2 = refl

pub lock_until_applied-b_at_1 : newest_at lock_until_applied (after [] lock_until_applied_acts) 1 b ≡ (0, 0)
lock_until_applied-b_at_1 = refl

pub lock_until_applied-c_at_2 : newest_at lock_until_applied (after [] lock_until_applied_acts) 2 c ≡ (0, 0)
lock_until_applied-c_at_2 = refl
