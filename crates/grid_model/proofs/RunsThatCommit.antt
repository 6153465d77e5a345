-- Runs of updates that commit.
use Rattle.std.proofs.Common.{List, [], ◌∷◌, ◌++◌, ◌≡◌, refl}
use Rattle.score_base.specs.declared.causes.Ballot.TheVariants as ballot
use Rattle.score_base.specs.declared.causes.Outcome.TheVariants as outcome
use Rattle.script_lang.specs.declared.exprs.Atom.TheVariants as atom
use Rattle.script_lang.specs.declared.scripts.Op.TheVariants as op
use Rattle.grid_model.specs.declared.acts.Act.{Act}
use Rattle.grid_model.specs.declared.acts.Act.TheVariants as act
use Rattle.grid_model.specs.declared.acts.Flag.TheVariants as flag
use Rattle.grid_model.specs.declared.items.Item.TheVariants as item
use Rattle.grid_model.specs.declared.messages.Message.TheVariants as message
use Rattle.grid_model.specs.Documents.{DocumentData}
use Rattle.grid_model.specs.Histories.{after}
use Rattle.grid_model.specs.Runs.{Lawful}
use Rattle.grid_model.specs.Stories.{Closed, Decided, Collecting}
use Rattle.journal_words.proofs.TwoNodes.{a, b, two_nodes}
use Rattle.grid_model.proofs.Plays.{usually, all_open, played-run, prepare, phases, newest_at}
use Rattle.grid_model.proofs.Unarmed.{no_rise, calm-lawful}
use Rattle.grid_model.proofs.TransferActs.{copy_script, asks, votes, decides, ends, closes}

-- one transaction reads `a` and writes `b`
abbrev pub read_then_write : DocumentData
read_then_write = record {
  cluster = two_nodes;
  scripts = copy_script ∷ [];
  items = item.Begin 1 ∷ item.Next 10 ∷ [];
}

abbrev pub read_then_write_acts : List Act
read_then_write_acts = asks ++ (votes ++ (decides ++ (ends ++ closes)))

pub read_then_write-lawful : Lawful read_then_write read_then_write_acts no_rise
read_then_write-lawful = calm-lawful read_then_write read_then_write_acts (played-run read_then_write all_open (usually read_then_write.items) refl) (λ n. refl) (λ n. refl)

pub read_then_write-phases : phases read_then_write (after [] read_then_write_acts) ≡ Closed 1 ∷ []
read_then_write-phases = refl

pub read_then_write-a_at_2 : newest_at read_then_write (after [] read_then_write_acts) 2 a ≡ (10, 0)
read_then_write-a_at_2 = refl

pub read_then_write-b_at_1 : newest_at read_then_write (after [] read_then_write_acts) 1 b ≡ (11, 1)
read_then_write-b_at_1 = refl

-- then another writes `a`
abbrev pub next_update : DocumentData
next_update = record {
  cluster = two_nodes;
  scripts = copy_script ∷ record { number = 2; home = 1; session = 0; ops = (op.Write a (record { first = atom.Number 3; steps = [] }) ∷ []) } ∷ [];
  items = item.Begin 1 ∷ item.Next 10 ∷ item.Begin 2 ∷ item.Next 4 ∷ [];
}

-- its proposal and its final identifier are 2
abbrev pub next_update_acts : List Act
next_update_acts =
    read_then_write_acts
    ++ act.Began 2 1 1
    ∷ act.Sent 11 1 2 (prepare 2 1 (2 ∷ []) [] ((a, 3) ∷ []))
    ∷ act.Got 11
    ∷ act.Prepared 2 2 2
    ∷ act.Sent 12 2 1 (message.Vote 2 (ballot.Yes 2))
    ∷ act.Got 12
    ∷ act.Decided 2 2
    ∷ act.Finished 2
    ∷ act.Sent 13 1 2 (message.Tell 2 (outcome.Commit 2))
    ∷ act.Got 13
    ∷ act.Ended 2 2 (outcome.Commit 2)
    ∷ act.Sent 14 2 1 (message.Ack 2)
    ∷ act.Got 14
    ∷ act.Closed 2
    ∷ []

pub next_update-lawful : Lawful next_update next_update_acts no_rise
next_update-lawful = calm-lawful next_update next_update_acts (played-run next_update all_open (usually next_update.items) refl) (λ n. refl) (λ n. refl)

pub next_update-phases : phases next_update (after [] next_update_acts) ≡ Closed 1 ∷ Closed 2 ∷ []
next_update-phases = refl

pub next_update-a_at_2 : newest_at next_update (after [] next_update_acts) 2 a ≡ (3, 2)
next_update-a_at_2 = refl

-- copies of a Prepare, a commit and an acknowledgement come behind the end
abbrev pub repeats_after_the_end : DocumentData
repeats_after_the_end = record {
  cluster = two_nodes;
  scripts = copy_script ∷ [];
  items = item.Begin 1 ∷ item.Next 10 ∷ item.Deliver 4 ∷ item.Deliver 8 ∷ item.Deliver 11 ∷ [];
}

-- only the commit is answered, by another acknowledgement
abbrev pub repeats_after_the_end_acts : List Act
repeats_after_the_end_acts =
    read_then_write_acts
    ++ act.Got 4
    ∷ act.Got 8
    ∷ act.Sent 11 2 1 (message.Ack 1)
    ∷ act.Got 11
    ∷ []

pub repeats_after_the_end-lawful : Lawful repeats_after_the_end repeats_after_the_end_acts no_rise
repeats_after_the_end-lawful = calm-lawful repeats_after_the_end repeats_after_the_end_acts (played-run repeats_after_the_end all_open (usually repeats_after_the_end.items) refl) (λ n. refl) (λ n. refl)

-- each vote comes twice
abbrev pub repeated_votes : DocumentData
repeated_votes = record {
  cluster = two_nodes;
  scripts = copy_script ∷ [];
  items = item.Begin 1 ∷ item.Next 4 ∷ item.Deliver 6 ∷ item.Deliver 6 ∷ item.Deliver 5 ∷ item.Deliver 5 ∷ [];
}

-- each counts once
abbrev pub repeated_votes_acts : List Act
repeated_votes_acts =
    asks
    ++ votes
    ++ act.Got 6
    ∷ act.Got 6
    ∷ act.Got 5
    ∷ act.Decided 1 1
    ∷ act.Finished 1
    ∷ act.Sent 7 1 1 (message.Tell 1 (outcome.Commit 1))
    ∷ act.Sent 8 1 2 (message.Tell 1 (outcome.Commit 1))
    ∷ act.Got 5
    ∷ []

pub repeated_votes-lawful : Lawful repeated_votes repeated_votes_acts no_rise
repeated_votes-lawful = calm-lawful repeated_votes repeated_votes_acts (played-run repeated_votes all_open (usually repeated_votes.items) refl) (λ n. refl) (λ n. refl)

pub repeated_votes-phases : phases repeated_votes (after [] repeated_votes_acts) ≡ Decided
    (record { final = 1; parts = (1 ∷ 2 ∷ []) }) ∷ []
repeated_votes-phases = refl

-- a transaction reads what it wrote
abbrev pub own_read : DocumentData
own_read = record {
  cluster = two_nodes;
  scripts = record { number = 1; home = 1; session = 0; ops = (op.Write b (record { first = atom.Number 4; steps = [] }) ∷ op.Read b ∷ op.Write a (record { first = atom.Key b; steps = [] }) ∷ []) } ∷ [];
  items = item.Begin 1 ∷ [];
}

-- no request is sent
abbrev pub own_read_acts : List Act
own_read_acts =
    act.Up 1 flag.Untouched
    ∷ act.Up 2 flag.Untouched
    ∷ act.Began 1 1 0
    ∷ act.Own 1 2 4
    ∷ act.Sent 1 1 1 (prepare 1 0 (1 ∷ 2 ∷ []) [] ((b, 4) ∷ []))
    ∷ act.Sent 2 1 2 (prepare 1 0 (1 ∷ 2 ∷ []) [] ((a, 4) ∷ []))
    ∷ []

pub own_read-lawful : Lawful own_read own_read_acts no_rise
own_read-lawful = calm-lawful own_read own_read_acts (played-run own_read all_open (usually own_read.items) refl) (λ n. refl) (λ n. refl)

pub own_read-phases : phases own_read (after [] own_read_acts) ≡ Collecting ∷ []
own_read-phases = refl
