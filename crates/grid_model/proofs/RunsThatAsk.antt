-- Runs in which a part in doubt asks another part, since its home is down.
use Rattle.std.proofs.Common.{List, [], ◌∷◌, ◌++◌, None, ◌≡◌, refl}
use Rattle.score_base.specs.declared.causes.Date.TheVariants as date
use Rattle.score_base.specs.declared.causes.Ballot.TheVariants as ballot
use Rattle.score_base.specs.declared.causes.Outcome.TheVariants as outcome
use Rattle.script_lang.specs.declared.exprs.Atom.TheVariants as atom
use Rattle.script_lang.specs.declared.exprs.Step.TheVariants as step
use Rattle.script_lang.specs.declared.scripts.Op.TheVariants as op
use Rattle.script_lang.specs.Scripts.{ScriptData}
use Rattle.placement.specs.Clusters.{ClusterData}
use Rattle.grid_model.specs.declared.acts.Act.{Act}
use Rattle.grid_model.specs.declared.acts.Act.TheVariants as act
use Rattle.grid_model.specs.declared.acts.Flag.TheVariants as flag
use Rattle.grid_model.specs.declared.items.Item.TheVariants as item
use Rattle.grid_model.specs.declared.messages.Message.TheVariants as message
use Rattle.grid_model.specs.Documents.{DocumentData}
use Rattle.grid_model.specs.Histories.{after}
use Rattle.grid_model.specs.Runs.{Lawful}
use Rattle.grid_model.specs.Stories.{Decided}
use Rattle.journal_words.proofs.TwoNodes.{a, b}
use Rattle.grid_model.proofs.Plays.{usually, all_open, played-run, request, reply, prepare, phases, newest_at}
use Rattle.grid_model.proofs.Unarmed.{no_rise, calm-lawful}

-- two of three nodes hold a key each; the third is the home
abbrev pub far_home : ClusterData
far_home = record { nodes = 3; places = (1 ∷ []) ∷ (2 ∷ []) ∷ []; inits = (a, 10) ∷ [] }

abbrev pub far_script : ScriptData
far_script = record { number = 1; home = 3; session = 0; ops = (op.Read a ∷ op.Write b (record { first = atom.Key a; steps = (step.Add (atom.Number 1) ∷ []) }) ∷ []) }

-- n1 is told of the commit, the home stops, and n2 asks the home as a part, then n1, and n1 again
abbrev pub told_by_a_part : DocumentData
told_by_a_part = record {
  cluster = far_home;
  scripts = far_script ∷ [];
  items = item.Begin 1 ∷ item.Next 6 ∷ item.Deliver 7 ∷ item.Crash 3 0 ∷ item.AskPeer 2 1 3 ∷ item.AskPeer 2 1 1 ∷ item.Deliver 10 ∷ item.Deliver 11 ∷ item.AskPeer 2 1 1 ∷ [];
}

-- both parts voted, and the home decided
abbrev pub decided_acts : List Act
decided_acts =
    act.Up 1 flag.Untouched
    ∷ act.Up 2 flag.Untouched
    ∷ act.Up 3 flag.Untouched
    ∷ act.Began 1 3 0
    ∷ act.Sent 1 3 2 (request 1 1 a (date.First 0))
    ∷ act.Got 1
    ∷ act.Served 2 1 1 a 0 0 10
    ∷ act.Sent 2 2 3 (reply 1 1 0 10)
    ∷ act.Got 2
    ∷ act.Taken 1 1 0 10
    ∷ act.Sent 3 3 1 (prepare 1 0 (1 ∷ 2 ∷ []) [] ((b, 11) ∷ []))
    ∷ act.Sent 4 3 2 (prepare 1 0 (1 ∷ 2 ∷ []) (a ∷ []) [])
    ∷ act.Got 3
    ∷ act.Prepared 1 1 1
    ∷ act.Sent 5 1 3 (message.Vote 1 (ballot.Yes 1))
    ∷ act.Got 4
    ∷ act.Prepared 2 1 1
    ∷ act.Sent 6 2 3 (message.Vote 1 (ballot.Yes 1))
    ∷ act.Got 5
    ∷ act.Got 6
    ∷ act.Decided 1 1
    ∷ act.Finished 1
    ∷ act.Sent 7 3 1 (message.Tell 1 (outcome.Commit 1))
    ∷ act.Sent 8 3 2 (message.Tell 1 (outcome.Commit 1))
    ∷ []

-- the home is no part; n1 tells what it ended; then n2 is in doubt no more
abbrev pub told_by_a_part_acts : List Act
told_by_a_part_acts =
    decided_acts
    ++ act.Got 7
    ∷ act.Ended 1 1 (outcome.Commit 1)
    ∷ act.Sent 9 1 3 (message.Ack 1)
    ∷ act.Down 3 None
    ∷ act.Void 10
    ∷ act.Sent 10 2 1 (message.AskPeer 1)
    ∷ act.Got 10
    ∷ act.Sent 11 1 2 (message.Tell 1 (outcome.Commit 1))
    ∷ act.Got 11
    ∷ act.Ended 2 1 (outcome.Commit 1)
    ∷ act.Sent 12 2 3 (message.Ack 1)
    ∷ act.Void 6
    ∷ []

pub told_by_a_part-lawful : Lawful told_by_a_part told_by_a_part_acts no_rise
told_by_a_part-lawful = calm-lawful told_by_a_part told_by_a_part_acts (played-run told_by_a_part all_open (usually told_by_a_part.items) refl) (λ n. refl) (λ n. refl)

pub told_by_a_part-phases : phases told_by_a_part (after [] told_by_a_part_acts) ≡ Decided
    (record { final = 1; parts = 1 ∷ 2 ∷ [] }) ∷ []
told_by_a_part-phases = refl

pub told_by_a_part-a_at_2 : newest_at told_by_a_part (after [] told_by_a_part_acts) 2 a ≡ (10, 0)
told_by_a_part-a_at_2 = refl

pub told_by_a_part-b_at_1 : newest_at told_by_a_part (after [] told_by_a_part_acts) 1 b ≡ (11, 1)
told_by_a_part-b_at_1 = refl

-- a part that is in doubt itself says nothing
abbrev pub asked_in_doubt : DocumentData
asked_in_doubt = record {
  cluster = far_home;
  scripts = far_script ∷ [];
  items = item.Begin 1 ∷ item.Next 6 ∷ item.Crash 3 0 ∷ item.AskPeer 2 1 1 ∷ item.Deliver 9 ∷ [];
}

abbrev pub asked_in_doubt_acts : List Act
asked_in_doubt_acts =
    decided_acts
    ++ act.Down 3 None
    ∷ act.Sent 9 2 1 (message.AskPeer 1)
    ∷ act.Got 9
    ∷ []

pub asked_in_doubt-lawful : Lawful asked_in_doubt asked_in_doubt_acts no_rise
asked_in_doubt-lawful = calm-lawful asked_in_doubt asked_in_doubt_acts (played-run asked_in_doubt all_open (usually asked_in_doubt.items) refl) (λ n. refl) (λ n. refl)
