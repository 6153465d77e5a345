-- Runs on three nodes.
use Rattle.std.proofs.Common.{List, [], ◌∷◌, ◌≡◌, refl}
use Rattle.score_base.specs.declared.causes.Date.TheVariants as date
use Rattle.score_base.specs.declared.causes.Ballot.TheVariants as ballot
use Rattle.score_base.specs.declared.causes.Outcome.TheVariants as outcome
use Rattle.script_lang.specs.declared.exprs.Atom.TheVariants as atom
use Rattle.script_lang.specs.declared.exprs.Step.TheVariants as step
use Rattle.script_lang.specs.declared.scripts.Op.TheVariants as op
use Rattle.placement.specs.Clusters.{ClusterData}
use Rattle.grid_model.specs.declared.acts.Act.{Act}
use Rattle.grid_model.specs.declared.acts.Act.TheVariants as act
use Rattle.grid_model.specs.declared.acts.Flag.TheVariants as flag
use Rattle.grid_model.specs.declared.items.Item.TheVariants as item
use Rattle.grid_model.specs.declared.messages.Message.TheVariants as message
use Rattle.grid_model.specs.Documents.{DocumentData}
use Rattle.grid_model.specs.Histories.{after}
use Rattle.grid_model.specs.Runs.{Lawful}
use Rattle.grid_model.specs.Stories.{Closed, Answered}
use Rattle.journal_words.proofs.TwoNodes.{a, b, c}
use Rattle.grid_model.proofs.Plays.{usually, all_open, played-run, request, reply, prepare, phases, newest_at}
use Rattle.grid_model.proofs.Unarmed.{no_rise, calm-lawful}

-- each node holds one key: `a` on n2, `c` on n1
abbrev pub three_nodes : ClusterData
three_nodes = record { nodes = 3; places = (1 ∷ []) ∷ (2 ∷ []) ∷ (3 ∷ []) ∷ []; inits = (a, 10) ∷ [] }

-- one node holds no key of the transaction
abbrev pub bystander_gets_nothing : DocumentData
bystander_gets_nothing = record {
  cluster = three_nodes;
  scripts = record { number = 1; home = 1; session = 0; ops = (op.Read a ∷ op.Write c (record { first = atom.Key a; steps = (step.Add (atom.Number 1) ∷ []) }) ∷ []) } ∷ [];
  items = item.Begin 1 ∷ item.Next 10 ∷ [];
}

-- no message is sent to it
abbrev pub bystander_gets_nothing_acts : List Act
bystander_gets_nothing_acts =
    act.Up 1 flag.Untouched
    ∷ act.Up 2 flag.Untouched
    ∷ act.Up 3 flag.Untouched
    ∷ act.Began 1 1 0
    ∷ act.Sent 1 1 2 (request 1 1 a (date.First 0))
    ∷ act.Got 1
    ∷ act.Served 2 1 1 a 0 0 10
    ∷ act.Sent 2 2 1 (reply 1 1 0 10)
    ∷ act.Got 2
    ∷ act.Taken 1 1 0 10
    ∷ act.Sent 3 1 1 (prepare 1 0 (1 ∷ 2 ∷ []) [] ((c, 11) ∷ []))
    ∷ act.Sent 4 1 2 (prepare 1 0 (1 ∷ 2 ∷ []) (a ∷ []) [])
    ∷ act.Got 3
    ∷ act.Prepared 1 1 1
    ∷ act.Sent 5 1 1 (message.Vote 1 (ballot.Yes 1))
    ∷ act.Got 4
    ∷ act.Prepared 2 1 1
    ∷ act.Sent 6 2 1 (message.Vote 1 (ballot.Yes 1))
    ∷ act.Got 5
    ∷ act.Got 6
    ∷ act.Decided 1 1
    ∷ act.Finished 1
    ∷ act.Sent 7 1 1 (message.Tell 1 (outcome.Commit 1))
    ∷ act.Sent 8 1 2 (message.Tell 1 (outcome.Commit 1))
    ∷ act.Got 7
    ∷ act.Ended 1 1 (outcome.Commit 1)
    ∷ act.Sent 9 1 1 (message.Ack 1)
    ∷ act.Got 8
    ∷ act.Ended 2 1 (outcome.Commit 1)
    ∷ act.Sent 10 2 1 (message.Ack 1)
    ∷ act.Got 9
    ∷ act.Got 10
    ∷ act.Closed 1
    ∷ []

pub bystander_gets_nothing-lawful : Lawful bystander_gets_nothing bystander_gets_nothing_acts no_rise
bystander_gets_nothing-lawful = calm-lawful bystander_gets_nothing bystander_gets_nothing_acts (played-run bystander_gets_nothing all_open (usually bystander_gets_nothing.items) refl) (λ n. refl) (λ n. refl)

pub bystander_gets_nothing-phases : phases bystander_gets_nothing (after [] bystander_gets_nothing_acts) ≡ Closed 1 ∷ []
bystander_gets_nothing-phases = refl

pub bystander_gets_nothing-a_at_2 : newest_at bystander_gets_nothing (after [] bystander_gets_nothing_acts) 2 a ≡
    (10, 0)
bystander_gets_nothing-a_at_2 = refl

pub bystander_gets_nothing-c_at_1 : newest_at bystander_gets_nothing (after [] bystander_gets_nothing_acts) 1 c ≡
    (11, 1)
bystander_gets_nothing-c_at_1 = refl

-- each key has two holders
abbrev pub replicas : ClusterData
replicas =
    record { nodes = 3; places = (1 ∷ 2 ∷ []) ∷ (2 ∷ 3 ∷ []) ∷ (3 ∷ 1 ∷ []) ∷ []; inits = (a, 100) ∷ (b, 20) ∷ [] }

-- a transfer from `a` to `b`
abbrev pub replicated_transfer : DocumentData
replicated_transfer = record {
  cluster = replicas;
  scripts = record { number = 1; home = 1; session = 0; ops = (op.Read a ∷ op.Read b ∷ op.Write a (record { first = atom.Key a; steps = (step.Sub (atom.Number 30) ∷ []) }) ∷ op.Write b (record { first = atom.Key b; steps = (step.Add (atom.Number 30) ∷ []) }) ∷ []) } ∷ [];
  items = item.Begin 1 ∷ item.Next 16 ∷ [];
}

-- `b` is read from the home, and each holder of a key takes part
abbrev pub replicated_transfer_acts : List Act
replicated_transfer_acts =
    act.Up 1 flag.Untouched
    ∷ act.Up 2 flag.Untouched
    ∷ act.Up 3 flag.Untouched
    ∷ act.Began 1 1 0
    ∷ act.Sent 1 1 2 (request 1 1 a (date.First 0))
    ∷ act.Got 1
    ∷ act.Served 2 1 1 a 0 0 100
    ∷ act.Sent 2 2 1 (reply 1 1 0 100)
    ∷ act.Got 2
    ∷ act.Taken 1 1 0 100
    ∷ act.Sent 3 1 1 (request 1 2 b (date.At 0))
    ∷ act.Got 3
    ∷ act.Served 1 1 2 b 0 0 20
    ∷ act.Sent 4 1 1 (reply 1 2 0 20)
    ∷ act.Got 4
    ∷ act.Taken 1 2 0 20
    ∷ act.Sent 5 1 1 (prepare 1 0 (1 ∷ 2 ∷ 3 ∷ []) (b ∷ []) ((b, 50) ∷ []))
    ∷ act.Sent 6 1 2 (prepare 1 0 (1 ∷ 2 ∷ 3 ∷ []) (a ∷ []) ((a, 70) ∷ []))
    ∷ act.Sent 7 1 3 (prepare 1 0 (1 ∷ 2 ∷ 3 ∷ []) (a ∷ b ∷ []) ((a, 70) ∷ (b, 50) ∷ []))
    ∷ act.Got 5
    ∷ act.Prepared 1 1 1
    ∷ act.Sent 8 1 1 (message.Vote 1 (ballot.Yes 1))
    ∷ act.Got 6
    ∷ act.Prepared 2 1 1
    ∷ act.Sent 9 2 1 (message.Vote 1 (ballot.Yes 1))
    ∷ act.Got 7
    ∷ act.Prepared 3 1 1
    ∷ act.Sent 10 3 1 (message.Vote 1 (ballot.Yes 1))
    ∷ act.Got 8
    ∷ act.Got 9
    ∷ act.Got 10
    ∷ act.Decided 1 1
    ∷ act.Finished 1
    ∷ act.Sent 11 1 1 (message.Tell 1 (outcome.Commit 1))
    ∷ act.Sent 12 1 2 (message.Tell 1 (outcome.Commit 1))
    ∷ act.Sent 13 1 3 (message.Tell 1 (outcome.Commit 1))
    ∷ act.Got 11
    ∷ act.Ended 1 1 (outcome.Commit 1)
    ∷ act.Sent 14 1 1 (message.Ack 1)
    ∷ act.Got 12
    ∷ act.Ended 2 1 (outcome.Commit 1)
    ∷ act.Sent 15 2 1 (message.Ack 1)
    ∷ act.Got 13
    ∷ act.Ended 3 1 (outcome.Commit 1)
    ∷ act.Sent 16 3 1 (message.Ack 1)
    ∷ act.Got 14
    ∷ act.Got 15
    ∷ act.Got 16
    ∷ act.Closed 1
    ∷ []

pub replicated_transfer-lawful : Lawful replicated_transfer replicated_transfer_acts no_rise
replicated_transfer-lawful = calm-lawful replicated_transfer replicated_transfer_acts (played-run replicated_transfer all_open (usually replicated_transfer.items) refl) (λ n. refl) (λ n. refl)

pub replicated_transfer-phases : phases replicated_transfer (after [] replicated_transfer_acts) ≡ Closed 1 ∷ []
replicated_transfer-phases = refl

pub replicated_transfer-a_at_2 : newest_at replicated_transfer (after [] replicated_transfer_acts) 2 a ≡ (70, 1)
replicated_transfer-a_at_2 = refl

pub replicated_transfer-a_at_3 : newest_at replicated_transfer (after [] replicated_transfer_acts) 3 a ≡ (70, 1)
replicated_transfer-a_at_3 = refl

pub replicated_transfer-b_at_1 : newest_at replicated_transfer (after [] replicated_transfer_acts) 1 b ≡ (50, 1)
replicated_transfer-b_at_1 = refl

pub replicated_transfer-b_at_3 : newest_at replicated_transfer (after [] replicated_transfer_acts) 3 b ≡ (50, 1)
replicated_transfer-b_at_3 = refl

-- `a` is on n2 and n3
abbrev pub two_holders : ClusterData
two_holders = record { nodes = 3; places = (1 ∷ []) ∷ (2 ∷ 3 ∷ []) ∷ []; inits = (a, 10) ∷ [] }

-- a read is asked again
abbrev pub retry_at_the_other_holder : DocumentData
retry_at_the_other_holder = record {
  cluster = two_holders;
  scripts = record { number = 1; home = 1; session = 0; ops = (op.Read a ∷ []) } ∷ [];
  items = item.Begin 1 ∷ item.Retry 1 ∷ item.Deliver 2 ∷ item.Deliver 1 ∷ item.Deliver 3 ∷ item.Deliver 4 ∷ [];
}

-- the second request goes to the other holder, and the first reply is taken
abbrev pub retry_at_the_other_holder_acts : List Act
retry_at_the_other_holder_acts =
    act.Up 1 flag.Untouched
    ∷ act.Up 2 flag.Untouched
    ∷ act.Up 3 flag.Untouched
    ∷ act.Began 1 1 0
    ∷ act.Sent 1 1 2 (request 1 1 a (date.First 0))
    ∷ act.Sent 2 1 3 (request 1 1 a (date.First 0))
    ∷ act.Got 2
    ∷ act.Served 3 1 1 a 0 0 10
    ∷ act.Sent 3 3 1 (reply 1 1 0 10)
    ∷ act.Got 1
    ∷ act.Served 2 1 1 a 0 0 10
    ∷ act.Sent 4 2 1 (reply 1 1 0 10)
    ∷ act.Got 3
    ∷ act.Taken 1 1 0 10
    ∷ act.Finished 1
    ∷ act.Got 4
    ∷ []

pub retry_at_the_other_holder-lawful : Lawful retry_at_the_other_holder retry_at_the_other_holder_acts no_rise
retry_at_the_other_holder-lawful = calm-lawful retry_at_the_other_holder retry_at_the_other_holder_acts (played-run retry_at_the_other_holder all_open (usually retry_at_the_other_holder.items) refl) (λ n. refl) (λ n. refl)

pub retry_at_the_other_holder-phases : phases retry_at_the_other_holder (after [] retry_at_the_other_holder_acts) ≡
    Answered ∷ []
retry_at_the_other_holder-phases = refl
