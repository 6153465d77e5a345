-- The acts of one transaction that reads `a` on n2 and writes `b` on n1, in stages.
use Rattle.std.proofs.Common.{List, [], ◌∷◌, ◌++◌}
use Rattle.score_base.specs.declared.causes.Date.TheVariants as date
use Rattle.score_base.specs.declared.causes.Ballot.TheVariants as ballot
use Rattle.score_base.specs.declared.causes.Outcome.TheVariants as outcome
use Rattle.script_lang.specs.Scripts.{ScriptData}
use Rattle.script_lang.specs.declared.exprs.Atom.TheVariants as atom
use Rattle.script_lang.specs.declared.exprs.Step.TheVariants as step
use Rattle.script_lang.specs.declared.scripts.Op.TheVariants as op
use Rattle.grid_model.specs.declared.acts.Act.{Act}
use Rattle.grid_model.specs.declared.acts.Act.TheVariants as act
use Rattle.grid_model.specs.declared.acts.Flag.TheVariants as flag
use Rattle.grid_model.specs.declared.messages.Message.TheVariants as message
use Rattle.journal_words.proofs.TwoNodes.{a, b}
use Rattle.grid_model.proofs.Plays.{request, reply, prepare}

-- the transaction: its home is n1
abbrev pub copy_script : ScriptData
copy_script = record { number = 1; home = 1; session = 0; ops = (op.Read a ∷ op.Write b (record { first = atom.Key a; steps = (step.Add (atom.Number 1) ∷ []) }) ∷ []) }

-- both nodes are opened
abbrev pub opened : List Act
opened =
    act.Up 1 flag.Untouched
    ∷ act.Up 2 flag.Untouched
    ∷ []

-- it asks for `a`
abbrev pub begins : List Act
begins =
    act.Began 1 1 0
    ∷ act.Sent 1 1 2 (request 1 1 a (date.First 0))
    ∷ []

-- the read is served and taken, and a Prepare goes to each part
abbrev pub reads : List Act
reads =
    act.Got 1
    ∷ act.Served 2 1 1 a 0 0 10
    ∷ act.Sent 2 2 1 (reply 1 1 0 10)
    ∷ act.Got 2
    ∷ act.Taken 1 1 0 10
    ∷ act.Sent 3 1 1 (prepare 1 0 (1 ∷ 2 ∷ []) [] ((b, 11) ∷ []))
    ∷ act.Sent 4 1 2 (prepare 1 0 (1 ∷ 2 ∷ []) (a ∷ []) [])
    ∷ []

-- all of this
abbrev pub asks : List Act
asks = opened ++ (begins ++ reads)

-- both parts vote yes
abbrev pub votes : List Act
votes =
    act.Got 3
    ∷ act.Prepared 1 1 1
    ∷ act.Sent 5 1 1 (message.Vote 1 (ballot.Yes 1))
    ∷ act.Got 4
    ∷ act.Prepared 2 1 1
    ∷ act.Sent 6 2 1 (message.Vote 1 (ballot.Yes 1))
    ∷ []

-- the votes come, and the home decides
abbrev pub decides : List Act
decides =
    act.Got 5
    ∷ act.Got 6
    ∷ act.Decided 1 1
    ∷ act.Finished 1
    ∷ act.Sent 7 1 1 (message.Tell 1 (outcome.Commit 1))
    ∷ act.Sent 8 1 2 (message.Tell 1 (outcome.Commit 1))
    ∷ []

-- both parts end
abbrev pub ends : List Act
ends =
    act.Got 7
    ∷ act.Ended 1 1 (outcome.Commit 1)
    ∷ act.Sent 9 1 1 (message.Ack 1)
    ∷ act.Got 8
    ∷ act.Ended 2 1 (outcome.Commit 1)
    ∷ act.Sent 10 2 1 (message.Ack 1)
    ∷ []

-- the acknowledgements come
abbrev pub closes : List Act
closes =
    act.Got 9
    ∷ act.Got 10
    ∷ act.Closed 1
    ∷ []
