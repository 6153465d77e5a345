-- A transaction that its home has decided and closed begins once more at that home: it reads, takes its
-- reply, collects its votes and is decided, as the first time.
use Rattle.std.proofs.Common.{List, [], ◌∷◌, Some, None, ◌≡◌, refl}
use Rattle.score_base.specs.declared.causes.Ballot.TheVariants as ballot
use Rattle.score_base.specs.declared.causes.Date.TheVariants as date
use Rattle.score_base.specs.declared.causes.Outcome.TheVariants as outcome
use Rattle.grid_model.specs.declared.acts.Act.{Act}
use Rattle.grid_model.specs.declared.acts.Act.TheVariants as act
use Rattle.grid_model.specs.declared.events.Event.TheVariants as event
use Rattle.grid_model.specs.declared.events.Out.TheVariants as out
use Rattle.grid_model.specs.declared.messages.Message.TheVariants as message
use Rattle.grid_model.specs.Histories.{after}
use Rattle.grid_model.specs.Rows.{outs_of}
use Rattle.grid_model.specs.Stories.{Closed, Decided, Reading, Collecting}
use Rattle.grid_model.specs.Views.{Open, Apart, Reads, Collects, stage, view}
use Rattle.journal_words.proofs.TwoNodes.{a, b}
use Rattle.grid_model.proofs.Plays.{phases, prepare, reply, request}
use Rattle.grid_model.proofs.TransferActs.{copy_script}
use Rattle.grid_model.proofs.RunsThatCommit.{read_then_write, read_then_write_acts}

-- ---- what its home knows before

abbrev pub closed : List Act
closed = after [] read_then_write_acts

pub closed-phases : phases read_then_write closed ≡ Closed 1 ∷ []
closed-phases = refl

pub closed-stage : stage (view read_then_write closed 1) 1 ≡ Apart
closed-stage = refl

-- ---- it begins again

pub again-outs : outs_of 1 (view read_then_write closed 1) (event.Begin copy_script 0) ≡ out.Act (act.Began 1 1 1) ∷
    out.Send 2 (request 1 1 a (date.First 1)) ∷ []
again-outs = refl

abbrev pub reading : List Act
reading = after closed (act.Began 1 1 1 ∷ act.Sent 11 1 2 (request 1 1 a (date.First 1)) ∷ [])

pub reading-phases : phases read_then_write reading ≡ Reading 1 ∷ []
reading-phases = refl

abbrev pub open_again : Open
open_again =
    record { script = copy_script; progress = record { sid0 = 1; turn = 0; sid = None; values = []; votes = [] } }

pub reading-stage : stage (view read_then_write reading 1) 1 ≡ Reads open_again 1
reading-stage = refl

-- ---- its reply is taken

abbrev pub replied : List Act
replied = after reading (
    act.Got 11
    ∷ act.Ceiling 2 64
    ∷ act.Raised 2 1
    ∷ act.Served 2 1 1 a 1 0 10
    ∷ act.Sent 12 2 1 (reply 1 1 1 10)
    ∷ []
    )

pub replied-outs : outs_of 1 (view read_then_write replied 1) (event.Deliver 2 (reply 1 1 1 10)) ≡ out.Act
    (act.Taken 1 1 1 10) ∷ out.Send 1 (prepare 1 1 (1 ∷ 2 ∷ []) [] ((b, 11) ∷ [])) ∷ out.Send 2
    (prepare 1 1 (1 ∷ 2 ∷ []) (a ∷ []) []) ∷ []
replied-outs = refl

abbrev pub collecting : List Act
collecting = after replied (
    act.Got 12
    ∷ act.Taken 1 1 1 10
    ∷ act.Sent 13 1 1 (prepare 1 1 (1 ∷ 2 ∷ []) [] ((b, 11) ∷ []))
    ∷ act.Sent 14 1 2 (prepare 1 1 (1 ∷ 2 ∷ []) (a ∷ []) [])
    ∷ []
    )

pub collecting-phases : phases read_then_write collecting ≡ Collecting ∷ []
collecting-phases = refl

pub collecting-stage : stage (view read_then_write collecting 1) 1 ≡ Collects (record { script = copy_script; progress = record { sid0 = 1; turn = 0; sid = Some 1; values = (1, 10) ∷ []; votes = [] } })
collecting-stage = refl

-- ---- votes count, and it is decided again

abbrev pub voted : List Act
voted =
    after collecting (act.Sent 15 1 1 (message.Vote 1 (ballot.Yes 2)) ∷ act.Sent 16 2 1 (message.Vote 1 (ballot.Yes 2))
    ∷ act.Got 15 ∷ [])

pub voted-outs : outs_of 1 (view read_then_write voted 1) (event.Deliver 2 (message.Vote 1 (ballot.Yes 2))) ≡ out.Act
    (act.Decided 1 2) ∷ out.Act (act.Finished 1) ∷ out.Send 1 (message.Tell 1 (outcome.Commit 2)) ∷ out.Send 2
    (message.Tell 1 (outcome.Commit 2)) ∷ []
voted-outs = refl

abbrev pub decided : List Act
decided = after voted (act.Got 16 ∷ act.Decided 1 2 ∷ act.Finished 1 ∷ [])

pub decided-phases : phases read_then_write decided ≡ Decided (record { final = 2; parts = 1 ∷ 2 ∷ [] }) ∷ []
decided-phases = refl
