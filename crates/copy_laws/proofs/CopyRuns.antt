-- One copy is not empty: wrong reads, wrong replies and wrong versions are refuted, each in a worked run with one act
-- changed.
use Rattle.std.proofs.Common.{◌≡◌, ◌≤◌, ℕ, List, [], ◌∷◌, ◌++◌, refl, ap, take, drop, arith}
use Rattle.std.proofs.lemmas.Bool.{eqb-false}
use Rattle.score_base.specs.declared.ids.Value.{Value}
use Rattle.score_base.specs.declared.causes.Ballot.TheVariants as ballot
use Rattle.score_base.specs.declared.causes.Date.TheVariants as date
use Rattle.score_base.specs.declared.causes.Outcome.TheVariants as outcome
use Rattle.script_lang.specs.declared.exprs.Atom.TheVariants as atom
use Rattle.script_lang.specs.declared.scripts.Op.TheVariants as op
use Rattle.grid_model.specs.declared.acts.Act.{Act}
use Rattle.grid_model.specs.declared.acts.Act.TheVariants as act
use Rattle.grid_model.specs.declared.acts.Flag.TheVariants as flag
use Rattle.grid_model.specs.declared.messages.Message.TheVariants as message
use Rattle.grid_model.specs.Documents.{DocumentData}
use Rattle.grid_model.specs.Histories.{after}
use Rattle.journal_words.specs.Journals.{commit_id, version_at}
use Rattle.grid_model.specs.Nodes.{journal}
use Rattle.grid_model.specs.Copies.{OneCopy, IsShown, TakesCopy, order, copy, copy_of, snapshot}
use Rattle.journal_words.proofs.TwoNodes.{a, b, two_nodes}
use Rattle.grid_model.proofs.Plays.{request, reply, prepare}
use Rattle.grid_model.proofs.TransferActs.{copy_script, opened, begins, votes, decides, ends, closes}
use Rattle.grid_model.proofs.RunsWithReads.{equal_finals, equal_finals_acts}
use Rattle.grid_model.proofs.RunsThatCommit.{read_then_write, read_then_write_acts}
use Rattle.grid_laws.proofs.EachActs.{claim-at}

-- ---- an update is shown another value

-- the acts of the run that reads `a` and writes `b`, where this value is taken for the read
abbrev pub taking : Value → List Act
taking v =
    opened
    ++ (begins
    ++ ((act.Got 1
    ∷ act.Served 2 1 1 a 0 0 10
    ∷ act.Sent 2 2 1 (reply 1 1 0 10)
    ∷ act.Got 2
    ∷ act.Taken 1 1 0 v
    ∷ act.Sent 3 1 1 (prepare 1 0 (1 ∷ 2 ∷ []) [] ((b, 11) ∷ []))
    ∷ act.Sent 4 1 2 (prepare 1 0 (1 ∷ 2 ∷ []) (a ∷ []) [])
    ∷ [])
    ++ (votes ++ (decides ++ (ends ++ closes)))))

-- with the value 10 these are the acts of the run
pub taking-acts : taking 10 ≡ read_then_write_acts
taking-acts = refl

-- the values in order, or 0
abbrev value_of : List (ℕ × Value) → Value
value_of [] = 0
value_of (x ∷ xs) = x.1

-- the value behind the first
abbrev next_value : List (ℕ × Value) → Value
next_value [] = 0
next_value (x ∷ xs) = value_of xs

-- the read is shown with another value than the copy gives it: refuted, whichever it is
pub wrong_read-refuted : (v : Value) → (v ≡ 10 → ⊥) → OneCopy read_then_write (taking v) → ⊥
wrong_read-refuted v other copies =
    let e : (1, v) ∷ [] ≡ (1, 10) ∷ [] = copies.updates [] [] (1, 1) refl in
    other (ap value_of e)

-- the past behind these acts
abbrev took : Value → List Act
took v = after [] (taking v)

-- so is the reply that was taken, by itself
pub wrong_reply-refuted : (v : Value) → (v ≡ 10 → ⊥) → OneCopy read_then_write (taking v) → ⊥
wrong_reply-refuted v other copies = other (claim-at (TakesCopy read_then_write (took v)) (take 23 (took v)) (act.Taken 1 1 0 v) (drop 24 (took v)) copies.replies)

-- with the value 10 the parts of the claim compute: the order, what the transaction was shown, and the reply
pub right-read : (order read_then_write (took 10) ≡ (1, 1) ∷ []) × IsShown read_then_write (took 10) 1
    (copy_of read_then_write []) × TakesCopy read_then_write (took 10) (act.Taken 1 1 0 10)
right-read = (refl, refl, refl)

-- node n1 is applied up to 1, and both nodes have the versions of the copy
pub right-versions : (commit_id (journal read_then_write (took 10) 1) ≡ 1) ×
    ((version_at (journal read_then_write (took 10) 1) b 0 0).value ≡ copy read_then_write (took 10) 0 b) ×
    ((version_at (journal read_then_write (took 10) 1) b 0 1).value ≡ copy read_then_write (took 10) 1 b) ×
    ((version_at (journal read_then_write (took 10) 2) a 10 1).value ≡ copy read_then_write (took 10) 1 a)
right-versions = (refl, refl, refl, refl)

-- the values of these versions
pub right-values : (copy read_then_write (took 10) 0 b ≡ 0) × (copy read_then_write (took 10) 1 b ≡ 11) ×
    (copy read_then_write (took 10) 1 a ≡ 10)
right-values = (refl, refl, refl)

-- ---- a Prepare carries another value

-- the acts of the run with two updates and a reader, where the first writes this value, and where these
-- are taken for the reads of the third
abbrev pub carrying : Value → Value → Value → List Act
carrying u v w =
    act.Up 1 flag.Untouched
    ∷ act.Up 2 flag.Untouched
    ∷ act.Began 1 1 0
    ∷ act.Sent 1 1 1 (prepare 1 0 (1 ∷ []) [] ((b, u) ∷ []))
    ∷ act.Began 2 2 0
    ∷ act.Sent 2 2 2 (prepare 2 0 (2 ∷ []) [] ((a, 7) ∷ []))
    ∷ act.Got 1
    ∷ act.Prepared 1 1 1
    ∷ act.Sent 3 1 1 (message.Vote 1 (ballot.Yes 1))
    ∷ act.Got 2
    ∷ act.Prepared 2 2 1
    ∷ act.Sent 4 2 2 (message.Vote 2 (ballot.Yes 1))
    ∷ act.Got 3
    ∷ act.Decided 1 1
    ∷ act.Finished 1
    ∷ act.Sent 5 1 1 (message.Tell 1 (outcome.Commit 1))
    ∷ act.Got 4
    ∷ act.Decided 2 1
    ∷ act.Finished 2
    ∷ act.Sent 6 2 2 (message.Tell 2 (outcome.Commit 1))
    ∷ act.Got 5
    ∷ act.Ended 1 1 (outcome.Commit 1)
    ∷ act.Sent 7 1 1 (message.Ack 1)
    ∷ act.Got 6
    ∷ act.Ended 2 2 (outcome.Commit 1)
    ∷ act.Sent 8 2 2 (message.Ack 2)
    ∷ act.Got 7
    ∷ act.Closed 1
    ∷ act.Got 8
    ∷ act.Closed 2
    ∷ act.Began 3 1 1
    ∷ act.Sent 9 1 1 (request 3 1 b (date.First 1))
    ∷ act.Got 9
    ∷ act.Served 1 3 1 b 1 1 v
    ∷ act.Sent 10 1 1 (reply 3 1 1 v)
    ∷ act.Got 10
    ∷ act.Taken 3 1 1 v
    ∷ act.Sent 11 1 2 (request 3 2 a (date.At 1))
    ∷ act.Got 11
    ∷ act.Served 2 3 2 a 1 1 w
    ∷ act.Sent 12 2 1 (reply 3 2 1 w)
    ∷ act.Got 12
    ∷ act.Taken 3 2 1 w
    ∷ act.Finished 3
    ∷ []

-- with the values 5, 5 and 7 these are the acts of the run
pub carrying-acts : carrying 5 5 7 ≡ equal_finals_acts
carrying-acts = refl

-- a Prepare with another value than its script writes, which is applied, served and taken as it is: the
-- versions of the node are refuted
pub wrong_write-refuted : (u : Value) → (u ≡ 5 → ⊥) → OneCopy equal_finals (carrying u u 7) → ⊥
wrong_write-refuted u other copies =
    let least : 1 ≤ 1 = omega arith in
    other (copies.versions 1 b 1 refl least)

-- what the reader took of it is refuted too
pub wrong_write-read-refuted : (u : Value) → (u ≡ 5 → ⊥) → OneCopy equal_finals (carrying u u 7) → ⊥
wrong_write-read-refuted u other copies =
    let e : (1, u) ∷ (2, 7) ∷ [] ≡ (1, 5) ∷ (2, 7) ∷ [] = copies.readers (record { number = 3; home = 1; session = 0; ops = (op.Read b ∷ op.Read a ∷ []) }) 3 refl refl refl in
    other (ap value_of e)

-- ---- a reader takes half of a snapshot

-- the reader is shown the first write and not the second, which has the same identifier: refuted
pub torn_read-refuted : OneCopy equal_finals (carrying 5 5 10) → ⊥
torn_read-refuted copies =
    let e : (1, 5) ∷ (2, 10) ∷ [] ≡ (1, 5) ∷ (2, 7) ∷ [] = copies.readers (record { number = 3; home = 1; session = 0; ops = (op.Read b ∷ op.Read a ∷ []) }) 3 refl refl refl in
    eqb-false 10 7 refl (ap next_value e)

-- as it is, the reader was shown what it reads on the copy at its snapshot
pub right-snapshot : (snapshot equal_finals (after [] equal_finals_acts) 3 ≡ 1) × IsShown equal_finals
    (after [] equal_finals_acts) 3 (copy equal_finals (after [] equal_finals_acts) 1)
right-snapshot = (refl, refl)

-- ---- two updates that do not see each other

-- one reads `a` and writes `b`, the other reads `b` and writes `a`
abbrev pub skewed : DocumentData
skewed = record {
  cluster = two_nodes;
  scripts = copy_script ∷ record { number = 2; home = 2; session = 0; ops = (op.Read b ∷ op.Write a (record { first = atom.Key b; steps = [] }) ∷ []) } ∷ [];
  items = [];
}

-- both read the initial values, and both are decided
abbrev pub skewed_acts : List Act
skewed_acts =
    act.Began 1 1 0
    ∷ act.Began 2 2 0
    ∷ act.Taken 1 1 0 10
    ∷ act.Taken 2 1 0 0
    ∷ act.Decided 1 1
    ∷ act.Decided 2 2
    ∷ []

-- in no order did the second read what the first left: refuted
pub skew-refuted : OneCopy skewed skewed_acts → ⊥
skew-refuted copies =
    let e : (1, 0) ∷ [] ≡ (1, 11) ∷ [] = copies.updates [] ((1, 1) ∷ []) (2, 2) refl in
    eqb-false 0 11 refl (ap value_of e)
