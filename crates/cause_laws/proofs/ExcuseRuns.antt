-- The claim on excuses is not empty: to collect with all votes, to read what was answered, or to ask who neither holds
-- nor answers the home is no excuse.
use Rattle.cause_laws.proofs.CauseRuns.{both_prepare}
use Rattle.std.proofs.Common.{inl, inr, ◌≡◌, ℕ, true, false, IsTrue, List, [], ◌∷◌, ◌++◌, refl, ap, sym, subst, arith, drop, ◌==◌, ◌&&◌}
use Rattle.std.proofs.lemmas.Bool.{false≢true}
use Rattle.std.proofs.lemmas.Bool.Decides.{nat_tests}
use Rattle.score_base.specs.declared.ids.NodeId.{NodeId}
use Rattle.score_base.specs.declared.causes.Ballot.TheVariants as ballot
use Rattle.score_base.specs.declared.causes.Cause.TheVariants as cause
use Rattle.score_base.specs.declared.causes.Date.TheVariants as date
use Rattle.script_lang.specs.Scripts.{ScriptData}
use Rattle.script_lang.specs.declared.exprs.Atom.TheVariants as atom
use Rattle.script_lang.specs.declared.scripts.Op.TheVariants as op
use Rattle.placement.specs.Places.{is_among}
use Rattle.grid_model.specs.declared.acts.Act.{Act}
use Rattle.grid_model.specs.declared.acts.Act.TheVariants as act
use Rattle.grid_model.specs.declared.acts.Flag.TheVariants as flag
use Rattle.grid_model.specs.declared.messages.Message.TheVariants as message
use Rattle.grid_model.specs.Histories.{after}
use Rattle.grid_model.specs.Nodes.{node}
use Rattle.grid_model.specs.Stories.{Phase, phase, Reading, Collecting}
use Rattle.grid_model.specs.Excuses.{Accounted, Excused, ExcusedOf, home_is_down, reads, collects, WaitsForVote, WaitsForRead, has_got, is_vote_of, is_reply_of}
use Rattle.journal_words.proofs.TwoNodes.{a}
use Rattle.grid_model.proofs.Plays.{request, reply}
use Rattle.grid_model.proofs.RunsWithReads.{first_read, first_read_acts}
use Rattle.grid_model.proofs.RunsWithConflicts.{write_conflict, write_conflict_acts}

-- ---- collecting

-- the second of two that write one key
abbrev pub second_script : ScriptData
second_script =
    record { number = 2; home = 2; session = 0; ops = (op.Write a (record { first = atom.Number 2; steps = [] }) ∷ []) }

-- the acts of the run but for the last, its abort
abbrev pub unaborted_acts : List Act
unaborted_acts =
    both_prepare ++ (act.Refused 2 2 (cause.Holder 1) ∷ act.Sent 4 2 2 (message.Vote 2 (ballot.No (cause.Holder 1)))
    ∷ act.Got 4 ∷ [])

-- with the abort these are the acts of the run
pub unaborted-acts : unaborted_acts ++ act.Aborted 2 2 (cause.Holder 1) ∷ [] ≡ write_conflict_acts
unaborted-acts = refl

abbrev pub unaborted : List Act
unaborted = after [] unaborted_acts

-- it is collecting, and its home is up
pub unaborted-open : (phase write_conflict unaborted second_script ≡ Collecting) ×
    ((node write_conflict unaborted 2).up ≡ true)
unaborted-open = (refl, refl)

only-two : (n : NodeId) → IsTrue (is_among n (2 ∷ [])) → 2 ≡ n
only-two n is = grind (arith, nat_tests)

not_waiting : WaitsForVote write_conflict unaborted 2 → ⊥
not_waiting w =
    let at : 2 ≡ w.part = only-two w.part w.is_part in
    let P : NodeId → Type 0 = λ n. has_got (λ x y said. x == n && is_vote_of 2 said) unaborted ≡ false in
    let quiet : true ≡ false = subst P (sym at) w.quiet in
    false≢true (sym quiet)

not_excused : ExcusedOf write_conflict unaborted second_script → ⊥
not_excused (home_is_down down) = (let e : true ≡ false = down in false≢true (sym e))
not_excused (reads j reading w) = (let e : Collecting ≡ Reading j = reading in cc)
not_excused (collects collecting w) = not_waiting w

-- the vote of its one part came, so that it may not be collecting still: refuted
pub unaborted-refuted : Excused write_conflict unaborted_acts → ⊥
unaborted-refuted excused = not_excused (excused second_script 2 refl refl)

-- nor is it accounted for
pub unaborted-unaccounted : Accounted write_conflict unaborted_acts → ⊥
unaborted-unaccounted accounted = elim (accounted second_script 2 refl refl) [
  | inl settled ↦ (let e : false ≡ true = settled in false≢true e)
  | inr excused ↦ not_excused excused
]

-- ---- reading

-- the script that reads `a`
abbrev pub reading_script : ScriptData
reading_script = record { number = 1; home = 1; session = 0; ops = (op.Read a ∷ []) }

-- the acts of the run that reads `a`, up to the Got of the reply
abbrev pub untaken_acts : List Act
untaken_acts =
    act.Up 1 flag.Untouched
    ∷ act.Up 2 flag.Untouched
    ∷ act.Began 1 1 0
    ∷ act.Sent 1 1 2 (request 1 1 a (date.First 0))
    ∷ act.Got 1
    ∷ act.Served 2 1 1 a 0 0 10
    ∷ act.Sent 2 2 1 (reply 1 1 0 10)
    ∷ act.Got 2
    ∷ []

-- with two acts more these are the acts of the run
pub untaken-acts : untaken_acts ++ act.Taken 1 1 0 10 ∷ act.Finished 1 ∷ [] ≡ first_read_acts
untaken-acts = refl

abbrev pub untaken : List Act
untaken = after [] untaken_acts

-- it is reading, and its home is up
pub untaken-open : (phase first_read untaken reading_script ≡ Reading 1) × ((node first_read untaken 1).up ≡ true)
untaken-open = (refl, refl)

-- the operation that a phase reads, or 0
abbrev op_read : Phase → ℕ
op_read (Reading j) = j
op_read p = 0

not_read : ExcusedOf first_read untaken reading_script → ⊥
not_read (home_is_down down) = (let e : true ≡ false = down in false≢true (sym e))
not_read (reads j reading w) =
    let at : 1 ≡ j = ap op_read reading in
    let P : ℕ → Type 0 = λ i. has_got (λ x y said. is_reply_of 1 i said) untaken ≡ false in
    let quiet : true ≡ false = subst P (sym at) w.quiet in
    false≢true (sym quiet)
not_read (collects collecting w) = (let e : Reading 1 ≡ Collecting = collecting in cc)

-- the reply came, so that it may not be reading still: refuted
pub untaken-refuted : Excused first_read untaken_acts → ⊥
untaken-refuted excused = not_read (excused reading_script 1 refl refl)

-- ---- a request that was served, and not answered

-- the acts of that run up to the Served, without the reply
abbrev pub unanswered_acts : List Act
unanswered_acts =
    act.Up 1 flag.Untouched
    ∷ act.Up 2 flag.Untouched
    ∷ act.Began 1 1 0
    ∷ act.Sent 1 1 2 (request 1 1 a (date.First 0))
    ∷ act.Got 1
    ∷ act.Served 2 1 1 a 0 0 10
    ∷ []

abbrev pub unanswered : List Act
unanswered = after [] unanswered_acts

not_answered : ExcusedOf first_read unanswered reading_script → ⊥
not_answered (home_is_down down) = (let e : true ≡ false = down in false≢true (sym e))
not_answered (reads j reading w) =
    let at : 1 ≡ j = ap op_read reading in
    let P : ℕ → Type 0 = λ i. WaitsForRead first_read unanswered 1 i in
    let wait : WaitsForRead first_read unanswered 1 1 = subst P (sym at) w in
    let answered : false ≡ true = wait.each 2 (act.Served 2 1 1 a 0 0 10 ∷ []) (record { m = 1; before = drop 2 unanswered; there = refl; said = refl }) in
    false≢true answered
not_answered (collects collecting w) = (let e : Reading 1 ≡ Collecting = collecting in cc)

-- the request came to a node that is up, holds no read and sent no reply: refuted
pub unanswered-refuted : Excused first_read unanswered_acts → ⊥
unanswered-refuted excused = not_answered (excused reading_script 1 refl refl)

-- ---- a reply that the server sends to itself

-- the acts up to the Served, and a reply from the server to itself
abbrev pub misaddressed_acts : List Act
misaddressed_acts = unanswered_acts ++ act.Sent 2 2 2 (reply 1 1 0 10) ∷ []

abbrev pub misaddressed : List Act
misaddressed = after [] misaddressed_acts

not_misaddressed : ExcusedOf first_read misaddressed reading_script → ⊥
not_misaddressed (home_is_down down) = (let e : true ≡ false = down in false≢true (sym e))
not_misaddressed (reads j reading w) =
    let at : 1 ≡ j = ap op_read reading in
    let P : ℕ → Type 0 = λ i. WaitsForRead first_read misaddressed 1 i in
    let wait : WaitsForRead first_read misaddressed 1 1 = subst P (sym at) w in
    let answered : false ≡ true = wait.each 2 (act.Sent 2 2 2 (reply 1 1 0 10) ∷ act.Served 2 1 1 a 0 0 10 ∷ []) (record { m = 1; before = drop 3 misaddressed; there = refl; said = refl }) in
    false≢true answered
not_misaddressed (collects collecting w) = (let e : Reading 1 ≡ Collecting = collecting in cc)

-- the reply went to the server and not to the home: refuted
pub misaddressed-refuted : Excused first_read misaddressed_acts → ⊥
misaddressed-refuted excused = not_misaddressed (excused reading_script 1 refl refl)
