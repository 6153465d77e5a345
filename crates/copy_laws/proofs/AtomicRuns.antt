-- The claim on atomic commits is not empty: it holds of a run that commits; an aborted transaction that is
-- committed too, and a commit that its parts end with abort, are refuted.
use Rattle.std.proofs.Common.{◌≡◌, true, false, List, [], ◌∷◌, ◌++◌, refl, sym}
use Rattle.std.proofs.lemmas.Bool.{false≢true}
use Rattle.score_base.specs.declared.causes.Outcome.TheVariants as outcome
use Rattle.grid_model.specs.declared.acts.Act.{Act}
use Rattle.grid_model.specs.declared.acts.Act.TheVariants as act
use Rattle.grid_model.specs.Histories.{after}
use Rattle.grid_model.specs.Copies.{OneCopy}
use Rattle.grid_model.proofs.TransferActs.{asks, decides, votes}
use Rattle.grid_model.proofs.RunsThatCommit.{read_then_write, read_then_write_acts}
use Rattle.grid_model.proofs.RunsWithConflicts.{write_conflict, write_conflict_acts}
use Rattle.grid_laws.proofs.WorkedDocuments.{read_then_write-worked}
use Rattle.grid_model.specs.Claims.{Atomic, IsFirm}
use Rattle.copy_laws.proofs.OneCopies.{atomic, one-copy}

-- ---- a run that commits

pub transfer-atomic : Atomic read_then_write read_then_write_acts
transfer-atomic = atomic read_then_write read_then_write_acts read_then_write-worked.0 read_then_write-worked.1

-- and of it the whole claim on one copy holds
pub transfer-one_copy : OneCopy read_then_write read_then_write_acts
transfer-one_copy = one-copy read_then_write read_then_write_acts read_then_write-worked.0 read_then_write-worked.1

-- ---- what is refuted

-- the second of two that write one key is aborted, and then decided and told
abbrev pub both_acts : List Act
both_acts = write_conflict_acts ++ (act.Decided 2 1 ∷ act.Finished 2 ∷ [])

pub both-refuted : Atomic write_conflict both_acts → ⊥
both-refuted atomic =
    let held : IsFirm write_conflict (after [] both_acts) 1 2 = atomic.firm 1 2 (record { later = []; before = []; there = refl }) in
    let kept : true ≡ false = held.kept in
    false≢true (sym kept)

-- an update is decided and told, and both parts end it with abort
abbrev pub undone_acts : List Act
undone_acts =
    asks
    ++ (votes ++ (decides ++ (act.Got 7 ∷ act.Ended 1 1 outcome.Abort ∷ act.Got 8 ∷ act.Ended 2 1 outcome.Abort ∷ [])))

pub undone-refuted : Atomic read_then_write undone_acts → ⊥
undone-refuted atomic =
    let held : IsFirm read_then_write (after [] undone_acts) 1 1 = atomic.firm 1 1 (record { later = []; before = []; there = refl }) in
    let e : outcome.Abort ≡ outcome.Commit 1 = held.ends 2 outcome.Abort refl in
    cc
