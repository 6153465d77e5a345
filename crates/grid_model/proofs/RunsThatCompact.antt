-- Runs in which a node makes its journal small.
use Rattle.std.proofs.Common.{ℕ, nat_le, true, false, ◌==◌, IsTrue, List, [], ◌∷◌, ◌++◌, Some, None, ◌≡◌, refl, arith, inl, inr}
use Rattle.std.proofs.lemmas.Bool.{cases_eq}
use Rattle.std.proofs.lemmas.Bool.Decides.{nat_tests}
use Rattle.score_base.specs.declared.ids.NodeId.{NodeId}
use Rattle.score_base.specs.declared.causes.Outcome.TheVariants as outcome
use Rattle.score_base.specs.declared.records.Record.TheVariants as record'
use Rattle.grid_model.specs.declared.acts.Act.{Act}
use Rattle.grid_model.specs.declared.acts.Act.TheVariants as act
use Rattle.grid_model.specs.declared.acts.Flag.{Flag}
use Rattle.grid_model.specs.declared.acts.Flag.TheVariants as flag
use Rattle.grid_model.specs.declared.acts.Head.TheVariants as head
use Rattle.grid_model.specs.declared.items.Item.TheVariants as item
use Rattle.grid_model.specs.Documents.{DocumentData}
use Rattle.grid_model.specs.Histories.{after}
use Rattle.grid_model.specs.Nodes.{journal}
use Rattle.grid_model.specs.Disks.{disklog}
use Rattle.grid_model.specs.Runs.{IsRun, Lawful, Explains, are_let}
use Rattle.journal_words.proofs.TwoNodes.{b, two_nodes}
use Rattle.grid_model.proofs.Plays.{usual, broken, unfound, usually, all_open, played-run}
use Rattle.grid_model.proofs.RunsThatCommit.{read_then_write_acts}
use Rattle.grid_model.proofs.TransferActs.{copy_script}
use Rattle.grid_model.proofs.Unarmed.{unarmed-are_let, unstopped-explains, no_rise, calm-lawful}

-- ---- a compaction behind a commit

abbrev pub compact_after_commit : DocumentData
compact_after_commit = record {
  cluster = two_nodes;
  scripts = copy_script ∷ [];
  items = item.Begin 1 ∷ item.Next 10 ∷ item.Compact 1 ∷ item.Crash 1 0 ∷ item.Compact 1 ∷ item.Restart 1 ∷ [];
}

-- a node that is down compacts nothing
abbrev pub compact_after_commit_acts : List Act
compact_after_commit_acts =
    read_then_write_acts ++ (act.Compacted 1 ∷ act.Down 1 None ∷ act.Void 11 ∷ act.Up 1 flag.Untouched ∷ [])

pub compact_after_commit-lawful : Lawful compact_after_commit compact_after_commit_acts no_rise
compact_after_commit-lawful =
    calm-lawful compact_after_commit compact_after_commit_acts
    (played-run compact_after_commit all_open (usually compact_after_commit.items) refl) (λ n. refl) (λ n. refl)

-- the Decided and the Closed are gone from the disk, and stand in the journal
pub compact_after_commit-disk : disklog compact_after_commit (after [] compact_after_commit_acts) 1
    ≡ record'.Ended 1 (outcome.Commit 1) ∷ record'.Prepared 1 1 (1 ∷ 2 ∷ []) 0 1 [] ((b, 11) ∷ []) ∷ []
compact_after_commit-disk = refl

pub compact_after_commit-journal : journal compact_after_commit (after [] compact_after_commit_acts) 1
    ≡ record'.Closed 1 ∷ record'.Ended 1 (outcome.Commit 1) ∷ record'.Decided 1 1 (1 ∷ 2 ∷ [])
    ∷ record'.Prepared 1 1 (1 ∷ 2 ∷ []) 0 1 [] ((b, 11) ∷ []) ∷ []
compact_after_commit-journal = refl

-- ---- a node that is down compacts nothing

abbrev pub compact_of_a_down_node : DocumentData
compact_of_a_down_node = record { cluster = two_nodes; scripts = []; items = item.Crash 1 0 ∷ item.Compact 1 ∷ [] }

abbrev pub compact_of_a_down_node_acts : List Act
compact_of_a_down_node_acts =
    act.Up 1 flag.Untouched ∷ act.Up 2 flag.Untouched ∷ act.Down 1 None ∷ act.Void 11 ∷ []

pub compact_of_a_down_node-lawful : Lawful compact_of_a_down_node compact_of_a_down_node_acts no_rise
compact_of_a_down_node-lawful =
    calm-lawful compact_of_a_down_node compact_of_a_down_node_acts
    (played-run compact_of_a_down_node all_open (usually compact_of_a_down_node.items) refl) (λ n. refl) (λ n. refl)

-- ---- a fuse stops a compaction

-- the fuse of n1 stops the k-th call of its other disk
abbrev pub fused_compaction : ℕ → ℕ → DocumentData
fused_compaction k how =
    record { cluster = two_nodes; scripts = []; items = item.Fuse 1 k how ∷ item.Compact 1 ∷ item.Restart 1 ∷ [] }

abbrev pub fused_compaction_acts : ℕ → ℕ → Flag → List Act
fused_compaction_acts k how f =
    act.Up 1 flag.Untouched ∷ act.Up 2 flag.Untouched ∷ act.Armed 1 k how ∷ act.Down 1 (Some head.Compact)
    ∷ act.Up 1 f ∷ []

pub fused_compaction-gone : (k how : ℕ)
    → IsRun (fused_compaction k how) (fused_compaction k how).items (fused_compaction_acts k how flag.Gone)
fused_compaction-gone k how =
    played-run (fused_compaction k how) all_open
    ((item.Fuse 1 k how, usual) ∷ (item.Compact 1, broken) ∷ (item.Restart 1, unfound) ∷ []) refl

pub fused_compaction-kept : (k how : ℕ)
    → IsRun (fused_compaction k how) (fused_compaction k how).items (fused_compaction_acts k how flag.Kept)
fused_compaction-kept k how =
    played-run (fused_compaction k how) all_open
    ((item.Fuse 1 k how, usual) ∷ (item.Compact 1, broken) ∷ (item.Restart 1, usual) ∷ []) refl

elsewhere : (k how : ℕ) (f : Flag) (n : NodeId) → 1 == n ≡ false
    → IsTrue (are_let (fused_compaction k how) (after [] (fused_compaction_acts k how f)) n)
    × Explains (fused_compaction k how) (after [] (fused_compaction_acts k how f)) n 0
elsewhere k how f n apart = (
  unarmed-are_let (fused_compaction k how) (after [] (fused_compaction_acts k how f)) n (rw apart refl),
  unstopped-explains (fused_compaction k how) (after [] (fused_compaction_acts k how f)) n (rw apart refl),
)

gone-at : (k how : ℕ) → nat_le k 8 ≡ true → (n : NodeId)
    → IsTrue (are_let (fused_compaction k how) (after [] (fused_compaction_acts k how flag.Gone)) n)
    × Explains (fused_compaction k how) (after [] (fused_compaction_acts k how flag.Gone)) n 0
gone-at k how inside n = elim (cases_eq 1 n) [
  | inl same ↦ rw (← same) (refl, record { most = rw inside (omega arith); some = λ rose. absurd (rose refl) })
  | inr other ↦ elsewhere k how flag.Gone n (grind (arith, nat_tests))
]

-- the compaction may be gone wherever the fuse stops it
pub gone-lawful : (k how : ℕ) → nat_le k 8 ≡ true
    → Lawful (fused_compaction k how) (fused_compaction_acts k how flag.Gone) no_rise
gone-lawful k how inside =
    record {
      run = fused_compaction-gone k how;
      fuses = λ n. (gone-at k how inside n).0;
      stops = λ n. (gone-at k how inside n).1;
    }

kept-at : (k how : ℕ) → nat_le k 8 ≡ true → nat_le 5 k ≡ true → (n : NodeId)
    → IsTrue (are_let (fused_compaction k how) (after [] (fused_compaction_acts k how flag.Kept)) n)
    × Explains (fused_compaction k how) (after [] (fused_compaction_acts k how flag.Kept)) n 0
kept-at k how inside written n = elim (cases_eq 1 n) [
  | inl same ↦ rw (← same) (
    rw written refl,
    record { most = rw inside (omega arith); some = λ rose. absurd (rose refl) },
  )
  | inr other ↦ elsewhere k how flag.Kept n (grind (arith, nat_tests))
]

-- it may be kept where the fuse stops it from the write of the version on
pub kept-lawful : (k how : ℕ) → nat_le k 8 ≡ true → nat_le 5 k ≡ true
    → Lawful (fused_compaction k how) (fused_compaction_acts k how flag.Kept) no_rise
kept-lawful k how inside written =
    record {
      run = fused_compaction-kept k how;
      fuses = λ n. (kept-at k how inside written n).0;
      stops = λ n. (kept-at k how inside written n).1;
    }

-- and not before
pub kept-unlawful : (how : ℕ) (rise : NodeId → ℕ)
    → Lawful (fused_compaction 4 how) (fused_compaction_acts 4 how flag.Kept) rise → ⊥
kept-unlawful how rise h = let is : false ≡ true = h.fuses 1 in grind arith
