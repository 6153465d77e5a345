-- What stands in the middle of two runs: phases and versions of an update on its way, and the views of
-- both nodes where a read is held.
use Rattle.std.proofs.Common.{List, [], ◌∷◌, ◌++◌, Some, None, ◌≡◌, refl}
use Rattle.score_base.specs.declared.causes.Outcome.TheVariants as outcome
use Rattle.score_base.specs.declared.records.Record.TheVariants as record'
use Rattle.script_lang.specs.Scripts.{ScriptData}
use Rattle.script_lang.specs.declared.scripts.Op.TheVariants as op
use Rattle.grid_model.specs.declared.acts.Act.{Act}
use Rattle.grid_model.specs.Histories.{after}
use Rattle.grid_model.specs.Stories.{Decided, Reading, Collecting}
use Rattle.grid_model.specs.Views.{view, Open, Reads, Commits, Apart, stage}
use Rattle.journal_words.proofs.TwoNodes.{a, b}
use Rattle.grid_model.proofs.Plays.{phases, newest_at}
use Rattle.grid_model.proofs.TransferActs.{opened, begins, asks, votes, decides, ends}
use Rattle.grid_model.proofs.RunsThatCommit.{read_then_write}
use Rattle.grid_model.proofs.RunsWithReads.{held_read, held_read_front}

-- ---- an update on its way

abbrev pub while_reading : List Act
while_reading = after [] (opened ++ begins)

pub while_reading-phases : phases read_then_write while_reading ≡ Reading 1 ∷ []
while_reading-phases = refl

abbrev pub while_collecting : List Act
while_collecting = after [] (asks ++ votes)

pub while_collecting-phases : phases read_then_write while_collecting ≡ Collecting ∷ []
while_collecting-phases = refl

-- the write is prepared, and not seen
pub while_collecting-b_at_1 : newest_at read_then_write while_collecting 1 b ≡ (0, 0)
while_collecting-b_at_1 = refl

abbrev pub while_ending : List Act
while_ending = after [] (asks ++ (votes ++ (decides ++ ends)))

pub while_ending-phases : phases read_then_write while_ending ≡ Decided (record { final = 1; parts = 1 ∷ 2 ∷ [] }) ∷ []
while_ending-phases = refl

-- the write is applied before the acknowledgements come
pub while_ending-b_at_1 : newest_at read_then_write while_ending 1 b ≡ (11, 1)
while_ending-b_at_1 = refl

-- ---- a read that is held

abbrev pub while_held : List Act
while_held = after [] held_read_front

abbrev pub reader : ScriptData
reader = record { number = 2; home = 1; session = 0; ops = op.Read b ∷ op.Read a ∷ [] }

-- n2 has prepared the update, and holds the read
pub held_at_2-journal : (view held_read while_held 2).journal ≡ record'.Prepared 1 1 (1 ∷ 2 ∷ []) 0 1 (a ∷ []) [] ∷ []
held_at_2-journal = refl

pub held_at_2-next : (view held_read while_held 2).next ≡ 1
held_at_2-next = refl

pub held_at_2-held : (view held_read while_held 2).held ≡ record { t = 2; op = 2; sid = 1; key = a; from = 1 } ∷ []
held_at_2-held = refl

pub held_at_2-desk : (view held_read while_held 2).desk 2 ≡ None
held_at_2-desk = refl

-- n1 has ended the update, which is decided and has no acknowledgement yet
pub held_at_1-journal : (view held_read while_held 1).journal ≡ record'.Ended 1 (outcome.Commit 1) ∷ record'.Decided 1 1
    (1 ∷ 2 ∷ []) ∷ record'.Prepared 1 1 (1 ∷ 2 ∷ []) 0 1 [] ((b, 11) ∷ []) ∷ []
held_at_1-journal = refl

pub held_at_1-held : (view held_read while_held 1).held ≡ []
held_at_1-held = refl

pub held_at_1-update : stage (view held_read while_held 1) 1 ≡ Commits (record { final = 1; parts = 1 ∷ 2 ∷ [] }) []
held_at_1-update = refl

-- the reader has the value of `b` at the snapshot 1, and reads `a`
abbrev pub reader_open : Open
reader_open =
    record
    { script = reader; progress = record { sid0 = 1; sid = Some 1; values = (1, 11) ∷ []; votes = []; turn = 0 } }

pub held_at_1-desk : (view held_read while_held 1).desk 2 ≡ Some reader_open
held_at_1-desk = refl

pub held_at_1-reader : stage (view held_read while_held 1) 2 ≡ Reads reader_open 2
held_at_1-reader = refl

-- elsewhere the reader is unknown
pub held_at_2-reader : stage (view held_read while_held 2) 2 ≡ Apart
held_at_2-reader = refl
