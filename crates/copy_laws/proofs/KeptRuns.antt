-- The claim on acknowledged commits is not empty: its premises hold together in worked runs, also where a
-- record is in doubt, and what it says of them computes; where a part has no Prepared or another it is refuted.
use Rattle.std.proofs.Common.{◌≡◌, Bool, true, false, IsTrue, List, [], ◌∷◌, ◌++◌, Option, Some, refl, ap, subst, arith, ◌==◌, ◌⊎◌, inl, inr, reverse, if◌then◌else◌}
use Rattle.std.proofs.lemmas.Bool.{cases_eq}
use Rattle.std.proofs.lemmas.Bool.Decides.{nat_tests}
use Rattle.std.proofs.lemmas.Option.{none-some}
use Rattle.score_base.specs.declared.ids.TxId.{TxId}
use Rattle.score_base.specs.declared.ids.Ident.{Ident}
use Rattle.score_base.specs.declared.ids.NodeId.{NodeId}
use Rattle.score_base.specs.declared.ids.Value.{Value}
use Rattle.score_base.specs.declared.keys.Key.{Key}
use Rattle.score_base.specs.declared.causes.Ballot.TheVariants as ballot
use Rattle.score_base.specs.declared.causes.Outcome.TheVariants as outcome
use Rattle.score_base.specs.declared.records.Record.{Record}
use Rattle.score_base.specs.declared.records.Record.TheVariants as record'
use Rattle.script_lang.specs.declared.exprs.Atom.TheVariants as atom
use Rattle.script_lang.specs.declared.scripts.Op.TheVariants as op
use Rattle.script_lang.specs.Reads.{is_update}
use Rattle.placement.specs.Places.{is_among}
use Rattle.grid_model.specs.declared.acts.Act.{Act}
use Rattle.grid_model.specs.declared.acts.Act.TheVariants as act
use Rattle.grid_model.specs.declared.acts.Head.TheVariants as head
use Rattle.grid_model.specs.declared.items.Item.TheVariants as item
use Rattle.grid_model.specs.declared.messages.Message.TheVariants as message
use Rattle.grid_model.specs.Documents.{DocumentData}
use Rattle.grid_model.specs.Histories.{after}
use Rattle.journal_words.specs.Journals.{prepared_of}
use Rattle.grid_model.specs.Nodes.{journal, node, script_of}
use Rattle.grid_model.specs.Disks.{disklog}
use Rattle.grid_model.specs.Runs.{IsRun}
use Rattle.grid_model.specs.Copies.{order, copy_of, is_finished}
use Rattle.grid_model.specs.Claims.{Kept, IsKept, AreLogs, IsLog, standing, in_doubt, writes_at, writes_on}
use Rattle.journal_words.proofs.TwoNodes.{b, two_nodes}
use Rattle.grid_model.proofs.Plays.{usually, broken, all_open, played-run}
use Rattle.grid_model.proofs.TransferActs.{copy_script, asks, votes, decides, ends, closes}
use Rattle.grid_model.proofs.RunsWithReads.{equal_finals}
use Rattle.grid_model.proofs.RunsThatCommit.{read_then_write, read_then_write_acts}
use Rattle.copy_laws.proofs.CopyRuns.{carrying}

-- the records that stand at each node, in the order of time
abbrev pub standing_logs : DocumentData → List Act → NodeId → List Record
standing_logs d past = λ n. reverse (disklog d past n)

-- they are logs, in every past
pub standing-logs : (d : DocumentData) (past : List Act) → AreLogs d past (standing_logs d past)
standing-logs d past = record { each = λ n. standing refl }

-- ---- a run that commits

abbrev pub closed : List Act
closed = after [] read_then_write_acts

-- all premises of the claim hold together of its one transaction
pub kept-premises : AreLogs read_then_write closed (standing_logs read_then_write closed) ×
    (script_of 1 read_then_write.scripts ≡ Some copy_script) × (is_update copy_script.ops ≡ true) ×
    (is_finished closed 1 ≡ true) × (order read_then_write closed ≡ [] ++ (1, 1) ∷ [])
kept-premises = (standing-logs read_then_write closed, refl, refl, refl, refl)

-- the parts of the transaction are n1 and n2
one-or-two : (n : NodeId) → IsTrue (is_among n (1 ∷ 2 ∷ [])) → (1 ≡ n) ⊎ (2 ≡ n)
one-or-two n is = grind (arith, nat_tests)

-- so it is kept: the Decided at n1, and the Prepared at both parts with the writes of the script
pub transfer-kept : IsKept read_then_write closed (standing_logs read_then_write closed) copy_script
transfer-kept = record {
  final = 1;
  later = [];
  before = [];
  member = refl;
  decided = inl refl;
  prepared = λ n is. elim (one-or-two n is) [ inl same ↦ subst (λ m. P m) same refl | inr same ↦ subst (λ m. P m) same refl ];
}
  where
    P : NodeId → Type 0
    P m = writes_at (prepared_of 1 (reverse (standing_logs read_then_write closed m))) ≡ Some (writes_on read_then_write m copy_script (copy_of read_then_write []))

-- the very writes: `b` with 11 at n1, which holds it, and none at n2
pub kept-writes : (writes_at (prepared_of 1 (journal read_then_write closed 1)) ≡ Some ((b, 11) ∷ [])) ×
    (writes_on read_then_write 1 copy_script (copy_of read_then_write []) ≡ (b, 11) ∷ []) ×
    (writes_at (prepared_of 1 (journal read_then_write closed 2)) ≡ Some []) ×
    (writes_on read_then_write 2 copy_script (copy_of read_then_write []) ≡ [])
kept-writes = (refl, refl, refl, refl)

-- ---- a record in doubt

-- the transaction is decided and its client told, and n2 stops while it writes that it ended
abbrev pub doubtful : DocumentData
doubtful =
    record { cluster = two_nodes; scripts = copy_script ∷ []; items = item.Begin 1 ∷ item.Next 6 ∷ item.Deliver 8 ∷ [] }

abbrev pub doubtful_acts : List Act
doubtful_acts = asks ++ (votes ++ (decides ++ (act.Got 8 ∷ act.Down 2 (Some (head.Ended 1 (outcome.Commit 1))) ∷ [])))

-- it is a run
pub doubtful-run : IsRun doubtful doubtful.items doubtful_acts
doubtful-run = played-run doubtful all_open (usually (item.Begin 1 ∷ item.Next 6 ∷ []) ++ (item.Deliver 8, broken) ∷ []) refl

abbrev pub stopped : List Act
stopped = after [] doubtful_acts

-- the record in doubt
abbrev pub ending : Record
ending = record'.Ended 1 (outcome.Commit 1)

-- the logs where the disk of n2 has that record
abbrev pub doubtful_logs : NodeId → List Record
doubtful_logs =
    λ n. if 2 == n then reverse (ending ∷ disklog doubtful stopped n) else reverse (disklog doubtful stopped n)

-- they are logs
pub doubtful-logs : AreLogs doubtful stopped doubtful_logs
doubtful-logs = record {
  each = λ n. elim (cases_eq 2 n) [
    | inl same ↦ (let P : NodeId → Type 0 = λ m. IsLog doubtful stopped m (doubtful_logs m) in
        subst P same (in_doubt ending refl refl))
    | inr other ↦ (let apart : (2 == n) ≡ false = grind (arith, nat_tests) in
        let P : Bool → List Record = λ t.
        if t then reverse (ending ∷ disklog doubtful stopped n) else reverse (disklog doubtful stopped n) in
        standing (ap P apart))
  ];
}

-- the premises hold of these logs too
pub doubtful-premises : (is_finished stopped 1 ≡ true) × (order doubtful stopped ≡ [] ++ (1, 1) ∷ []) ×
    ((node doubtful stopped 2).up ≡ false)
doubtful-premises = (refl, refl, refl)

-- and the transaction is kept in them
pub doubtful-kept : IsKept doubtful stopped doubtful_logs copy_script
doubtful-kept = record {
  final = 1;
  later = [];
  before = [];
  member = refl;
  decided = inl refl;
  prepared = λ n is. elim (one-or-two n is) [ inl same ↦ subst (λ m. P m) same refl | inr same ↦ subst (λ m. P m) same refl ];
}
  where
    P : NodeId → Type 0
    P m = writes_at (prepared_of 1 (reverse (doubtful_logs m))) ≡ Some (writes_on doubtful m copy_script (copy_of doubtful []))

-- ---- what is refuted

-- the first value written, or 0
abbrev value_in : Option (List (Key × Value)) → Value
value_in (Some (x ∷ xs)) = x.1
value_in o = 0

-- a Prepared with another value than the script writes
pub other_write-refuted : (u : Value) → (u ≡ 5 → ⊥) → Kept equal_finals (carrying u u 7) → ⊥
other_write-refuted u other kept =
    let past : List Act = after [] (carrying u u 7) in
    let held : IsKept equal_finals past (standing_logs equal_finals past) (record { number = 1; home = 1; session = 0; ops = (op.Write b (record { first = atom.Number 5; steps = [] }) ∷ []) }) = kept (standing_logs equal_finals past) (standing-logs equal_finals past) (record { number = 1; home = 1; session = 0; ops = (op.Write b (record { first = atom.Number 5; steps = [] }) ∷ []) }) 1 refl refl refl in
    let e : Some ((b, u) ∷ []) ≡ Some ((b, 5) ∷ []) = held.prepared 1 refl in
    other (ap value_in e)

-- the acts of the run that commits, but for the Prepared of n2
abbrev pub unprepared_acts : List Act
unprepared_acts =
    asks
    ++ ((act.Got 3
    ∷ act.Prepared 1 1 1
    ∷ act.Sent 5 1 1 (message.Vote 1 (ballot.Yes 1))
    ∷ act.Got 4
    ∷ act.Sent 6 2 1 (message.Vote 1 (ballot.Yes 1))
    ∷ [])
    ++ (decides ++ (ends ++ closes)))

-- a part has no Prepared
pub unprepared-refuted : Kept read_then_write unprepared_acts → ⊥
unprepared-refuted kept =
    let past : List Act = after [] unprepared_acts in
    let held : IsKept read_then_write past (standing_logs read_then_write past) copy_script = kept (standing_logs read_then_write past) (standing-logs read_then_write past) copy_script 1 refl refl refl in
    none-some {A = List (Key × Value)} (writes_on read_then_write 2 copy_script (copy_of read_then_write held.before)) (held.prepared 2 refl)

-- the acts up to the votes, behind which the client is told where nothing was decided
abbrev pub undecided_acts : List Act
undecided_acts = asks ++ (votes ++ (act.Got 5 ∷ act.Got 6 ∷ act.Finished 1 ∷ []))

-- no decision: the transaction is not in the order
pub undecided-refuted : Kept read_then_write undecided_acts → ⊥
undecided-refuted kept =
    let past : List Act = after [] undecided_acts in
    let held : IsKept read_then_write past (standing_logs read_then_write past) copy_script = kept (standing_logs read_then_write past) (standing-logs read_then_write past) copy_script 1 refl refl refl in
    none held.later (held.final, 1) held.before held.member
  where
    none : (later : List (Ident × TxId)) (x : Ident × TxId) (before : List (Ident × TxId)) → [] ≡ later ++ x ∷ before
        → ⊥
    none [] x before e = cc
    none (y ∷ later) x before e = cc
