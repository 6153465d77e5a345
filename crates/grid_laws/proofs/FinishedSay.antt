-- What stands behind a client that was told: the decision of an update, or all values of a read-only transaction.
use Rattle.std.proofs.Common.{◌≡◌, ℕ, true, false, List, [], ◌∷◌, Some, None, inl, inr, refl, sym, ap, subst, ◌∙◌}
use Rattle.std.proofs.lemmas.Bool.{cases_eq, both_ways}
use Rattle.score_base.specs.declared.ids.TxId.{TxId}
use Rattle.score_base.specs.declared.ids.NodeId.{NodeId}
use Rattle.score_base.specs.declared.ids.Ident.{Ident}
use Rattle.score_base.specs.declared.ids.Value.{Value}
use Rattle.score_base.specs.declared.records.Record.{Record}
use Rattle.script_lang.specs.Scripts.{ScriptData}
use Rattle.script_lang.specs.Reads.{is_update}
use Rattle.grid_model.specs.declared.acts.Act.{Act}
use Rattle.grid_model.specs.declared.acts.Act.TheVariants as act
use Rattle.grid_model.specs.declared.acts.Head.TheVariants as head
use Rattle.grid_model.specs.declared.stories.Story.{Story}
use Rattle.grid_model.specs.Documents.{DocumentData}
use Rattle.grid_model.specs.Nodes.{script_of}
use Rattle.grid_model.specs.Stories.{first_sid, story}
use Rattle.script_runs.specs.Waits.{waiting}
use Rattle.grid_model.specs.Copies.{is_finished}
use Rattle.grid_model.specs.Facts.{IsDecided}
use Rattle.journal_words.specs.Journals.{has_decided}
use Rattle.grid_laws.proofs.MessagesBacked.{is_decided-more}
use Rattle.grid_laws.proofs.Frames.{same-number}
use Rattle.grid_laws.proofs.Causes.{AllDue, FinishedDue, RecordDue, by_decision, by_reads}
use Rattle.grid_laws.proofs.DueAnswers.{home-is, journal-decided}
use Rattle.grid_laws.proofs.FullStories.{Full, full-more}
use Rattle.grid_laws.proofs.OpenNotGivenUp.{given-either}

-- t is a decided update, or a read-only transaction with all its values
pub data FinishedSays (d : DocumentData) (past : List Act) (t : TxId) : Type 0 where
  by_update : (f : Ident) (s : ScriptData) → IsDecided d past t f → script_of t d.scripts ≡ Some s
      → is_update s.ops ≡ true → FinishedSays d past t
  by_reader : (n : NodeId) (s : ScriptData) (sid : Ident) (values : List (ℕ × Value)) → Full d past n t s sid values
      → is_update s.ops ≡ false → FinishedSays d past t

finished-more : (d : DocumentData) (past : List Act) (a : Act) (t : TxId) → AllDue d (a ∷ past) → FinishedSays d past t
    → FinishedSays d (a ∷ past) t
finished-more d past a t due (by_update f s w is u) = by_update f s (is_decided-more d past a t f w) is u
finished-more d past a t due (by_reader n s sid values full u) = by_reader n s sid values (full-more d past a n t s sid values due full) u

-- a Decided says so
decided-now : (d : DocumentData) (past : List Act) (n : NodeId) (t : TxId) (f : Ident)
    → RecordDue d past n (head.Decided t f) → FinishedSays d (act.Decided t f ∷ past) t
decided-now d past n t f due =
    let r = due.1 in
    let home = home-is d t n r.script r.at.script r.at.home in
    let P : List Record → Type 0 = λ x. has_decided t f x ≡ true in
    let t-self = same-number t in
    let f-self = same-number f in
    by_update f r.script (n, home, subst P (sym (journal-decided d past n t f home)) (rw (t-self, f-self) refl)) r.at.script r.update

finished-due : (d : DocumentData) (past : List Act) (t : TxId) → AllDue d past → FinishedDue d past t
    → FinishedSays d past t
finished-due d past t all (by_decision f before is) =
    let P : List Act → Type 0 = λ p. AllDue d p in
    let Q : List Act → Type 0 = λ p. FinishedSays d p t in
    let due = (subst P is all).0 in
    subst Q (sym is) (decided-now d before due.0 t f due.1)
finished-due d past t all (by_reads r) = by_reader r.n r.script (first_sid r.story.progress.sid r.story.progress.sid0) r.story.progress.values (record { story = r.story; at = r.at; ident = refl; told = refl; full = r.full }) r.reader

pub finished-say : (d : DocumentData) (past : List Act) → AllDue d past → (t : TxId) → is_finished past t ≡ true
    → FinishedSays d past t
finished-say d [] due t e = cc
finished-say d (act.Finished u ∷ past) due t e = finished-more d past (act.Finished u) t due (elim (cases_eq u t) [
  | inl same ↦ (let P : TxId → Type 0 = λ w. FinishedSays d past w in subst P same (finished-due d past u due.1 due.0))
  | inr other ↦ finished-say d past due.1 t (given-either u t (is_finished past t) e other)
])
finished-say d (a ∷ past) due t e = finished-more d past a t due (finished-say d past due.1 t e)

-- ---- by the script

one-script : (d : DocumentData) (t : TxId) (r s : ScriptData) → script_of t d.scripts ≡ Some r
    → script_of t d.scripts ≡ Some s → r ≡ s
one-script d t r s h k = cc

-- an update whose client was told is decided
pub finished-update : (d : DocumentData) (past : List Act) → AllDue d past → (s : ScriptData) (t : TxId)
    → script_of t d.scripts ≡ Some s → is_update s.ops ≡ true → is_finished past t ≡ true
    → (f : Ident) × IsDecided d past t f
finished-update d past all s t is update e = go (finished-say d past all t e)
  where
    go : FinishedSays d past t → (f : Ident) × IsDecided d past t f
    go (by_update f r w there u) = (f, w)
    go (by_reader n r sid values full u) = (let P : ScriptData → Type 0 = λ z. is_update z.ops ≡ false in absurd (both_ways (is_update s.ops) (subst P (one-script d t r s full.at.script is) u) update))

-- a read-only transaction whose client was told has all its values
pub finished-reader : (d : DocumentData) (past : List Act) → AllDue d past → (s : ScriptData) (t : TxId)
    → script_of t d.scripts ≡ Some s → is_update s.ops ≡ false → is_finished past t ≡ true
    → (x : Story) × (story d past t ≡ Some x) × (waiting s.ops x.progress.values ≡ None)
finished-reader d past all s t is reader e = go (finished-say d past all t e)
  where
    go : FinishedSays d past t → (x : Story) × (story d past t ≡ Some x) × (waiting s.ops x.progress.values ≡ None)
    go (by_update f r w there u) = (let P : ScriptData → Type 0 = λ z. is_update z.ops ≡ true in absurd (both_ways (is_update s.ops) reader (subst P (one-script d t r s there is) u)))
    go (by_reader n r sid values full u) =
        let P : ScriptData → Type 0 = λ z. waiting z.ops full.story.progress.values ≡ None in
        (full.story, full.at.story, subst P (one-script d t r s full.at.script is) (ap (waiting r.ops) full.told ∙ full.full))
