-- What a node served it gives at that identifier ever after.
use Rattle.std.proofs.Common.{◌≡◌, ℕ, ◌⊎◌, inl, inr, true, false, List, [], ◌∷◌, ◌++◌, Option, Some, None, refl, sym, ap, subst, ◌∙◌}
use Rattle.score_base.specs.declared.ids.TxId.{TxId}
use Rattle.score_base.specs.declared.ids.NodeId.{NodeId}
use Rattle.score_base.specs.declared.ids.Ident.{Ident}
use Rattle.score_base.specs.declared.ids.Value.{Value}
use Rattle.score_base.specs.declared.keys.Key.{Key}
use Rattle.score_base.specs.declared.records.Record.{Record}
use Rattle.grid_model.specs.declared.acts.Act.{Act}
use Rattle.grid_model.specs.declared.acts.Act.TheVariants as act
use Rattle.journal_words.specs.declared.versions.Version.{Version}
use Rattle.grid_model.specs.Documents.{DocumentData}
use Rattle.journal_words.specs.Journals.{all_fit, is_clear}
use Rattle.grid_model.specs.Nodes.{got, node, journal, Node, Change, Nothing, Writes, Raises, Holds, Frees, Stops, Starts, Stays, change, changed, found}
use Rattle.grid_model.specs.Rows.{version_for}
use Rattle.journal_words.proofs.Readable.{version-stays}
use Rattle.grid_laws.proofs.Causes.{AllDue}
use Rattle.grid_laws.proofs.Frames.{journal-stays}
use Rattle.grid_laws.proofs.NodesFitActs.{nodes-fit}
use Rattle.grid_laws.proofs.Promises.{served-promised, due-behind}

-- ---- an act adds at most one record

abbrev IsStep : List Record → List Record → Type 0
IsStep r s = (s ≡ r) ⊎ ((y : Record) × (s ≡ y ∷ r))

changed-step : (c : Change) (x : Node) → IsStep x.journal (changed c x).journal
changed-step Nothing x = inl refl
changed-step (Writes None) x = inl refl
changed-step (Writes (Some y)) x = inr (y, refl)
changed-step (Raises sid) x = inl refl
changed-step (Holds o) x = inl refl
changed-step (Frees t op k sid) x = inl refl
changed-step (Stops o) x = inl refl
changed-step (Starts false) x = inl refl
changed-step (Starts true) x = go x.doubt
  where
    go : (o : Option Record) → IsStep x.journal (found true o x.journal)
    go None = inl refl
    go (Some y) = inr (y, refl)
changed-step Stays x = inl refl

journal-step : (d : DocumentData) (past : List Act) (a : Act) (n : NodeId)
    → IsStep (journal d past n) (journal d (a ∷ past) n)
journal-step d past a n = changed-step (change d (got past) a n) (node d past n)

-- ---- versions below every pending proposal stay

version-next : (d : DocumentData) (n : NodeId) (k : Key) (sid : Ident) (r s : List Record)
    → all_fit d.cluster n s ≡ true → is_clear sid r ≡ true → IsStep r s
    → version_for d.cluster s k sid ≡ version_for d.cluster r k sid
version-next d n k sid r s fit clear (inl same) = ap (λ q. version_for d.cluster q k sid) same
version-next d n k sid r s fit clear (inr more) =
    let P : List Record → Type 0 = λ q. all_fit d.cluster n q ≡ true in
    ap (λ q. version_for d.cluster q k sid) more.1 ∙ version-stays d.cluster n k _ sid more.0 r (subst P more.1 fit) clear

version-more : (d : DocumentData) (past : List Act) (a : Act) (n : NodeId) (k : Key) (sid : Ident) → AllDue d (a ∷ past)
    → is_clear sid (journal d past n) ≡ true
    → version_for d.cluster (journal d (a ∷ past) n) k sid ≡ version_for d.cluster (journal d past n) k sid
version-more d past a n k sid due clear = version-next d n k sid (journal d past n) (journal d (a ∷ past) n) (nodes-fit d (a ∷ past) due n).fits clear (journal-step d past a n)

-- ---- what was served

version-later : (d : DocumentData) (n : NodeId) (t : TxId) (j : ℕ) (k : Key) (sid vn : Ident) (v : Value)
    (later before : List Act) → AllDue d (later ++ act.Served n t j k sid vn v ∷ before)
    → version_for d.cluster (journal d (later ++ act.Served n t j k sid vn v ∷ before) n) k sid
    ≡ version_for d.cluster (journal d before n) k sid
version-later d n t j k sid vn v [] before due = ap (λ r. version_for d.cluster r k sid) (journal-stays d before (act.Served n t j k sid vn v) n refl)
version-later d n t j k sid vn v (a ∷ later) before due =
    version-more d (later ++ act.Served n t j k sid vn v ∷ before) a n k sid due ((served-promised d (later ++ act.Served n t j k sid vn v ∷ before) due.1 n t j k sid vn v later before refl).clear false)
    ∙ version-later d n t j k sid vn v later before due.1

-- the version that was served, at its node
pub record IsStable (d : DocumentData) (past : List Act) (n : NodeId) (k : Key) (sid vn : Ident) (v : Value) : Type 0
  where
    pub ident : (version_for d.cluster (journal d past n) k sid).ident ≡ vn
    pub value : (version_for d.cluster (journal d past n) k sid).value ≡ v

-- what was served stays the version at its node
pub served-stable : (d : DocumentData) (past : List Act) (n : NodeId) (t : TxId) (j : ℕ) (k : Key) (sid vn : Ident)
    (v : Value) (later before : List Act) → AllDue d past → past ≡ later ++ act.Served n t j k sid vn v ∷ before
    → IsStable d past n k sid vn v
served-stable d past n t j k sid vn v later before due is =
    let P : List Act → Type 0 = λ p. AllDue d p in
    let Q : List Act → Type 0 = λ p. IsStable d p n k sid vn v in
    let all : AllDue d (later ++ act.Served n t j k sid vn v ∷ before) = subst P is due in
    let here : AllDue d (act.Served n t j k sid vn v ∷ before) = due-behind d later (act.Served n t j k sid vn v ∷ before) all in
    let same : version_for d.cluster (journal d (later ++ act.Served n t j k sid vn v ∷ before) n) k sid ≡ version_for d.cluster (journal d before n) k sid = version-later d n t j k sid vn v later before all in
    subst Q (sym is) (record { ident = ap (λ (w : Version). w.ident) same ∙ sym here.0.1.ident; value = ap (λ (w : Version). w.value) same ∙ sym here.0.1.value })
