-- What a Prepare that was sent and a Prepared that stands say of their transaction.
use Rattle.std.proofs.Common.{◌≡◌, ℕ, inl, inr, true, List, [], ◌∷◌, Option, Some, None, refl, sym, ap, subst, ◌∙◌, arith}
use Rattle.std.proofs.lemmas.Bool.Decides.{nat_tests}
use Rattle.std.proofs.lemmas.Bool.{cases_eq}
use Rattle.score_base.specs.declared.ids.TxId.{TxId}
use Rattle.score_base.specs.declared.ids.NodeId.{NodeId}
use Rattle.score_base.specs.declared.ids.Ident.{Ident}
use Rattle.score_base.specs.declared.ids.Value.{Value}
use Rattle.score_base.specs.declared.keys.Key.{Key}
use Rattle.score_base.specs.declared.records.Record.{Record}
use Rattle.score_base.specs.declared.records.Record.TheVariants as record'
use Rattle.script_lang.specs.Scripts.{ScriptData}
use Rattle.script_lang.specs.Reads.{is_update}
use Rattle.placement.specs.Places.{is_among}
use Rattle.grid_model.specs.declared.acts.Act.{Act}
use Rattle.grid_model.specs.declared.acts.Head.{Head}
use Rattle.grid_model.specs.declared.acts.Head.TheVariants as head
use Rattle.grid_model.specs.declared.messages.Message.{Message}
use Rattle.grid_model.specs.declared.messages.Message.TheVariants as message
use Rattle.grid_model.specs.declared.messages.Prepare.{Prepare}
use Rattle.grid_model.specs.Documents.{DocumentData}
use Rattle.journal_words.specs.Journals.{Prepared, older, prepared_of}
use Rattle.grid_model.specs.Nodes.{got, node, parts_of, record_of}
use Rattle.grid_model.specs.Stories.{first_sid}
use Rattle.grid_model.specs.Views.{Open}
use Rattle.grid_model.specs.Advances.{prepare_for}
use Rattle.grid_laws.proofs.Causes.{AllDue, RecordDue}
use Rattle.grid_laws.proofs.MessageCauses.{SendDue, PrepareDue}
use Rattle.grid_laws.proofs.NodesFitActs.{prepared-is}
use Rattle.grid_laws.proofs.Holds.{got-hold, NodeHolds, records-hold, sent-hold}
use Rattle.grid_laws.proofs.FullStories.{Full, full-more}
use Rattle.grid_laws.proofs.NodesFit.{AllHold, HoldsIn}
use Rattle.grid_model.specs.Facts.{IsPrepareSent, PreparesAgree}
use Rattle.grid_model.specs.declared.stories.Story.{Story}

-- a transaction with this snapshot and these values
abbrev pub open_with : ScriptData → Ident → List (ℕ × Value) → Open
open_with s sid values =
    record { script = s; progress = record { sid0 = 0; sid = Some sid; values = values; votes = []; turn = 0 } }

-- the Prepare that n, the home of an update with all its values, sends to its part y
pub record PrepareSays (d : DocumentData) (past : List Act) (n y : NodeId) (q : Prepare) : Type 0 where
  pub script : ScriptData
  pub values : List (ℕ × Value)
  pub full : Full d past n q.t script q.sid values
  pub update : is_update script.ops ≡ true
  pub part : is_among y (parts_of d script) ≡ true
  pub is : q ≡ prepare_for d.cluster (open_with script q.sid values) y

pub prepare-more : (d : DocumentData) (past : List Act) (a : Act) (n y : NodeId) (q : Prepare) → AllDue d (a ∷ past)
    → PrepareSays d past n y q → PrepareSays d (a ∷ past) n y q
prepare-more d past a n y q due s = record { script = s.script; values = s.values; full = full-more d past a n q.t s.script q.sid s.values due s.full; update = s.update; part = s.part; is = s.is }

prepare-due : (d : DocumentData) (past : List Act) (n y : NodeId) (q : Prepare) → PrepareDue d past n y q
    → PrepareSays d past n y q
prepare-due d past n y q due =
    let sid : q.sid ≡ first_sid due.story.progress.sid due.story.progress.sid0 = ap (λ (z : Prepare). z.sid) due.is in
    let P : Ident → Type 0 = λ i. q ≡ prepare_for d.cluster (open_with due.script i due.story.progress.values) y in
    record {
      script = due.script;
      values = due.story.progress.values;
      full = record { story = due.story; at = due.at; ident = sym sid; told = refl; full = due.full };
      update = due.update;
      part = due.part;
      is = subst P (sym sid) due.is;
    }

abbrev Prepares : DocumentData → List Act → NodeId → NodeId → Message → Type 0
Prepares d past n y (message.Prepare q) = PrepareSays d past n y q
Prepares d past n y said = Unit {0}

prepares-more : (d : DocumentData) (past : List Act) (a : Act) (n y : NodeId) (said : Message) → AllDue d (a ∷ past)
    → Prepares d past n y said → Prepares d (a ∷ past) n y said
prepares-more d past a n y (message.Prepare q) due s = prepare-more d past a n y q due s
prepares-more d past a n y said due s = tt

prepares-due : (d : DocumentData) (past : List Act) (n y : NodeId) (said : Message) → AllDue d past
    → SendDue d past n y said → Prepares d past n y said
prepares-due d past n y (message.Prepare q) all due = prepare-due d past n y q due
prepares-due d past n y said all due = tt

-- the Prepare that was got last
pub prepare-got : (d : DocumentData) (past : List Act) (n x : NodeId) (q : Prepare) → AllDue d past
    → got past ≡ Some (record { from = x; to = n; message = message.Prepare q }) → PrepareSays d past x n q
prepare-got d past n x q due is = got-hold (Prepares d) d past (λ now a m y said all h. prepares-more d now a m y said all h) (λ now m y said all h. prepares-due d now m y said all h) due (record { from = x; to = n; message = message.Prepare q }) is

-- a Prepare that was sent
prepare-sent : (d : DocumentData) (past : List Act) (m : ℕ) (x n : NodeId) (q : Prepare) →
    AllDue d past → IsPrepareSent past m x n q → PrepareSays d past x n q
prepare-sent d past m x n q due is =
    sent-hold (Prepares d) d past
    (λ now a k y said all h. prepares-more d now a k y said all h)
    (λ now k y said all h. prepares-due d now k y said all h)
    due m (record { from = x; to = n; message = message.Prepare q }) is

-- ---- all Prepares of a transaction to one node

say-same : (d : DocumentData) (past : List Act) (x y n : NodeId) (q p : Prepare) →
    PrepareSays d past x n q → PrepareSays d past y n p → q.t ≡ p.t → (x ≡ y) × (q ≡ p)
say-same d past x y n q p a b same =
    let P : TxId → Type 0 = λ t. Full d past x t a.script q.sid a.values in
    let f : Full d past x p.t a.script q.sid a.values = subst P same a.full in
    let g : Full d past y p.t b.script p.sid b.values = b.full in
    let scripts : a.script ≡ b.script = one-script a.script b.script (sym f.at.script ∙ g.at.script) in
    let stories : f.story ≡ g.story = one-story f.story g.story (sym f.at.story ∙ g.at.story) in
    let values : a.values ≡ b.values = sym f.told ∙ ap (λ (z : Story). z.progress.values) stories ∙ g.told in
    let idents : q.sid ≡ p.sid = sym f.ident ∙ ap (λ (z : Story). first_sid z.progress.sid z.progress.sid0) stories ∙ g.ident in
    let homes : x ≡ y = sym f.at.home ∙ ap (λ (z : ScriptData). z.home) scripts ∙ g.at.home in (
      homes,
      a.is
          ∙ ap (λ s. prepare_for d.cluster (open_with s q.sid a.values) n) scripts
          ∙ ap (λ i. prepare_for d.cluster (open_with b.script i a.values) n) idents
          ∙ ap (λ vs. prepare_for d.cluster (open_with b.script p.sid vs) n) values
          ∙ sym b.is,
    )
  where
    one-script : (v w : ScriptData) → Some v ≡ Some w → v ≡ w
    one-script v w e = cc

    one-story : (v w : Story) → Some v ≡ Some w → v ≡ w
    one-story v w e = cc

pub prepares-agree : (d : DocumentData) (past : List Act) → AllDue d past → PreparesAgree past
prepares-agree d past due m k x y n q p a b same =
    say-same d past x y n q p (prepare-sent d past m x n q due a) (prepare-sent d past k y n p due b) same

-- ---- the records

-- a Prepared of n stands behind a Prepare of the home
pub record PreparedBehind (d : DocumentData) (past : List Act) (n : NodeId) (y : Record) (u : TxId) (home : NodeId)
    (i p : Ident) : Type 0 where
  pub prepare : Prepare
  pub says : PrepareSays d past home n prepare
  pub t : u ≡ prepare.t
  pub sid : i ≡ prepare.sid
  pub is : y ≡ record'.Prepared prepare.t home prepare.parts prepare.sid p prepare.reads prepare.writes

abbrev pub PreparedSays : DocumentData → List Act → NodeId → Record → Type 0
PreparedSays d past n (record'.Prepared t home parts sid p reads writes) =
    PreparedBehind d past n (record'.Prepared t home parts sid p reads writes) t home sid p
PreparedSays d past n y = Unit {0}

prepared-more : (d : DocumentData) (past : List Act) (a : Act) (n : NodeId) (y : Record) → AllDue d (a ∷ past)
    → PreparedSays d past n y → PreparedSays d (a ∷ past) n y
prepared-more d past a n (record'.Prepared t home parts sid p reads writes) due s = record { prepare = s.prepare; says = prepare-more d past a home n s.prepare due s.says; t = s.t; sid = s.sid; is = s.is }
prepared-more d past a n y due s = tt

prepared-due : (d : DocumentData) (past : List Act) (n : NodeId) (h : Head) → AllDue d past → RecordDue d past n h
    → HoldsIn (PreparedSays d past n) (record_of d (got past) h)
prepared-due d past n (head.Prepared t p) all due =
    let q : Prepare = due.1.asked.prepare in
    let says : PrepareSays d past due.1.from n q = prepare-got d past n due.1.from q all due.1.asked.got in
    let P : Option Record → Type 0 = λ o. HoldsIn (PreparedSays d past n) o in
    let Q : TxId → Type 0 = λ u. record'.Prepared t due.1.from q.parts q.sid p q.reads q.writes ≡ record'.Prepared u due.1.from q.parts q.sid p q.reads q.writes in
    subst P (sym (prepared-is d past n t p due.1)) (record { prepare = q; says = says; t = due.1.asked.is; sid = refl; is = subst Q due.1.asked.is refl })
prepared-due d past n h all due = tt

-- each Prepared that stands, or is in doubt
pub prepared-say : (d : DocumentData) (past : List Act) → AllDue d past → (n : NodeId)
    → NodeHolds (PreparedSays d past n) (node d past n)
prepared-say d past due n = records-hold (PreparedSays d) d past (λ now a k y all h. prepared-more d now a k y all h) (λ now k h all r. prepared-due d now k h all r) due n

-- the first Prepared of t
pub record FirstPrepared (d : DocumentData) (past : List Act) (n : NodeId) (u : TxId) (x : Prepared) : Type 0 where
  pub prepare : Prepare
  pub says : PrepareSays d past x.home n prepare
  pub t : u ≡ prepare.t
  pub sid : x.sid ≡ prepare.sid

first-by : (d : DocumentData) (past : List Act) (n : NodeId) (t u : TxId) (home : NodeId) (parts : List NodeId)
    (sid p : Ident) (reads : List Key) (writes : List (Key × Value)) (o : Option Prepared) (x : Prepared) → u ≡ t
    → PreparedSays d past n (record'.Prepared u home parts sid p reads writes)
    → older o (record { home = home; sid = sid; proposal = p; reads = reads; writes = writes }) ≡ Some x
    → (o ≡ Some x → FirstPrepared d past n t x) → FirstPrepared d past n t x
first-by d past n t u home parts sid p reads writes (Some y) x same s e go = go e
first-by d past n t u home parts sid p reads writes None x same s e go =
    let z : record { home = home; sid = sid; proposal = p; reads = reads; writes = writes } ≡ x = cc in
    let P : Prepared → Type 0 = λ w. FirstPrepared d past n t w in
    subst P z (record { prepare = s.prepare; says = s.says; t = sym same ∙ s.t; sid = s.sid })

pub first-prepared : (d : DocumentData) (past : List Act) (n : NodeId) (t : TxId) (x : Prepared) (r : List Record)
    → AllHold (PreparedSays d past n) r → prepared_of t r ≡ Some x → FirstPrepared d past n t x
first-prepared d past n t x [] all e = cc
first-prepared d past n t x (record'.Prepared u home parts sid p reads writes ∷ r) all e = elim (cases_eq u t) [
  | inl same ↦ first-by d past n t u home parts sid p reads writes (prepared_of t r) x same all.0 (grind (arith, nat_tests, e)) (λ f. first-prepared d past n t x r all.1 f)
  | inr other ↦ first-prepared d past n t x r all.1 (grind (arith, nat_tests, e))
]
first-prepared d past n t x (record'.Ended u o ∷ r) all e = first-prepared d past n t x r all.1 e
first-prepared d past n t x (record'.Ceiling c ∷ r) all e = first-prepared d past n t x r all.1 e
first-prepared d past n t x (record'.Decided u f parts ∷ r) all e = first-prepared d past n t x r all.1 e
first-prepared d past n t x (record'.Closed u ∷ r) all e = first-prepared d past n t x r all.1 e
