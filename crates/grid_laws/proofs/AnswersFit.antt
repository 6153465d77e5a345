-- Votes, acknowledgements and outcomes that were sent are fit where they are got, but for the size of their
-- identifiers.
use Rattle.std.proofs.Common.{◌≡◌, ℕ, ◌≤◌, ◌<◌, true, List, Option, Some, None, refl, sym, ap, subst, arith, false}
use Rattle.std.proofs.lemmas.Bool.Decides.{nat_tests}
use Rattle.std.specs.Prelude.{nat_le}
use Rattle.score_base.specs.declared.ids.TxId.{TxId}
use Rattle.score_base.specs.declared.ids.NodeId.{NodeId}
use Rattle.score_base.specs.declared.ids.Ident.{Ident}
use Rattle.score_base.specs.declared.causes.Ballot.{Ballot}
use Rattle.score_base.specs.declared.causes.Ballot.TheVariants as ballot
use Rattle.score_base.specs.declared.causes.Outcome.{Outcome}
use Rattle.score_base.specs.declared.causes.Outcome.TheVariants as outcome
use Rattle.script_lang.specs.Scripts.{ScriptData}
use Rattle.placement.specs.Places.{is_among}
use Rattle.grid_model.specs.declared.acts.Act.{Act}
use Rattle.grid_model.specs.declared.messages.Message.{Message}
use Rattle.grid_model.specs.declared.messages.Message.TheVariants as message
use Rattle.grid_model.specs.declared.messages.Prepare.{Prepare}
use Rattle.grid_model.specs.Documents.{DocumentData}
use Rattle.grid_model.specs.Histories.{sent, sent_at}
use Rattle.journal_words.specs.Journals.{Prepared, ended, is_commit, pending, prepared_of}
use Rattle.grid_model.specs.Nodes.{journal, node, parts_in, parts_of}
use Rattle.grid_model.specs.Views.{Open, Stage, Apart, Reads, Collects, Commits, stage, view}
use Rattle.grid_model.specs.Facts.{IsDecided, parts_at}
use Rattle.grid_model.specs.Fitness.{is_at_least, is_part_at}
use Rattle.journal_words.proofs.Once.{pending-prepared, ended-prepared}
use Rattle.journal_words.proofs.Stands.{has_prepared-says, prepared-once, prepared-sound}
use Rattle.grid_laws.proofs.Causes.{AllDue, SendDue, Asked}
use Rattle.grid_laws.proofs.Stages.{opens-collects, stage-commits}
use Rattle.grid_laws.proofs.NodesFitActs.{decision-home, nodes-fit, undone-decision}
use Rattle.grid_laws.proofs.MessagesBacked.{pending-has}
use Rattle.grid_laws.proofs.Holds.{sent-hold}
use Rattle.grid_laws.proofs.PreparesSay.{PrepareSays, prepare-got, prepared-say, first-prepared}
use Rattle.grid_laws.proofs.VotesBacked.{says-sent}
use Rattle.grid_laws.proofs.DecisionsRest.{decisions-rest}

-- ---- who votes and acknowledges is a part

-- the receiver of a Prepare of t is a part of t
says-part : (d : DocumentData) (past : List Act) (x n : NodeId) (t : TxId) (q : Prepare) → t ≡ q.t
    → PrepareSays d past x n q → is_among n (parts_at d t) ≡ true
says-part d past x n t q same s =
    let P : TxId → Type 0 = λ u. is_among n (parts_at d u) ≡ true in
    let is : parts_at d q.t ≡ parts_of d s.script = ap (parts_in d) s.full.at.script in
    subst P (sym same) (rw is s.part)

asked-part : (d : DocumentData) (past : List Act) (n x : NodeId) (t : TxId) → AllDue d past → Asked d past n x t
    → is_among n (parts_at d t) ≡ true
asked-part d past n x t all a = says-part d past x n t a.prepare a.is (prepare-got d past n x a.prepare all a.got)

-- a node with a Prepared of t is a part of t
pub prepared-part : (d : DocumentData) (past : List Act) (n : NodeId) (t : TxId) (x : Prepared) → AllDue d past
    → prepared_of t (journal d past n) ≡ Some x → is_among n (parts_at d t) ≡ true
prepared-part d past n t x all e =
    let f = first-prepared d past n t x (journal d past n) (prepared-say d past all n).journal e in
    says-part d past x.home n t f.prepare f.t f.says

ended-part : (d : DocumentData) (past : List Act) (n : NodeId) (t : TxId) (o : Option Outcome) → AllDue d past
    → ended t (journal d past n) ≡ o → is_commit o ≡ true → is_among n (parts_at d t) ≡ true
ended-part d past n t None all e c = cc
ended-part d past n t (Some o) all e c = let x = ended-prepared d.cluster n t o (journal d past n) (nodes-fit d past all n).fits e in prepared-part d past n t x.0 all x.1

-- a vote or an acknowledgement of n on t: n is a part of t
abbrev AnswersOfParts : DocumentData → NodeId → Message → Type 0
AnswersOfParts d n (message.Vote t b) = is_among n (parts_at d t) ≡ true
AnswersOfParts d n (message.Ack t) = is_among n (parts_at d t) ≡ true
AnswersOfParts d n said = Unit {0}

answers-due : (d : DocumentData) (past : List Act) (n y : NodeId) (said : Message) → AllDue d past
    → SendDue d past n y said → AnswersOfParts d n said
answers-due d past n y (message.Vote t (ballot.Yes p)) all due = asked-part d past n y t all due.0
answers-due d past n y (message.Vote t (ballot.No why)) all due = asked-part d past n y t all due.0
answers-due d past n y (message.Ack t) all due = ended-part d past n t (ended t (journal d past n)) all refl due.0
answers-due d past n y said all due = tt

answers-sent : (d : DocumentData) (past : List Act) → AllDue d past → (m : ℕ) (x n : NodeId) (said : Message)
    → sent_at m (sent past) ≡ Some (record { from = x; to = n; message = said }) → AnswersOfParts d x said
answers-sent d past due m x n said is = sent-hold (λ now k y a. AnswersOfParts d k a) d past (λ now a k y s all h. h) (λ now k y s all h. answers-due d now k y s all h) due m (record { from = x; to = n; message = said }) is

pub vote-part : (d : DocumentData) (past : List Act) → AllDue d past → (m : ℕ) (x n : NodeId) (t : TxId) (b : Ballot)
    → sent_at m (sent past) ≡ Some (record { from = x; to = n; message = message.Vote t b })
    → is_among x (parts_at d t) ≡ true
vote-part d past due m x n t b is = answers-sent d past due m x n (message.Vote t b) is

pub ack-part : (d : DocumentData) (past : List Act) → AllDue d past → (m : ℕ) (x n : NodeId) (t : TxId)
    → sent_at m (sent past) ≡ Some (record { from = x; to = n; message = message.Ack t })
    → is_among x (parts_at d t) ≡ true
ack-part d past due m x n t is = answers-sent d past due m x n (message.Ack t) is

-- ---- where it is got

-- a part is one where the transaction is collecting or decided
pub part-there : (d : DocumentData) (past : List Act) (n x : NodeId) (t : TxId) → AllDue d past
    → is_among x (parts_at d t) ≡ true → is_part_at d.cluster (stage (view d past n) t) x ≡ true
part-there d past n x t all part = go (stage (view d past n) t) refl
  where
    go : (s : Stage) → stage (view d past n) t ≡ s → is_part_at d.cluster s x ≡ true
    go Apart e = refl
    go (Reads o j) e = refl
    go (Collects o) e =
        let h = opens-collects d past n t o e in
        let is : o.script ≡ h.script = ap (λ (z : Open). z.script) h.is in
        let P : ScriptData → Type 0 = λ s. is_among x (parts_of d s) ≡ true in
        let parts : parts_at d t ≡ parts_of d h.script = ap (parts_in d) h.at.script in
        subst P (sym is) (rw parts at part)
    go (Commits y acks) e =
        let here = decision-home d n t y (node d past n).journal (nodes-fit d past all n).homes (undone-decision t y (node d past n).journal (stage-commits d past n t y acks e)) in
        let Q : List NodeId → Type 0 = λ ns. is_among x ns ≡ true in
        subst Q (sym here.parts) part

-- a vote that was sent comes from a part
pub vote-fit : (d : DocumentData) (past : List Act) → AllDue d past → (m : ℕ) (x n : NodeId) (t : TxId) (b : Ballot)
    → sent_at m (sent past) ≡ Some (record { from = x; to = n; message = message.Vote t b })
    → is_part_at d.cluster (stage (view d past n) t) x ≡ true
vote-fit d past due m x n t b is = part-there d past n x t due (vote-part d past due m x n t b is)

-- and so does an acknowledgement
pub ack-fit : (d : DocumentData) (past : List Act) → AllDue d past → (m : ℕ) (x n : NodeId) (t : TxId)
    → sent_at m (sent past) ≡ Some (record { from = x; to = n; message = message.Ack t })
    → is_part_at d.cluster (stage (view d past n) t) x ≡ true
ack-fit d past due m x n t is = part-there d past n x t due (ack-part d past due m x n t is)

-- the proposal of a yes is at least 1
pub vote-least : (d : DocumentData) (past : List Act) → AllDue d past → (m : ℕ) (x n : NodeId) (t : TxId) (p : Ident)
    → sent_at m (sent past) ≡ Some (record { from = x; to = n; message = message.Vote t (ballot.Yes p) })
    → nat_le 1 p ≡ true
vote-least d past due m x n t p is =
    let fit = (nodes-fit d past due x).fits in
    let w = has_prepared-says d.cluster x t p (journal d past x) fit (says-sent d past due m (record { from = x; to = n; message = message.Vote t (ballot.Yes p) }) is) in
    let fresh : w.0.sid < w.0.proposal = (prepared-sound d.cluster x t w.0 (journal d past x) fit w.1).fresh in
    let same : w.0.proposal ≡ p = w.2 in
    grind (arith, nat_tests, fresh, same)

-- ---- outcomes

-- a final identifier that was decided is at least each proposal that is pending
pub decided-least : (d : DocumentData) (past : List Act) (n : NodeId) (t : TxId) (f : Ident) → AllDue d past
    → IsDecided d past t f → is_at_least (pending t (journal d past n)) f ≡ true
decided-least d past n t f all w = go (pending t (journal d past n)) refl
  where
    go : (o : Option Ident) → pending t (journal d past n) ≡ o → is_at_least o f ≡ true
    go None e = refl
    go (Some p) e =
        let fit = (nodes-fit d past all n).fits in
        let x = pending-prepared t p (journal d past n) e in
        let found = (decisions-rest d past all false w.0 t f w.2).1.each n (prepared-part d past n t x.0 all x.1) in
        let same : found.0 ≡ p = prepared-once d.cluster n t found.0 p (journal d past n) fit found.1 (pending-has t p (journal d past n) e) in
        let le : found.0 ≤ f = found.2 in
        grind (arith, nat_tests, same, le)

-- a commit that was sent has a final identifier of at least the proposal where it is got
pub commit-fit : (d : DocumentData) (past : List Act) → AllDue d past → (m : ℕ) (x n : NodeId) (t : TxId) (f : Ident)
    → sent_at m (sent past) ≡ Some (record { from = x; to = n; message = message.Tell t (outcome.Commit f) })
    → is_at_least (pending t (journal d past n)) f ≡ true
commit-fit d past due m x n t f is = decided-least d past n t f due (says-sent d past due m (record { from = x; to = n; message = message.Tell t (outcome.Commit f) }) is)
