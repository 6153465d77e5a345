-- Each message that was sent is backed by a record or an act.
use Rattle.std.proofs.Common.{◌≡◌, ℕ, Bool, true, false, List, [], ◌∷◌, Option, Some, None, refl, sym, subst, ◌∙◌, arith}
use Rattle.std.proofs.lemmas.Bool.Decides.{nat_tests}
use Rattle.std.proofs.lemmas.Bool.{or_right}
use Rattle.std.specs.Prelude.{◌==◌, ◌&&◌}
use Rattle.score_base.specs.declared.ids.TxId.{TxId}
use Rattle.score_base.specs.declared.ids.NodeId.{NodeId}
use Rattle.score_base.specs.declared.ids.Ident.{Ident}
use Rattle.score_base.specs.declared.ids.Value.{Value}
use Rattle.score_base.specs.declared.keys.Key.{Key}
use Rattle.score_base.specs.declared.causes.Ballot.TheVariants as ballot
use Rattle.score_base.specs.declared.causes.Cause.{Cause}
use Rattle.score_base.specs.declared.causes.Cause.TheVariants as cause
use Rattle.score_base.specs.declared.causes.Outcome.TheVariants as outcome
use Rattle.score_base.specs.declared.records.Record.{Record}
use Rattle.score_base.specs.declared.records.Record.TheVariants as record'
use Rattle.grid_model.specs.declared.acts.Act.{Act}
use Rattle.grid_model.specs.declared.acts.Act.TheVariants as act
use Rattle.grid_model.specs.declared.acts.Head.{Head}
use Rattle.grid_model.specs.declared.acts.Head.TheVariants as head
use Rattle.grid_model.specs.declared.messages.Envelope.{Envelope}
use Rattle.grid_model.specs.declared.messages.Message.{Message}
use Rattle.grid_model.specs.declared.messages.Message.TheVariants as message
use Rattle.grid_model.specs.Documents.{DocumentData}
use Rattle.journal_words.specs.Journals.{decision, ended, pending, has_prepared, has_decided, has_commit}
use Rattle.grid_model.specs.Nodes.{got, node, journal, found, record_of}
use Rattle.grid_model.specs.Acts.{EachSent, has_refused, is_same_cause}
use Rattle.grid_model.specs.Facts.{IsDecided, has_served, Says, MessagesBacked, SaysIn, records_at}
use Rattle.grid_laws.proofs.MessageCauses.{SendDue}
use Rattle.grid_laws.proofs.Causes.{AllDue, RecordDue, CommitDue, by_home, by_part}
use Rattle.grid_laws.proofs.Holds.{BothHold, both-hold, ended-holds}
use Rattle.grid_laws.proofs.Frames.{same-number}
use Rattle.grid_model.proofs.Growing.{journal-more}
use Rattle.script_lang.proofs.KeyLists.{same_key-self}
use Rattle.journal_words.proofs.Decisions.{has_decided-grows, decision-has}
use Rattle.journal_words.proofs.Stands.{has_prepared-grows, has_commit-grows, has_commit-is}
use Rattle.grid_laws.proofs.NodesFit.{IsFitNode, AllHold, HoldsIn}
use Rattle.grid_laws.proofs.NodesFitActs.{prepared-is, decision-home, undone-decision, nodes-fit}

-- ---- what was backed stays backed

pub has_refused-more : (n : NodeId) (t : TxId) (why : Cause) (a : Act) (past : List Act)
    → has_refused n t why past ≡ true → has_refused n t why (a ∷ past) ≡ true
has_refused-more n t why (act.Refused m u other) past h = or_right (m == n && (u == t && is_same_cause why other)) (has_refused n t why past) h
has_refused-more n t why a past h = h

pub has_served-more : (n : NodeId) (t : TxId) (j : ℕ) (sid : Ident) (v : Value) (a : Act) (past : List Act)
    → has_served n t j sid v past ≡ true → has_served n t j sid v (a ∷ past) ≡ true
has_served-more n t j sid v (act.Served m u i k s vn w) past h = or_right (m == n && (u == t && (i == j && (s == sid && w == v)))) (has_served n t j sid v past) h
has_served-more n t j sid v a past h = h

pub prepared-more : (d : DocumentData) (past : List Act) (a : Act) (n : NodeId) (t : TxId) (p : Ident)
    → has_prepared t p (journal d past n) ≡ true → has_prepared t p (journal d (a ∷ past) n) ≡ true
prepared-more d past a n t p h = journal-more (λ r. has_prepared t p r ≡ true) (λ y r i. has_prepared-grows t p y r i) d past a n h

pub commit-more : (d : DocumentData) (past : List Act) (a : Act) (n : NodeId) (t : TxId)
    → has_commit t (journal d past n) ≡ true → has_commit t (journal d (a ∷ past) n) ≡ true
commit-more d past a n t h = journal-more (λ r. has_commit t r ≡ true) (λ y r i. has_commit-grows t y r i) d past a n h

pub decided-more : (d : DocumentData) (past : List Act) (a : Act) (n : NodeId) (t : TxId) (f : Ident)
    → has_decided t f (journal d past n) ≡ true → has_decided t f (journal d (a ∷ past) n) ≡ true
decided-more d past a n t f h = journal-more (λ r. has_decided t f r ≡ true) (λ y r i. has_decided-grows t f y r i) d past a n h

pub says-more : (d : DocumentData) (past : List Act) (a : Act) (n : NodeId) (said : Message) → Says d past n said
    → Says d (a ∷ past) n said
says-more d past a n (message.Vote t (ballot.Yes p)) h = prepared-more d past a n t p h
says-more d past a n (message.Vote t (ballot.No why)) h = has_refused-more n t why a past h
says-more d past a n (message.Tell t (outcome.Commit f)) h = (h.0, h.1, decided-more d past a h.0 t f h.2)
says-more d past a n (message.Tell t outcome.Abort) h = tt
says-more d past a n (message.Ack t) h = commit-more d past a n t h
says-more d past a n (message.ReadRep q) h = has_served-more n q.t q.op q.sid q.value a past h
says-more d past a n said h = tt

-- ---- what is sent is backed

pub pending-has : (t : TxId) (p : Ident) (r : List Record) → pending t r ≡ Some p → has_prepared t p r ≡ true
pending-has t p [] h = cc
pending-has t p (record'.Prepared u home parts sid q reads writes ∷ r) h = grind (arith, nat_tests, h, pending-has t p r)
pending-has t p (record'.Ended u o ∷ r) h = grind (arith, nat_tests, h, pending-has t p r)
pending-has t p (record'.Ceiling c ∷ r) h = pending-has t p r h
pending-has t p (record'.Decided u f parts ∷ r) h = pending-has t p r h
pending-has t p (record'.Closed u ∷ r) h = pending-has t p r h

same-cause : (why : Cause) → is_same_cause why why ≡ true
same-cause (cause.Holder u) = same-number u
same-cause (cause.Newer k f) = rw (same_key-self k, same-number f) refl

refused-now : (n : NodeId) (t : TxId) (why : Cause) (past : List Act)
    → has_refused n t why (act.Refused n t why ∷ past) ≡ true
refused-now n t why past = rw (same-number n, same-number t, same-cause why) refl

served-now : (n : NodeId) (t : TxId) (j : ℕ) (k : Key) (sid vn : Ident) (v : Value) (past : List Act)
    → has_served n t j sid v (act.Served n t j k sid vn v ∷ past) ≡ true
served-now n t j k sid vn v past = rw (same-number n, same-number t, same-number j, same-number sid, same-number v) refl

-- ---- a commit that was told or ended was decided

-- a decision that stands stays
pub is_decided-more : (d : DocumentData) (past : List Act) (a : Act) (t : TxId) (f : Ident) → IsDecided d past t f
    → IsDecided d (a ∷ past) t f
is_decided-more d past a t f h = (h.0, h.1, decided-more d past a h.0 t f h.2)

abbrev CommitSays : DocumentData → List Act → Message → Type 0
CommitSays d past (message.Tell t (outcome.Commit f)) = IsDecided d past t f
CommitSays d past said = Unit {0}

abbrev CommittedSays : DocumentData → List Act → Record → Type 0
CommittedSays d past (record'.Ended t (outcome.Commit f)) = IsDecided d past t f
CommittedSays d past y = Unit {0}

commit_says-more : (d : DocumentData) (past : List Act) (a : Act) (said : Message) → CommitSays d past said
    → CommitSays d (a ∷ past) said
commit_says-more d past a (message.Tell t (outcome.Commit f)) h = is_decided-more d past a t f h
commit_says-more d past a (message.Tell t outcome.Abort) h = tt
commit_says-more d past a said h = tt

committed-more : (d : DocumentData) (past : List Act) (a : Act) (y : Record) → CommittedSays d past y
    → CommittedSays d (a ∷ past) y
committed-more d past a (record'.Ended t (outcome.Commit f)) h = is_decided-more d past a t f h
committed-more d past a (record'.Ended t outcome.Abort) h = tt
committed-more d past a y h = tt

commit-by : (d : DocumentData) (past : List Act) (n y : NodeId) (t : TxId) (f : Ident) → AllDue d past
    → AllHold (CommittedSays d past) (journal d past n) → CommitDue d past n y t f → IsDecided d past t f
commit-by d past n y t f all ends (by_home x is final) =
    let s : IsFitNode d n (node d past n) = nodes-fit d past all n in
    let decided : decision t (journal d past n) ≡ Some x = undone-decision t x (journal d past n) is in
    let P : Ident → Type 0 = λ g. has_decided t g (journal d past n) ≡ true in
    (n, (decision-home d n t x (journal d past n) s.homes decided).home, subst P final (decision-has t x (journal d past n) decided))
commit-by d past n y t f all ends (by_part got is) = ended-holds (CommittedSays d past) t (outcome.Commit f) (journal d past n) ends is

commit-said : (d : DocumentData) (past : List Act) (n y : NodeId) (said : Message) → AllDue d past
    → AllHold (CommittedSays d past) (journal d past n) → SendDue d past n y said → CommitSays d past said
commit-said d past n y (message.Tell t (outcome.Commit f)) all ends due = commit-by d past n y t f all ends due
commit-said d past n y (message.Tell t outcome.Abort) all ends due = tt
commit-said d past n y said all ends due = tt

commit-kept : (d : DocumentData) (past : List Act) (n : NodeId) (h : Head)
    → ((e : Envelope) → got past ≡ Some e → CommitSays d past e.message) → RecordDue d past n h
    → HoldsIn (CommittedSays d past) (record_of d (got past) h)
commit-kept d past n (head.Ended t (outcome.Commit f)) says due = says (record { from = due.1.from; to = n; message = message.Tell t (outcome.Commit f) }) due.1.got
commit-kept d past n (head.Ended t outcome.Abort) says due = tt
commit-kept d past n (head.Prepared t p) says due = let P : Option Record → Type 0 = λ o. HoldsIn (CommittedSays d past) o in subst P (sym (prepared-is d past n t p due.1)) tt
commit-kept d past n h says due = tt

commits-told : (d : DocumentData) (past : List Act) → AllDue d past
    → BothHold (λ n y said. CommitSays d past said) (λ n r. CommittedSays d past r) d past
commits-told d past due =
    both-hold (λ now n y said. CommitSays d now said) (λ now n r. CommittedSays d now r) d past
    (λ now a n y said all h. commit_says-more d now a said h)
    (λ now a n y all h. committed-more d now a y h)
    (λ now n y said all b h. commit-said d now n y said all (b.of_records n).journal h)
    (λ now n h all b r. commit-kept d now n h b.of_got r)
    due

-- what ended with commit was decided, with this final identifier
pub commit-decided : (d : DocumentData) (past : List Act) → AllDue d past → (n : NodeId) (t : TxId) (f : Ident)
    → ended t (journal d past n) ≡ Some (outcome.Commit f) → IsDecided d past t f
commit-decided d past all n t f e = ended-holds (CommittedSays d past) t (outcome.Commit f) (journal d past n) ((commits-told d past all).of_records n).journal e

-- ---- what is sent says so

pub says-due : (d : DocumentData) (past : List Act) (n y : NodeId) (said : Message) → AllDue d past
    → SendDue d past n y said → Says d past n said
says-due d past n y (message.Vote t (ballot.Yes p)) s due = pending-has t p (journal d past n) due.1
says-due d past n y (message.Vote t (ballot.No why)) s due = (let P : List Act → Type 0 = λ p. has_refused n t why p ≡ true in subst P (sym due.2) (refused-now n t why due.1))
says-due d past n y (message.Tell t (outcome.Commit f)) all due = commit-by d past n y t f all ((commits-told d past all).of_records n).journal due
says-due d past n y (message.Tell t outcome.Abort) s due = tt
says-due d past n y (message.Ack t) all due = has_commit-is d.cluster n t (journal d past n) (nodes-fit d past all n).fits ∙ due.0
says-due d past n y (message.ReadRep q) s due = (let P : List Act → Type 0 = λ p. has_served n q.t q.op q.sid q.value p ≡ true in subst P (sym due.is) (served-now n q.t q.op due.key q.sid due.vn q.value due.before))
says-due d past n y said s due = tt

-- ---- each message

pub each-more : (P Q : NodeId → Message → Type 0) (past : List Act)
    → ((n : NodeId) (said : Message) → P n said → Q n said) → EachSent P past → EachSent Q past
each-more P Q [] go h = tt
each-more P Q (act.Sent m x y said ∷ past) go h = (go x said h.0, each-more P Q past go h.1)
each-more P Q (a ∷ past) go h = each-more P Q past go h

-- a claim on the sender and its message that stays true, and holds of each message that is sent
pub each-sent : (C : List Act → NodeId → Message → Type 0) (d : DocumentData) (past : List Act)
    → ((now : List Act) (a : Act) (n : NodeId) (said : Message) → AllDue d (a ∷ now) → C now n said
    → C (a ∷ now) n said)
    → ((now : List Act) (n y : NodeId) (said : Message) → AllDue d now → SendDue d now n y said → C now n said)
    → AllDue d past → EachSent (C past) past
each-sent C d [] more new due = tt
each-sent C d (act.Sent m x y said ∷ past) more new due = (more past (act.Sent m x y said) x said due (new past x y said due.1 due.0), each-more (C past) (C (act.Sent m x y said ∷ past)) past (λ n s h. more past (act.Sent m x y said) n s due h) (each-sent C d past more new due.1))
each-sent C d (a ∷ past) more new due = each-more (C past) (C (a ∷ past)) past (λ n s h. more past a n s due h) (each-sent C d past more new due.1)

-- what stands in the journals stands where the record in doubt stands behind it too
grown : (P : List Record → Type 0) → ((y : Record) (r : List Record) → P r → P (y ∷ r)) →
    (b : Bool) (o : Option Record) (r : List Record) → P r → P (found b o r)
grown P grow true (Some y) r h = grow y r h
grown P grow true None r h = h
grown P grow false o r h = h

says-kept : (d : DocumentData) (past : List Act) (kept : Bool) (n : NodeId) (said : Message) →
    Says d past n said → SaysIn d past (records_at d past kept) n said
says-kept d past kept n (message.Vote t (ballot.Yes p)) h =
    grown (λ r. has_prepared t p r ≡ true) (λ y r i. has_prepared-grows t p y r i) kept (node d past n).doubt (journal d past n) h
says-kept d past kept n (message.Tell t (outcome.Commit f)) h =
    (h.0, h.1, grown (λ r. has_decided t f r ≡ true) (λ y r i. has_decided-grows t f y r i) kept (node d past h.0).doubt (journal d past h.0) h.2)
says-kept d past kept n (message.Ack t) h =
    grown (λ r. has_commit t r ≡ true) (λ y r i. has_commit-grows t y r i) kept (node d past n).doubt (journal d past n) h
says-kept d past kept n said h = h

pub messages-backed : (d : DocumentData) (past : List Act) → AllDue d past → MessagesBacked d past
messages-backed d past due kept = each-more (Says d past) (SaysIn d past (records_at d past kept)) past (says-kept d past kept) (each-sent (λ now n said. Says d now n said) d past (λ now a n said all h. says-more d now a n said h) (λ now n y said all h. says-due d now n y said all h) due)
