-- What an Ended says: a commit was decided, and an abort is of a transaction that was given up.
use Rattle.std.proofs.Common.{◌≡◌, Bool, true, false, List, [], ◌∷◌, Option, Some, None, inl, inr, refl, sym, subst, arith}
use Rattle.std.proofs.lemmas.Bool.Decides.{nat_tests}
use Rattle.std.proofs.lemmas.Bool.{cases_eq, and_parts}
use Rattle.std.specs.Prelude.{is_some, ◌||◌}
use Rattle.std.specs.List.{list_all}
use Rattle.score_base.specs.declared.ids.TxId.{TxId}
use Rattle.score_base.specs.declared.ids.NodeId.{NodeId}
use Rattle.score_base.specs.declared.ids.Ident.{Ident}
use Rattle.score_base.specs.declared.causes.Outcome.TheVariants as outcome
use Rattle.score_base.specs.declared.records.Record.{Record}
use Rattle.score_base.specs.declared.records.Record.TheVariants as record'
use Rattle.placement.specs.Places.{is_among}
use Rattle.grid_model.specs.declared.acts.Act.{Act}
use Rattle.grid_model.specs.declared.acts.Head.{Head}
use Rattle.grid_model.specs.declared.acts.Head.TheVariants as head
use Rattle.grid_model.specs.declared.messages.Envelope.{Envelope}
use Rattle.grid_model.specs.declared.messages.Message.TheVariants as message
use Rattle.grid_model.specs.Documents.{DocumentData}
use Rattle.journal_words.specs.Journals.{ended, fits_outcome, pending, has_commit}
use Rattle.grid_model.specs.Nodes.{got, journal, record_of, script_of}
use Rattle.grid_model.specs.Facts.{AbortsFinal, Says, MeansNever, is_given_up, is_over, parts_at}
use Rattle.journal_words.proofs.Once.{pending-prepared, ended-over}
use Rattle.journal_words.proofs.Stands.{has_commit-says}
use Rattle.grid_laws.proofs.Causes.{AllDue, EndedDue, RecordDue}
use Rattle.grid_laws.proofs.NodesFitActs.{nodes-fit, prepared-is}
use Rattle.grid_laws.proofs.MessagesBacked.{each-sent, says-more, says-due}
use Rattle.grid_laws.proofs.Holds.{BothHold, both-hold, ended-holds, got-hold}
use Rattle.grid_laws.proofs.AbortsFinal.{given-more, means-more, means-due}
use Rattle.grid_laws.proofs.AnswersFit.{prepared-part}
use Rattle.grid_laws.proofs.NodesFit.{HoldsIn}

-- ---- the message that was got last

-- it is backed
pub says-got : (d : DocumentData) (past : List Act) → AllDue d past → (e : Envelope) → got past ≡ Some e
    → Says d past e.from e.message
says-got d past due e is = got-hold (λ now n y said. Says d now n said) d past (λ now a n y said all h. says-more d now a n said h) (λ now n y said all h. says-due d now n y said all h) due e is

-- ---- what a part did not end

pub all-found : (P : NodeId → Bool) (ns : List NodeId) (n : NodeId) → list_all P ns ≡ true → is_among n ns ≡ true
    → P n ≡ true
all-found P [] n all i = cc
all-found P (k ∷ ns) n all i = elim (cases_eq k n) [
  | inl same ↦ (let Q : NodeId → Type 0 = λ z. P z ≡ true in subst Q same (grind (arith, all)))
  | inr other ↦ all-found P ns n (grind (arith, all)) (grind (arith, nat_tests, i))
]

-- a transaction that is pending at a node is not over
pub pending-not-over : (d : DocumentData) (past : List Act) (n : NodeId) (t : TxId) (p : Ident) → AllDue d past
    → pending t (journal d past n) ≡ Some p → is_over d past t ≡ true → ⊥
pending-not-over d past n t p all e over =
    let fit = (nodes-fit d past all n).fits in
    let x = pending-prepared t p (journal d past n) e in
    let ended = (and_parts (is_some (script_of t d.scripts)) (list_all (λ k. has_commit t (journal d past k)) (parts_at d t)) over).1 in
    let here : has_commit t (journal d past n) ≡ true = all-found (λ k. has_commit t (journal d past k)) (parts_at d t) n ended (prepared-part d past n t x.0 all x.1) in
    let c = has_commit-says d.cluster n t (journal d past n) fit here in
    let none : pending t (journal d past n) ≡ None = ended-over d.cluster n t (outcome.Commit c.0) (journal d past n) fit c.1 in
    cc

-- ---- what ended with abort was given up

abbrev AbortedSays : List Act → Record → Type 0
AbortedSays past (record'.Ended t outcome.Abort) = is_given_up t past ≡ true
AbortedSays past y = Unit {0}

aborted-more : (past : List Act) (a : Act) (y : Record) → AbortedSays past y → AbortedSays (a ∷ past) y
aborted-more past a (record'.Ended t outcome.Abort) h = given-more a past t h
aborted-more past a (record'.Ended t (outcome.Commit f)) h = tt
aborted-more past a y h = tt

abort-due : (d : DocumentData) (past : List Act) (n : NodeId) (t : TxId) → AllDue d past
    → ((e : Envelope) → got past ≡ Some e → MeansNever d past e.from e.message) → EndedDue d past n t outcome.Abort
    → is_given_up t past ≡ true
abort-due d past n t all means due = go (is_given_up t past) (pending t (journal d past n)) refl due.fit (means (record { from = due.from; to = n; message = message.Tell t outcome.Abort }) due.got)
  where
    go : (b : Bool) (o : Option Ident) → pending t (journal d past n) ≡ o → fits_outcome o outcome.Abort ≡ true
        → (b || is_over d past t) ≡ true → b ≡ true
    go true o e fits never = refl
    go false None e fits never = cc
    go false (Some p) e fits never = absurd (pending-not-over d past n t p all e never)

aborted-kept : (d : DocumentData) (past : List Act) (n : NodeId) (h : Head) → AllDue d past
    → ((e : Envelope) → got past ≡ Some e → MeansNever d past e.from e.message) → RecordDue d past n h
    → HoldsIn (AbortedSays past) (record_of d (got past) h)
aborted-kept d past n (head.Ended t outcome.Abort) all means due = abort-due d past n t all means due.1
aborted-kept d past n (head.Ended t (outcome.Commit f)) all means due = tt
aborted-kept d past n (head.Prepared t p) all means due = let P : Option Record → Type 0 = λ o. HoldsIn (AbortedSays past) o in subst P (sym (prepared-is d past n t p due.1)) tt
aborted-kept d past n h all means due = tt

-- each abort that was told is final, and each that ended was given up
aborts-told : (d : DocumentData) (past : List Act) → AllDue d past
    → BothHold (λ n y said. MeansNever d past n said) (λ n r. AbortedSays past r) d past
aborts-told d past due =
    both-hold (λ now n y said. MeansNever d now n said) (λ now n r. AbortedSays now r) d past
    (λ now a n y said all h. means-more d now a n said h)
    (λ now a n y all h. aborted-more now a y h)
    (λ now n y said all b h. means-due d now n y said all (λ t e. ended-holds (AbortedSays now) t outcome.Abort (journal d now n) (b.of_records n).journal e) h)
    (λ now n h all b r. aborted-kept d now n h all b.of_got r)
    due

-- what ended with abort was given up
pub abort-given-up : (d : DocumentData) (past : List Act) → AllDue d past → (n : NodeId) (t : TxId)
    → ended t (journal d past n) ≡ Some outcome.Abort → is_given_up t past ≡ true
abort-given-up d past all n t e = ended-holds (AbortedSays past) t outcome.Abort (journal d past n) ((aborts-told d past all).of_records n).journal e

pub aborts-final : (d : DocumentData) (past : List Act) → AllDue d past → AbortsFinal d past
aborts-final d past due = each-sent (λ now n said. MeansNever d now n said) d past (λ now a n said all h. means-more d now a n said h) (λ now n y said all h. means-due d now n y said all (λ t e. abort-given-up d now all n t e) h) due
