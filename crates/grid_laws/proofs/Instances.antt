-- The facts are not empty: worked runs in which their premises hold, computed from the definitions.
use Rattle.std.proofs.Common.{◌≡◌, ℕ, Bool, true, false, ◌&&◌, ◌==◌, List, [], ◌∷◌, Option, Some, None, refl, ap, arith}
use Rattle.std.specs.Prelude.{sum_by, is_some}
use Rattle.std.specs.List.{list_any}
use Rattle.score_base.specs.declared.ids.NodeId.{NodeId}
use Rattle.score_base.specs.declared.causes.Ballot.TheVariants as ballot
use Rattle.score_base.specs.declared.causes.Outcome.TheVariants as outcome
use Rattle.grid_model.specs.declared.acts.Act.{Act}
use Rattle.grid_model.specs.declared.acts.Act.TheVariants as act
use Rattle.grid_model.specs.declared.acts.Head.TheVariants as head
use Rattle.grid_model.specs.declared.messages.Envelope.{Envelope}
use Rattle.grid_model.specs.declared.messages.Message.{Message}
use Rattle.grid_model.specs.declared.messages.Message.TheVariants as message
use Rattle.grid_model.specs.Documents.{DocumentData, events_of}
use Rattle.grid_model.specs.Fitness.{is_fit}
use Rattle.grid_model.specs.Histories.{after, sent, sent_at}
use Rattle.grid_model.specs.Views.{view}
use Rattle.journal_words.specs.Journals.{is_locking, commit_id, prepared_of, floor, is_clear, all_fit, has_prepared, has_decided, has_commit, are_apart}
use Rattle.grid_model.specs.Nodes.{journal}
use Rattle.grid_model.specs.Excuses.{has_sent}
use Rattle.grid_model.specs.Copies.{snapshot}
use Rattle.grid_model.specs.Facts.{has_served, is_given_up, is_over, are_above, records_at, PreparesAgree}
use Rattle.journal_words.proofs.TwoNodes.{a}
use Rattle.grid_model.proofs.TransferActs.{asks}
use Rattle.grid_model.proofs.RunsThatCommit.{read_then_write, read_then_write_acts}
use Rattle.grid_model.proofs.RunsWithReads.{ceiling_after_crash, ceiling_after_crash_acts, held_read, held_read_front}
use Rattle.grid_model.proofs.RunsWithConflicts.{lock_until_applied, lock_until_applied_acts}
use Rattle.grid_model.proofs.RunsThatStop.{presumed_abort, presumed_abort_acts, one_vote, stop_at_the_decision, failing_device_call_acts}
use Rattle.score_base.specs.declared.ids.Ident.{Ident}
use Rattle.grid_model.specs.declared.messages.Prepare.{Prepare}

-- the pasts of the runs
abbrev committed : List Act
committed = after [] read_then_write_acts

abbrev crashed : List Act
crashed = after [] ceiling_after_crash_acts

abbrev held : List Act
held = after [] held_read_front

abbrev locked : List Act
locked = after [] lock_until_applied_acts

abbrev presumed : List Act
presumed = after [] presumed_abort_acts

-- node n2 stopped in the Prepared of transaction 1, and node n1 in its Decided
abbrev stopped_preparing : List Act
stopped_preparing = act.Down 2 (Some (head.Prepared 1 1)) ∷ act.Got 4 ∷ after [] asks

abbrev stopped_deciding : List Act
stopped_deciding = act.Down 1 (Some (head.Decided 1 1)) ∷ act.Got 6 ∷ after [] (one_vote 2 0)

-- node n2 stopped in its Prepared, which is gone, and was asked again
abbrev asked_again : List Act
asked_again = after [] failing_device_call_acts

-- ---- messages are backed by records

abbrev is_yes : NodeId → NodeId → Message → Bool
is_yes x y (message.Vote t (ballot.Yes p)) = (x == 2) && ((t == 1) && (p == 1))
is_yes x y said = false

abbrev is_commit_told : NodeId → NodeId → Message → Bool
is_commit_told x y (message.Tell t (outcome.Commit f)) = (t == 1) && (f == 1)
is_commit_told x y said = false

abbrev is_ack : NodeId → NodeId → Message → Bool
is_ack x y (message.Ack t) = (x == 2) && (t == 1)
is_ack x y said = false

abbrev is_reply : NodeId → NodeId → Message → Bool
is_reply x y (message.ReadRep q) = (x == 2) && (q.t == 1)
is_reply x y said = false

-- node n2 voted yes with 1, and its Prepared with 1 stands
pub yes-backed : (has_sent is_yes committed ≡ true) × (has_prepared 1 1 (journal read_then_write committed 2) ≡ true)
yes-backed = (refl, refl)

-- the commit with 1 was told, and the Decided with 1 stands at the home
pub commit-backed : (has_sent is_commit_told committed ≡ true) ×
    (has_decided 1 1 (journal read_then_write committed 1) ≡ true)
commit-backed = (refl, refl)

-- node n2 acknowledged, and its Ended with commit stands
pub ack-backed : (has_sent is_ack committed ≡ true) × (has_commit 1 (journal read_then_write committed 2) ≡ true)
ack-backed = (refl, refl)

-- node n2 replied, and it served the read
pub reply-backed : (has_sent is_reply committed ≡ true) × (has_served 2 1 1 0 10 committed ≡ true)
reply-backed = (refl, refl)

-- ---- an abort message means that the transaction can never commit

abbrev is_abort_told : NodeId → NodeId → Message → Bool
is_abort_told x y (message.Tell t outcome.Abort) = t == 1
is_abort_told x y said = false

-- the abort was told behind a crash of the home, and the transaction is given up, not over
pub abort-final : (has_sent is_abort_told presumed ≡ true) × (is_given_up 1 presumed ≡ true) ×
    (is_over presumed_abort presumed 1 ≡ false)
abort-final = (refl, refl, refl)

-- ---- a served read is promised

-- node n2 served a read at 1, and crashed: its floor is 64, the pending proposal of another is 65
pub served-promised : (has_served 2 2 1 1 10 crashed ≡ true) × (floor (journal ceiling_after_crash crashed 2) ≡ 65) ×
    (is_clear 1 (journal ceiling_after_crash crashed 2) ≡ true) ×
    (has_prepared 3 65 (journal ceiling_after_crash crashed 2) ≡ true)
served-promised = (refl, refl, refl, refl)

-- ---- locks exclude conflicts

-- at node n2 transaction 1 is pending and 2 is ended and not applied; they lock, and are apart
pub both-lock : (is_locking 1 (journal lock_until_applied locked 2) ≡ true) ×
    (is_locking 2 (journal lock_until_applied locked 2) ≡ true) × (are_apart
    (prepared_of 1 (journal lock_until_applied locked 2)) (prepared_of 2 (journal lock_until_applied locked 2)) ≡ true)
both-lock = (refl, refl, refl)

-- ---- a decision rests on every part

-- the decision with 1, above the snapshot 0, and the Prepared with 1 at both parts
pub decision-rests : (has_decided 1 1 (journal read_then_write committed 1) ≡ true) ×
    (has_prepared 1 1 (journal read_then_write committed 1) ≡ true) ×
    (has_prepared 1 1 (journal read_then_write committed 2) ≡ true) × (snapshot read_then_write committed 1 ≡ 0)
decision-rests = (refl, refl, refl, refl)

-- ---- all Prepares of a transaction to one node say the same

-- messages 4 and 7 are the Prepares that node n2 was sent, before and behind its stop
pub prepared-again :
    (sent_at 4 (sent asked_again) ≡ sent_at 7 (sent asked_again))
    × (is_some (sent_at 7 (sent asked_again)) ≡ true)
prepared-again = (refl, refl)

-- two Prepares that differ in their snapshots
abbrev asked_at : Ident → Prepare
asked_at sid = record { t = 1; sid = sid; parts = 2 ∷ []; reads = a ∷ []; writes = [] }

pub differing-refuted :
    PreparesAgree (act.Sent 2 1 2 (message.Prepare (asked_at 1)) ∷ act.Sent 1 1 2 (message.Prepare (asked_at 0)) ∷ []) →
    ⊥
differing-refuted h = one-zero (ap (λ (q : Prepare). q.sid) (h 2 1 1 1 2 (asked_at 1) (asked_at 0) refl refl refl).1)
  where
    one-zero : ◌≡◌ {A = ℕ} 1 0 → ⊥
    one-zero e = omega arith

-- ---- records fit

-- four records stand at the home, and each fits those before it
pub records-fit : all_fit read_then_write.cluster 1 (journal read_then_write committed 1) ≡ true
records-fit = refl

-- a Prepared in doubt fits behind no record, and stands only where it was kept
pub doubt-fits :
    (all_fit read_then_write.cluster 2 (records_at read_then_write stopped_preparing true 2) ≡ true)
    × (has_prepared 1 1 (records_at read_then_write stopped_preparing true 2) ≡ true)
    × (has_prepared 1 1 (records_at read_then_write stopped_preparing false 2) ≡ false)
doubt-fits = (refl, refl, refl)

-- its transaction would lock the keys
pub doubt-locks :
    (is_locking 1 (records_at read_then_write stopped_preparing true 2) ≡ true)
    × (is_locking 1 (records_at read_then_write stopped_preparing false 2) ≡ false)
doubt-locks = (refl, refl)

-- a Decided in doubt rests on the Prepareds of both parts
pub doubt-rests :
    (has_decided 1 1 (records_at (stop_at_the_decision 2 0) stopped_deciding true 1) ≡ true)
    × (has_decided 1 1 (journal (stop_at_the_decision 2 0) stopped_deciding 1) ≡ false)
    × (has_prepared 1 1 (journal (stop_at_the_decision 2 0) stopped_deciding 1) ≡ true)
    × (has_prepared 1 1 (journal (stop_at_the_decision 2 0) stopped_deciding 2) ≡ true)
doubt-rests = (refl, refl, refl, refl)

-- a stop in a Prepared that is at most the read would break its promise, kept or not
pub doubt-above : (are_above 2 1 stopped_preparing ≡ false) × (are_above 2 0 stopped_preparing ≡ true)
doubt-above = (refl, refl)

-- ---- identifiers

-- behind eleven events a node proposed 65: one identifier for each event would be too low a bound
pub identifiers-rise : (sum_by events_of ceiling_after_crash.items ≡ 11) ×
    (has_prepared 3 65 (journal ceiling_after_crash crashed 2) ≡ true)
identifiers-rise = (refl, refl)

-- ---- a read at or below the commit identifier is never held

abbrev is_held : Act → Bool
is_held (act.Held n t op sid) = (n == 2) && (sid == 1)
is_held a = false

-- a read at 1 is held at node n2, where nothing is applied yet
pub held-above : (list_any is_held held ≡ true) × (commit_id (journal held_read held 2) ≡ 0)
held-above = (refl, refl)

-- ---- each message that is delivered is fit

-- is the message m of a past fit at its receiver?
abbrev is_fit_sent : DocumentData → List Act → Option Envelope → Bool
is_fit_sent d past None = false
is_fit_sent d past (Some e) = is_fit e.to (view d past e.to) e.from e.message

-- the Prepare of node n2, its vote, and the commit for it
pub delivered-fit : (is_fit_sent read_then_write (after [] asks) (sent_at 4 (sent (after [] asks))) ≡ true) ×
    (is_fit_sent read_then_write committed (sent_at 6 (sent committed)) ≡ true) ×
    (is_fit_sent read_then_write committed (sent_at 8 (sent committed)) ≡ true)
delivered-fit = (refl, refl, refl)

-- a Prepare for keys that the node does not hold is not
pub unfit : is_fit 1 (view read_then_write (after [] asks) 1) 1
    (message.Prepare (record { t = 1; sid = 0; parts = 1 ∷ []; reads = a ∷ []; writes = [] })) ≡ false
unfit = refl
