-- The claim on causes is not empty: it holds of a run with a refusal, and wrong causes and causeless ends do not meet
-- it.
use Rattle.std.proofs.Common.{◌≡◌, Bool, true, false, IsTrue, List, [], ◌∷◌, ◌++◌, Option, Some, None, refl, sym, ap, take, drop}
use Rattle.std.specs.List.{list_all}
use Rattle.std.specs.Prelude.{◌==◌}
use Rattle.std.proofs.lemmas.Bool.{false≢true, and_parts}
use Rattle.std.proofs.lemmas.Option.{none-some}
use Rattle.score_base.specs.declared.ids.TxId.{TxId}
use Rattle.score_base.specs.declared.ids.Ident.{Ident}
use Rattle.score_base.specs.declared.causes.Ballot.TheVariants as ballot
use Rattle.score_base.specs.declared.causes.Cause.{Cause}
use Rattle.score_base.specs.declared.causes.Cause.TheVariants as cause
use Rattle.grid_model.specs.declared.acts.Act.{Act}
use Rattle.grid_model.specs.declared.acts.Act.TheVariants as act
use Rattle.grid_model.specs.declared.acts.Flag.TheVariants as flag
use Rattle.grid_model.specs.declared.messages.Message.TheVariants as message
use Rattle.grid_model.specs.Documents.{DocumentData}
use Rattle.grid_model.specs.Histories.{after}
use Rattle.grid_model.specs.Acts.{EachBehind}
use Rattle.grid_model.specs.Claims.{Caused, IsCausedAct, RefusedWhereAsked}
use Rattle.cause_laws.proofs.RefusalsAsked.{refused-asked}
use Rattle.grid_laws.proofs.WorkedDocuments.{write_conflict-worked}
use Rattle.grid_model.specs.declared.messages.Envelope.{Envelope}
use Rattle.score_base.specs.declared.ids.NodeId.{NodeId}
use Rattle.journal_words.proofs.TwoNodes.{a}
use Rattle.grid_model.proofs.Plays.{prepare}
use Rattle.grid_model.proofs.RunsWithReads.{first_read, first_read_acts}
use Rattle.grid_model.proofs.RunsThatStop.{presumed_abort, presumed_abort_acts}
use Rattle.grid_model.proofs.RunsWithConflicts.{write_conflict, write_conflict_acts, stale_read_refused, stale_read_refused_acts}
use Rattle.grid_model.proofs.RunsOnThreeNodes.{bystander_gets_nothing, bystander_gets_nothing_acts}

-- the second of two that write one key names the holder that refused it
pub conflict-caused : Caused write_conflict write_conflict_acts
conflict-caused = (refl, (tt, (tt, (refl, (tt, (tt, (tt, (tt, (tt, (tt, (tt, (tt, (tt, (tt, tt))))))))))))))

-- both transactions prepare, and the first has its lock
abbrev pub both_prepare : List Act
both_prepare =
    act.Up 1 flag.Untouched
    ∷ act.Up 2 flag.Untouched
    ∷ act.Began 1 1 0
    ∷ act.Sent 1 1 2 (prepare 1 0 (2 ∷ []) [] ((a, 1) ∷ []))
    ∷ act.Began 2 2 0
    ∷ act.Sent 2 2 2 (prepare 2 0 (2 ∷ []) [] ((a, 2) ∷ []))
    ∷ act.Got 1
    ∷ act.Prepared 2 1 1
    ∷ act.Sent 3 2 1 (message.Vote 1 (ballot.Yes 1))
    ∷ act.Got 2
    ∷ []

-- the second is refused for this cause, the home aborts it for that one
abbrev pub refused_for : Cause → Cause → List Act
refused_for why told =
    act.Refused 2 2 why
    ∷ act.Sent 4 2 2 (message.Vote 2 (ballot.No why))
    ∷ act.Got 4
    ∷ act.Aborted 2 2 told
    ∷ []

-- with the holder 1 these are the acts of the run
pub conflict-acts : both_prepare ++ refused_for (cause.Holder 1) (cause.Holder 1) ≡ write_conflict_acts
conflict-acts = refl

-- the holder that a cause names, or 0
abbrev holder_in : Option Cause → TxId
holder_in (Some (cause.Holder u)) = u
holder_in o = 0

-- a refusal, a vote and an abort that all name another holder are refuted, whichever it is
pub wrong_holder-refuted : (u : TxId) → (u ≡ 1 → ⊥)
    → Caused write_conflict (both_prepare ++ refused_for (cause.Holder u) (cause.Holder u)) → ⊥
wrong_holder-refuted u other caused =
    let e : Some (cause.Holder 1) ≡ Some (cause.Holder u) = caused.1.1.1.0 in
    other (sym (ap holder_in e))

-- where the refusal is right, an abort for another cause than the refusal's is refuted
pub wrong_abort-refuted : Caused write_conflict (both_prepare ++ refused_for (cause.Holder 1) (cause.Holder 2)) → ⊥
wrong_abort-refuted caused = let is : false ≡ true = caused.0 in false≢true is

-- a refusal where the holder's Prepared is gone is refuted
pub no_holder-refuted : Caused write_conflict (act.Up 1 flag.Untouched ∷ act.Up 2 flag.Untouched ∷ act.Began 2 2 0
    ∷ act.Sent 1 2 2 (prepare 2 0 (2 ∷ []) [] ((a, 2) ∷ [])) ∷ act.Got 1 ∷ act.Refused 2 2 (cause.Holder 1) ∷ []) → ⊥
no_holder-refuted caused = let e : None ≡ Some (cause.Holder 1) = caused.0 in none-some (cause.Holder 1) e

-- a transaction that is lost where no opening of its home stands before is refuted
pub lost-refuted : Caused write_conflict (both_prepare ++ act.Lost 2 ∷ []) → ⊥
lost-refuted caused = let is : false ≡ true = caused.0 in false≢true is

-- so is one whose home is opened, but that was not begun
pub lost_unbegun-refuted : Caused write_conflict (act.Up 1 flag.Untouched ∷ act.Lost 1 ∷ act.Up 2 flag.Untouched ∷ [])
    → ⊥
lost_unbegun-refuted caused = let is : false ≡ true = caused.1.0 in false≢true is

-- an abort of a transaction that only reads is refuted, even behind its refusal
pub reader_aborted-refuted : Caused first_read
    (first_read_acts ++ act.Refused 2 1 (cause.Holder 2) ∷ act.Aborted 1 2 (cause.Holder 2) ∷ []) → ⊥
reader_aborted-refuted caused = let is : false ≡ true = caused.0 in false≢true is

-- is this act one that needs no cause?
abbrev needs_no_cause : Act → Bool
needs_no_cause (act.Aborted t n why) = false
needs_no_cause (act.Refused n t why) = false
needs_no_cause (act.Lost t) = false
needs_no_cause a = true

-- acts that need no cause keep the claim
pub uncaused-kept : (d : DocumentData) (later past : List Act) → IsTrue (list_all needs_no_cause later)
    → EachBehind (IsCausedAct d) past → EachBehind (IsCausedAct d) (later ++ past)
uncaused-kept d [] past are rest = rest
uncaused-kept d (x ∷ later) past are rest = (
    let both : IsTrue (needs_no_cause x) × IsTrue (list_all needs_no_cause later) = and_parts (needs_no_cause x) (list_all needs_no_cause later) are in
    (one x both.0, uncaused-kept d later past both.1 rest))
  where
    one : (x : Act) → IsTrue (needs_no_cause x) → IsCausedAct d x (later ++ past)
    one (act.Aborted t n why) is = absurd (false≢true is)
    one (act.Refused n t why) is = absurd (false≢true is)
    one (act.Lost t) is = absurd (false≢true is)
    one x is = tt

-- the acts of a run with a crash, the newest first
abbrev crashed : List Act
crashed = after [] presumed_abort_acts

-- the transaction that it loses was collecting when its home was opened
pub crash-caused : Caused presumed_abort presumed_abort_acts
crash-caused =
    uncaused-kept presumed_abort (take 11 crashed) (drop 11 crashed) refl
    (refl, uncaused-kept presumed_abort (drop 12 crashed) [] refl tt)

-- where no act needs a cause, there is none to show
pub bystander-caused : Caused bystander_gets_nothing bystander_gets_nothing_acts
bystander-caused = uncaused-kept bystander_gets_nothing (after [] bystander_gets_nothing_acts) [] refl tt

-- ---- a newer version

-- the acts of a run in which a read is stale, the newest first
abbrev stale : List Act
stale = after [] stale_read_refused_acts

-- the refusal names the newer version, and the abort the refusal
pub stale-caused : Caused stale_read_refused stale_read_refused_acts
stale-caused = uncaused-kept stale_read_refused (take 6 stale) (drop 6 stale) refl (refl, uncaused-kept stale_read_refused (take 2 (drop 7 stale)) (drop 9 stale) refl (refl, uncaused-kept stale_read_refused (drop 10 stale) [] refl tt))

-- the acts before the refusal, and a refusal for this version of `a`
abbrev pub refused_by : Ident → List Act
refused_by f = take 26 stale_read_refused_acts ++ act.Refused 2 1 (cause.Newer a f) ∷ []

-- with the version 1 these are acts of the run
pub refused-acts : refused_by 1 ++ drop 27 stale_read_refused_acts ≡ stale_read_refused_acts
refused-acts = refl

-- the version that a cause names, or 0
abbrev version_in : Option Cause → Ident
version_in (Some (cause.Newer k f)) = f
version_in o = 0

-- a refusal for another version is refuted, whichever it is
pub wrong_version-refuted : (f : Ident) → (f ≡ 1 → ⊥) → Caused stale_read_refused (refused_by f) → ⊥
wrong_version-refuted f other caused =
    let e : Some (cause.Newer a 1) ≡ Some (cause.Newer a f) = caused.0 in
    other (sym (ap version_in e))

-- ---- where a refusal comes from

-- n1, which got no Prepare of the second, refuses it, and the home aborts it for that cause
abbrev pub elsewhere_acts : List Act
elsewhere_acts =
    act.Up 1 flag.Untouched
    ∷ act.Up 2 flag.Untouched
    ∷ act.Began 1 1 0
    ∷ act.Sent 1 1 2 (prepare 1 0 (2 ∷ []) [] ((a, 1) ∷ []))
    ∷ act.Began 2 2 0
    ∷ act.Sent 2 2 2 (prepare 2 0 (2 ∷ []) [] ((a, 2) ∷ []))
    ∷ act.Got 1
    ∷ act.Prepared 1 1 1
    ∷ act.Got 2
    ∷ act.Refused 1 2 (cause.Holder 1)
    ∷ act.Aborted 2 1 (cause.Holder 1)
    ∷ []

-- the node to which an envelope goes, or 0
abbrev receiver : Option Envelope → NodeId
receiver (Some e) = e.to
receiver None = 0

-- a refusal by a node that was not asked is refuted
pub elsewhere-refuted : RefusedWhereAsked elsewhere_acts → ⊥
elsewhere-refuted asked =
    let e : 2 ≡ 1 = ap receiver asked.1.0.got in
    let is : false ≡ true = ap (λ (n : NodeId). n == 1) e in
    false≢true is

-- that of the run was asked
pub conflict-asked : RefusedWhereAsked write_conflict_acts
conflict-asked = refused-asked write_conflict write_conflict_acts write_conflict-worked.1
