-- Which records fit those before them: for each condition a record that meets it and one that does not.
-- Journals stand newest first.
use Rattle.std.proofs.Common.{Bool, true, false, List, [], ◌∷◌, ◌≡◌, refl}
use Rattle.score_base.specs.declared.ids.TxId.{TxId}
use Rattle.score_base.specs.declared.ids.Ident.{Ident}
use Rattle.score_base.specs.declared.ids.Value.{Value}
use Rattle.score_base.specs.declared.keys.Key.{Key}
use Rattle.score_base.specs.declared.causes.Outcome.TheVariants as outcome
use Rattle.score_base.specs.declared.records.Record.{Record}
use Rattle.score_base.specs.declared.records.Record.TheVariants as record'
use Rattle.journal_words.specs.Journals.{fits}
use Rattle.journal_words.proofs.TwoNodes.{a, b, c, two_nodes}

-- a record fits a journal of n2, which holds `a` and `c`
abbrev pub fits_n2 : List Record → Record → Bool
fits_n2 r x = fits two_nodes 2 r x

-- a Prepared whose home and whose one part is n2
abbrev pub prepared : TxId → Ident → Ident → List Key → List (Key × Value) → Record
prepared t sid p reads writes = record'.Prepared t 2 (2 ∷ []) sid p reads writes

-- ---- Prepared

-- transaction 1 has prepared a write of `a` with the proposal 1
abbrev pub first : Record
first = prepared 1 0 1 [] ((a, 7) ∷ [])

-- and has ended with commit
abbrev pub first_ended : Record
first_ended = record'.Ended 1 (outcome.Commit 1)

pub first-fits : fits_n2 [] first ≡ true
first-fits = refl

-- transaction 2 comes behind it, with another key
pub second-fits : fits_n2 (first ∷ []) (prepared 2 0 2 [] ((c, 7) ∷ [])) ≡ true
second-fits = refl

-- a transaction is prepared once, also where it has ended
pub prepared_again-fails : fits_n2 (first_ended ∷ first ∷ []) (prepared 1 1 2 [] ((a, 7) ∷ [])) ≡ false
prepared_again-fails = refl

-- the proposal is above the snapshot
pub proposal_above_snapshot-fails : fits_n2 [] (prepared 1 1 1 [] ((a, 7) ∷ [])) ≡ false
proposal_above_snapshot-fails = refl

pub proposal_above_snapshot-fits : fits_n2 [] (prepared 1 1 2 [] ((a, 7) ∷ [])) ≡ true
proposal_above_snapshot-fits = refl

-- the proposal is above those before it
pub proposal_above_proposals-fails : fits_n2 (first ∷ []) (prepared 2 0 1 [] ((c, 7) ∷ [])) ≡ false
proposal_above_proposals-fails = refl

-- the proposal is above the final identifiers before it
pub proposal_above_finals-fails : fits_n2 (record'.Ended 1 (outcome.Commit 5) ∷ first ∷ [])
    (prepared 2 0 5 [] ((c, 7) ∷ [])) ≡ false
proposal_above_finals-fails = refl

pub proposal_above_finals-fits : fits_n2 (record'.Ended 1 (outcome.Commit 5) ∷ first ∷ [])
    (prepared 2 0 6 [] ((c, 7) ∷ [])) ≡ true
proposal_above_finals-fits = refl

-- a proposal need not be above a ceiling
pub proposal_below_ceiling-fits : fits_n2 (record'.Ceiling 64 ∷ []) first ≡ true
proposal_below_ceiling-fits = refl

-- the node is a part
pub other_parts-fails : fits_n2 [] (record'.Prepared 1 1 (1 ∷ []) 0 1 [] ((a, 7) ∷ [])) ≡ false
other_parts-fails = refl

pub more_parts-fits : fits_n2 [] (record'.Prepared 1 1 (1 ∷ 2 ∷ []) 0 1 [] ((a, 7) ∷ [])) ≡ true
more_parts-fits = refl

-- there is a key
pub no_key-fails : fits_n2 [] (prepared 1 0 1 [] []) ≡ false
no_key-fails = refl

pub read_key-fits : fits_n2 [] (prepared 1 0 1 (a ∷ []) []) ≡ true
read_key-fits = refl

-- the keys of a list are distinct; a key that is read may be written
pub read_twice-fails : fits_n2 [] (prepared 1 0 1 (a ∷ a ∷ []) []) ≡ false
read_twice-fails = refl

pub written_twice-fails : fits_n2 [] (prepared 1 0 1 [] ((a, 7) ∷ (a, 8) ∷ [])) ≡ false
written_twice-fails = refl

pub read_and_written-fits : fits_n2 [] (prepared 1 0 1 (a ∷ []) ((a, 7) ∷ [])) ≡ true
read_and_written-fits = refl

-- the keys are held by the node
pub other_read-fails : fits_n2 [] (prepared 1 0 1 (b ∷ []) ((a, 7) ∷ [])) ≡ false
other_read-fails = refl

pub other_write-fails : fits_n2 [] (prepared 1 0 1 (a ∷ []) ((b, 7) ∷ [])) ≡ false
other_write-fails = refl

-- no other transaction holds a key: one that is pending
pub pending_holder-fails : fits_n2 (first ∷ []) (prepared 2 0 2 (a ∷ []) []) ≡ false
pending_holder-fails = refl

-- or one that ended with commit and is not applied, since another is pending with a proposal that is not above
pub unapplied_holder-fails : fits_n2 (record'.Ended 2 (outcome.Commit 2) ∷ prepared 2 0 2 [] ((c, 7) ∷ []) ∷ first ∷ [])
    (prepared 3 2 3 (c ∷ []) []) ≡ false
unapplied_holder-fails = refl

-- it holds none once it is applied, or where it aborted
pub applied-fits : fits_n2 (first_ended ∷ first ∷ []) (prepared 2 1 2 (a ∷ []) []) ≡ true
applied-fits = refl

pub aborted-fits : fits_n2 (record'.Ended 1 outcome.Abort ∷ first ∷ []) (prepared 2 0 2 (a ∷ []) []) ≡ true
aborted-fits = refl

-- two reads of a key do not conflict
pub both_read-fits : fits_n2 (prepared 1 0 1 (a ∷ []) [] ∷ []) (prepared 2 0 2 (a ∷ []) []) ≡ true
both_read-fits = refl

-- a read key has no version above the snapshot
pub newer_version-fails : fits_n2 (first_ended ∷ first ∷ []) (prepared 2 0 2 (a ∷ []) []) ≡ false
newer_version-fails = refl

-- a key that is only written may have one
pub newer_written-fits : fits_n2 (first_ended ∷ first ∷ []) (prepared 2 0 2 [] ((a, 8) ∷ [])) ≡ true
newer_written-fits = refl

-- ---- Ended

pub ended_commit-fits : fits_n2 (first ∷ []) first_ended ≡ true
ended_commit-fits = refl

pub ended_abort-fits : fits_n2 (first ∷ []) (record'.Ended 1 outcome.Abort) ≡ true
ended_abort-fits = refl

-- it is pending
pub ended_unprepared-fails : fits_n2 (first ∷ []) (record'.Ended 2 outcome.Abort) ≡ false
ended_unprepared-fails = refl

pub ended_twice-fails : fits_n2 (first_ended ∷ first ∷ []) first_ended ≡ false
ended_twice-fails = refl

-- the final identifier is at least the proposal
pub ended_below-fails : fits_n2 (first ∷ []) (record'.Ended 1 (outcome.Commit 0)) ≡ false
ended_below-fails = refl

-- ---- Ceiling

pub ceiling-fits : fits_n2 (first ∷ []) (record'.Ceiling 64) ≡ true
ceiling-fits = refl

-- a multiple of 64
pub ceiling_uneven-fails : fits_n2 (first ∷ []) (record'.Ceiling 65) ≡ false
ceiling_uneven-fails = refl

-- above the floor
pub ceiling_again-fails : fits_n2 (record'.Ceiling 64 ∷ []) (record'.Ceiling 64) ≡ false
ceiling_again-fails = refl

pub ceiling_zero-fails : fits_n2 [] (record'.Ceiling 0) ≡ false
ceiling_zero-fails = refl

-- ---- Decided

pub decided-fits : fits_n2 [] (record'.Decided 1 1 (2 ∷ [])) ≡ true
decided-fits = refl

-- it is not decided already
pub decided_twice-fails : fits_n2 (record'.Decided 1 1 (2 ∷ []) ∷ []) (record'.Decided 1 1 (2 ∷ [])) ≡ false
decided_twice-fails = refl

-- it may be again, once it is closed
pub decided_behind_closed-fits : fits_n2 (record'.Closed 1 ∷ record'.Decided 1 1 (2 ∷ []) ∷ [])
    (record'.Decided 1 2 (2 ∷ [])) ≡ true
decided_behind_closed-fits = refl

-- the final identifier is at least 1
pub decided_at_zero-fails : fits_n2 [] (record'.Decided 1 0 (2 ∷ [])) ≡ false
decided_at_zero-fails = refl

-- ---- Closed

pub closed-fits : fits_n2 (record'.Decided 1 1 (2 ∷ []) ∷ []) (record'.Closed 1) ≡ true
closed-fits = refl

-- it is decided
pub closed_undecided-fails : fits_n2 (record'.Decided 2 1 (2 ∷ []) ∷ []) (record'.Closed 1) ≡ false
closed_undecided-fails = refl

pub closed_twice-fails : fits_n2 (record'.Closed 1 ∷ record'.Decided 1 1 (2 ∷ []) ∷ []) (record'.Closed 1) ≡ false
closed_twice-fails = refl

-- it may be again, where it was decided again
pub closed_again-fits : fits_n2 (record'.Decided 1 2 (2 ∷ []) ∷ record'.Closed 1 ∷ record'.Decided 1 1 (2 ∷ []) ∷ [])
    (record'.Closed 1) ≡ true
closed_again-fits = refl
