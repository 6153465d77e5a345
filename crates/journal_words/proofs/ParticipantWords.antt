-- The words of a participant read its own records alone: each Prepared and each Ended.
use Rattle.std.proofs.Common.{◌≡◌, List, [], ◌∷◌, Option, Some, None, refl, sym, ap, ◌∙◌}
use Rattle.score_base.specs.declared.ids.TxId.{TxId}
use Rattle.score_base.specs.declared.ids.Ident.{Ident}
use Rattle.score_base.specs.declared.ids.Value.{Value}
use Rattle.score_base.specs.declared.keys.Key.{Key}
use Rattle.score_base.specs.declared.causes.Outcome.{Outcome}
use Rattle.score_base.specs.declared.causes.Outcome.TheVariants as outcome
use Rattle.score_base.specs.declared.records.Record.{Record}
use Rattle.score_base.specs.declared.records.Record.TheVariants as record'
use Rattle.journal_words.specs.Journals.{prepared_of, home_in, home_of, prepared_all, pending, pendings, all_above, is_clear, ended, commits, applied_of, applied, greatest, commit_id, best, up_to, version_at, newest, is_unapplied, is_locking, holds_out, holder_among, holder, newer, is_above}
use Rattle.journal_words.specs.Small.{of_participant}

-- a word that reads the records of a participant alone is the same where these are the same
pub same_word : {A : Type 0} (word : List Record → A) → ((r : List Record) → word (of_participant r) ≡ word r) →
    (r s : List Record) → of_participant r ≡ of_participant s → word r ≡ word s
same_word word reads r s e = sym (reads r) ∙ ap word e ∙ reads s

-- ---- by the records

pub prepared-reads : (t : TxId) (r : List Record) → prepared_of t (of_participant r) ≡ prepared_of t r
prepared-reads t [] = refl
prepared-reads t (record'.Prepared u home parts sid p reads writes ∷ r) = rw (prepared-reads t r) refl
prepared-reads t (record'.Ended u o ∷ r) = prepared-reads t r
prepared-reads t (y ∷ r) = prepared-reads t r

pub prepared-all-reads : (r : List Record) → prepared_all (of_participant r) ≡ prepared_all r
prepared-all-reads [] = refl
prepared-all-reads (record'.Prepared u home parts sid p reads writes ∷ r) = rw (prepared-all-reads r) refl
prepared-all-reads (record'.Ended u o ∷ r) = prepared-all-reads r
prepared-all-reads (y ∷ r) = prepared-all-reads r

pub pending-reads : (t : TxId) (r : List Record) → pending t (of_participant r) ≡ pending t r
pending-reads t [] = refl
pending-reads t (record'.Prepared u home parts sid p reads writes ∷ r) = rw (pending-reads t r) refl
pending-reads t (record'.Ended u o ∷ r) = rw (pending-reads t r) refl
pending-reads t (y ∷ r) = pending-reads t r

pub pendings-reads : (r : List Record) → pendings (of_participant r) ≡ pendings r
pendings-reads [] = refl
pendings-reads (record'.Prepared u home parts sid p reads writes ∷ r) = rw (pendings-reads r) refl
pendings-reads (record'.Ended u o ∷ r) = rw (pendings-reads r) refl
pendings-reads (y ∷ r) = pendings-reads r

pub ended-reads : (t : TxId) (r : List Record) → ended t (of_participant r) ≡ ended t r
ended-reads t [] = refl
ended-reads t (record'.Prepared u home parts sid p reads writes ∷ r) = ended-reads t r
ended-reads t (record'.Ended u o ∷ r) = rw (ended-reads t r) refl
ended-reads t (y ∷ r) = ended-reads t r

pub commits-reads : (r : List Record) → commits (of_participant r) ≡ commits r
commits-reads [] = refl
commits-reads (record'.Prepared u home parts sid p reads writes ∷ r) = commits-reads r
commits-reads (record'.Ended u (outcome.Commit f) ∷ r) = rw (commits-reads r) refl
commits-reads (record'.Ended u outcome.Abort ∷ r) = commits-reads r
commits-reads (y ∷ r) = commits-reads r

pub above-reads : (p : Ident) (r : List Record) → is_above p (of_participant r) ≡ is_above p r
above-reads p [] = refl
above-reads p (record'.Prepared u home parts sid q reads writes ∷ r) = rw (above-reads p r) refl
above-reads p (record'.Ended u (outcome.Commit f) ∷ r) = rw (above-reads p r) refl
above-reads p (record'.Ended u outcome.Abort ∷ r) = above-reads p r
above-reads p (y ∷ r) = above-reads p r

-- ---- by these words

pub home-reads : (t : TxId) (r : List Record) → home_of t (of_participant r) ≡ home_of t r
home-reads t r = ap home_in (prepared-reads t r)

pub clear-reads : (s : Ident) (r : List Record) → is_clear s (of_participant r) ≡ is_clear s r
clear-reads s r = ap (all_above s) (pendings-reads r)

applied-of-reads : (r : List Record) (xs : List (TxId × Ident)) → applied_of (of_participant r) xs ≡ applied_of r xs
applied-of-reads r [] = refl
applied-of-reads r (x ∷ xs) = rw (clear-reads x.1 r) (rw (applied-of-reads r xs) refl)

pub applied-reads : (r : List Record) → applied (of_participant r) ≡ applied r
applied-reads r = applied-of-reads r (commits (of_participant r)) ∙ ap (applied_of r) (commits-reads r)

pub commit-id-reads : (r : List Record) → commit_id (of_participant r) ≡ commit_id r
commit-id-reads r = ap greatest (applied-reads r)

best-reads : (r : List Record) (k : Key) (start : Value) (xs : List (TxId × Ident)) →
    best (of_participant r) k start xs ≡ best r k start xs
best-reads r k start [] = refl
best-reads r k start (x ∷ xs) = rw (prepared-reads x.0 r) (rw (best-reads r k start xs) refl)

pub version-at-reads : (k : Key) (start : Value) (s : Ident) (r : List Record) →
    version_at (of_participant r) k start s ≡ version_at r k start s
version-at-reads k start s r =
    best-reads r k start (up_to s (applied (of_participant r)))
    ∙ ap (λ xs. best r k start (up_to s xs)) (applied-reads r)

pub newest-reads : (k : Key) (r : List Record) → newest (of_participant r) k ≡ newest r k
newest-reads k r = ap (λ v. v.ident) (best-reads r k 0 (applied (of_participant r)) ∙ ap (best r k 0) (applied-reads r))

unapplied-reads : (o : Option Outcome) (r : List Record) → is_unapplied o (of_participant r) ≡ is_unapplied o r
unapplied-reads (Some (outcome.Commit f)) r = rw (clear-reads f r) refl
unapplied-reads (Some outcome.Abort) r = refl
unapplied-reads None r = refl

pub locking-reads : (u : TxId) (r : List Record) → is_locking u (of_participant r) ≡ is_locking u r
locking-reads u r = rw (pending-reads u r) (rw (ended-reads u r) (rw (unapplied-reads (ended u r) r) refl))

holds-out-reads : (u : TxId) (r : List Record) (t : TxId) (reads : List Key) (writes : List (Key × Value)) →
    holds_out u (of_participant r) t reads writes ≡ holds_out u r t reads writes
holds-out-reads u r t reads writes = rw (locking-reads u r) (rw (prepared-reads u r) refl)

holder-among-reads : (us : List TxId) (r : List Record) (t : TxId) (reads : List Key) (writes : List (Key × Value)) →
    holder_among us (of_participant r) t reads writes ≡ holder_among us r t reads writes
holder-among-reads [] r t reads writes = refl
holder-among-reads (u ∷ us) r t reads writes =
    rw (holds-out-reads u r t reads writes) (rw (holder-among-reads us r t reads writes) refl)

pub holder-reads : (t : TxId) (reads : List Key) (writes : List (Key × Value)) (r : List Record) →
    holder (of_participant r) t reads writes ≡ holder r t reads writes
holder-reads t reads writes r =
    holder-among-reads (prepared_all (of_participant r)) r t reads writes
    ∙ ap (λ us. holder_among us r t reads writes) (prepared-all-reads r)

newer-by : (r : List Record) (ks : List Key) (sid : Ident) → newer (of_participant r) ks sid ≡ newer r ks sid
newer-by r [] sid = refl
newer-by r (k ∷ ks) sid = rw (newest-reads k r) (rw (newer-by r ks sid) refl)

pub newer-reads : (ks : List Key) (sid : Ident) (r : List Record) → newer (of_participant r) ks sid ≡ newer r ks sid
newer-reads ks sid r = newer-by r ks sid
