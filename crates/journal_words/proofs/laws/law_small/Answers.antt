use Rattle.journal_words.specs.Journals.{applied, commit_id, ended, holder, home_of, is_clear, is_locking, newer, newest, pending, pendings, prepared_of, version_at}
use Rattle.journal_words.specs.Small.{small}
use Rattle.journal_words.proofs.Smalls.{small-more, small-in-time}
use Rattle.journal_words.proofs.ParticipantWords.{same_word, prepared-reads, home-reads, pending-reads, pendings-reads, clear-reads, ended-reads, applied-reads, commit-id-reads, version-at-reads, newest-reads, locking-reads, holder-reads, newer-reads}
use Rattle.journal_words.proofs.AlikeWords.{small-participant, small-undone, small-floor, fit-highest}
use Rattle.journal_words.proofs.SmallFits.{small-fit}
use Rattle.journal_words.proofs.laws.law_small.Goals as goal

pub returns-clause-more : goal.returns-clause-more
returns-clause-more c = small-more

pub returns-clause-in_time : goal.returns-clause-in_time
returns-clause-in_time c = small-in-time

pub returns-clause-prepared : goal.returns-clause-prepared
returns-clause-prepared c = λ t r. same_word (prepared_of t) (prepared-reads t) (small r) r (small-participant r)

pub returns-clause-home : goal.returns-clause-home
returns-clause-home c = λ t r. same_word (home_of t) (home-reads t) (small r) r (small-participant r)

pub returns-clause-pending : goal.returns-clause-pending
returns-clause-pending c = λ t r. same_word (pending t) (pending-reads t) (small r) r (small-participant r)

pub returns-clause-pendings : goal.returns-clause-pendings
returns-clause-pendings c = λ r. same_word pendings pendings-reads (small r) r (small-participant r)

pub returns-clause-clear : goal.returns-clause-clear
returns-clause-clear c = λ s r. same_word (is_clear s) (clear-reads s) (small r) r (small-participant r)

pub returns-clause-ended : goal.returns-clause-ended
returns-clause-ended c = λ t r. same_word (ended t) (ended-reads t) (small r) r (small-participant r)

pub returns-clause-applied : goal.returns-clause-applied
returns-clause-applied c = λ r. same_word applied applied-reads (small r) r (small-participant r)

pub returns-clause-commit_id : goal.returns-clause-commit_id
returns-clause-commit_id c = λ r. same_word commit_id commit-id-reads (small r) r (small-participant r)

pub returns-clause-version : goal.returns-clause-version
returns-clause-version c =
    λ r k start s. same_word (λ q. version_at q k start s) (version-at-reads k start s) (small r) r
    (small-participant r)

pub returns-clause-newest : goal.returns-clause-newest
returns-clause-newest c = λ r k. same_word (λ q. newest q k) (newest-reads k) (small r) r (small-participant r)

pub returns-clause-locking : goal.returns-clause-locking
returns-clause-locking c = λ u r. same_word (is_locking u) (locking-reads u) (small r) r (small-participant r)

pub returns-clause-holder : goal.returns-clause-holder
returns-clause-holder c =
    λ r t reads writes. same_word (λ q. holder q t reads writes) (holder-reads t reads writes) (small r) r
    (small-participant r)

pub returns-clause-newer : goal.returns-clause-newer
returns-clause-newer c =
    λ r ks sid. same_word (λ q. newer q ks sid) (newer-reads ks sid) (small r) r (small-participant r)

pub returns-clause-undone : goal.returns-clause-undone
returns-clause-undone c = small-undone

pub returns-clause-floor : goal.returns-clause-floor
returns-clause-floor c = small-floor

pub returns-clause-highest : goal.returns-clause-highest
returns-clause-highest c = fit-highest

pub returns-clause-fit : goal.returns-clause-fit
returns-clause-fit c = small-fit
