-- Outcomes, ballots and dates: the same two ways.
use Rattle.std.proofs.Common.{◌≡◌, ℕ, zero, suc, List, [], ◌∷◌, ◌++◌, Option, Some, None, option_map, refl, sym, ap, subst, ◌∙◌}
use Rattle.std.proofs.lemmas.List.{append-nil}
use Rattle.score_base.specs.declared.causes.Outcome.{Outcome}
use Rattle.score_base.specs.declared.causes.Outcome.TheVariants.{Commit, Abort}
use Rattle.score_base.specs.declared.causes.Cause.TheVariants.{Holder, Newer}
use Rattle.score_base.specs.declared.causes.Ballot.{Ballot}
use Rattle.score_base.specs.declared.causes.Ballot.TheVariants.{Yes, No}
use Rattle.score_base.specs.declared.causes.Date.{Date}
use Rattle.score_base.specs.declared.causes.Date.TheVariants.{First, At}
use Rattle.score_fields.specs.Spelling.{IsBytes, IsSpelling, IsOutcome, outcome_bytes, IsBallot, ballot_bytes, IsDate, date_bytes}
use Rattle.score_fields.specs.Reading.{◌>>=◌, first_outcome, first_ballot, first_date}
use Rattle.score_fields.proofs.Codecs.{IsCodec, IsBytes-rest, bind_some, codec_eight, codec_tx, codec_write}

-- what one value behind a byte was
behind_takes : {A B : Type 0} {Is : A → Type 0} {bytes_of : A → List ℕ} {first : List ℕ → Option (A × List ℕ)}
    (Good : B → Type 0) (said : B → List ℕ) (make : A → B) (b : ℕ)
    → IsCodec Is bytes_of first → ((a : A) → Is a → Good (make a)) → ((a : A) → said (make a) ≡ b ∷ bytes_of a)
    → (bytes : List ℕ) (x : B × List ℕ) → IsBytes (b ∷ bytes) → (first bytes >>= λ a. Some (make a.0, a.1)) ≡ Some x
    → Good x.0 × (b ∷ bytes ≡ said x.0 ++ x.1)
behind_takes {A} {B} {Is} {bytes_of} {first} Good said make b codec good same bytes x fits e =
    let a = bind_some (first bytes) (λ y. Some (make y.0, y.1)) x e in
    let p = codec.takes bytes a.0.0 a.0.1 (IsBytes-rest b bytes fits) a.1 in
    let made : B × List ℕ = (make a.0.0, a.0.1) in
    let is : made ≡ x = cc in
    let whole : b ∷ bytes ≡ said (make a.0.0) ++ a.0.1 = ap (λ (y : List ℕ). b ∷ y) p.1 ∙ ap (λ (y : List ℕ). y ++ a.0.1) (sym (same a.0.0)) in
    subst (λ (y : B × List ℕ). Good y.0 × (b ∷ bytes ≡ said y.0 ++ y.1)) is (good a.0.0 p.0, whole)

outcome_again : (o : Outcome) (rest : List ℕ) → IsOutcome o → first_outcome (outcome_bytes o ++ rest) ≡ Some (o, rest)
unfolding first_outcome
outcome_again (Commit f) rest h = rw (codec_eight.again f rest h) refl
outcome_again Abort rest h = refl

outcome_takes : (bytes : List ℕ) (o : Outcome) (rest : List ℕ) → IsBytes bytes → first_outcome bytes ≡ Some (o, rest)
    → IsOutcome o × (bytes ≡ outcome_bytes o ++ rest)
unfolding first_outcome
outcome_takes [] o rest fits e = absurd cc
outcome_takes (zero ∷ bytes) o rest fits e =
    let made : Outcome × List ℕ = (Abort, bytes) in
    let same : made ≡ (o, rest) = cc in
    subst (λ (y : Outcome × List ℕ). IsOutcome y.0 × (0 ∷ bytes ≡ outcome_bytes y.0 ++ y.1)) same (tt, refl)
outcome_takes (suc zero ∷ bytes) o rest fits e = behind_takes IsOutcome outcome_bytes (λ f. Commit f) 1 codec_eight (λ f h. h) (λ f. refl) bytes (o, rest) fits e
outcome_takes (suc (suc b) ∷ bytes) o rest fits e = absurd cc

pub codec_outcome : IsCodec IsOutcome outcome_bytes first_outcome
codec_outcome = record { again = outcome_again; takes = outcome_takes }

ballot_again : (v : Ballot) (rest : List ℕ) → IsBallot v → first_ballot (ballot_bytes v ++ rest) ≡ Some (v, rest)
unfolding first_ballot
ballot_again (Yes p) rest h = rw (codec_eight.again p rest h) refl
ballot_again (No (Holder t)) rest h = rw (codec_tx.again t rest h) refl
ballot_again (No (Newer key f)) rest h = rw (codec_write.again (key, f) rest h) refl

ballot_takes : (bytes : List ℕ) (v : Ballot) (rest : List ℕ) → IsBytes bytes → first_ballot bytes ≡ Some (v, rest)
    → IsBallot v × (bytes ≡ ballot_bytes v ++ rest)
unfolding first_ballot
ballot_takes [] v rest fits e = absurd cc
ballot_takes (zero ∷ bytes) v rest fits e = absurd cc
ballot_takes (suc zero ∷ bytes) v rest fits e = behind_takes IsBallot ballot_bytes (λ p. Yes p) 1 codec_eight (λ p h. h) (λ p. refl) bytes (v, rest) fits e
ballot_takes (suc (suc zero) ∷ bytes) v rest fits e = behind_takes IsBallot ballot_bytes (λ t. No (Holder t)) 2 codec_tx (λ t h. h) (λ t. refl) bytes (v, rest) fits e
ballot_takes (suc (suc (suc zero)) ∷ bytes) v rest fits e = behind_takes IsBallot ballot_bytes (λ w. No (Newer w.0 w.1)) 3 codec_write (λ w h. h) (λ w. refl) bytes (v, rest) fits e
ballot_takes (suc (suc (suc (suc b))) ∷ bytes) v rest fits e = absurd cc

pub codec_ballot : IsCodec IsBallot ballot_bytes first_ballot
codec_ballot = record { again = ballot_again; takes = ballot_takes }

date_again : (d : Date) (rest : List ℕ) → IsDate d → first_date (date_bytes d ++ rest) ≡ Some (d, rest)
unfolding first_date
date_again (First sid) rest h = rw (codec_eight.again sid rest h) refl
date_again (At sid) rest h = rw (codec_eight.again sid rest h) refl

date_takes : (bytes : List ℕ) (d : Date) (rest : List ℕ) → IsBytes bytes → first_date bytes ≡ Some (d, rest)
    → IsDate d × (bytes ≡ date_bytes d ++ rest)
unfolding first_date
date_takes [] d rest fits e = absurd cc
date_takes (zero ∷ bytes) d rest fits e = behind_takes IsDate date_bytes (λ sid. First sid) 0 codec_eight (λ sid h. h) (λ sid. refl) bytes (d, rest) fits e
date_takes (suc zero ∷ bytes) d rest fits e = behind_takes IsDate date_bytes (λ sid. At sid) 1 codec_eight (λ sid h. h) (λ sid. refl) bytes (d, rest) fits e
date_takes (suc (suc b) ∷ bytes) d rest fits e = absurd cc

pub codec_date : IsCodec IsDate date_bytes first_date
codec_date = record { again = date_again; takes = date_takes }

-- ---- a value that is all of the bytes

whole_read : {A : Type 0} {Is : A → Type 0} {bytes_of : A → List ℕ} {first : List ℕ → Option (A × List ℕ)}
    → IsCodec Is bytes_of first
    → (bytes : List ℕ) (h : IsSpelling Is bytes_of bytes) → first bytes ≡ Some (h.value, [])
whole_read {A} {Is} {bytes_of} {first} codec bytes h = ap first (h.spelled ∙ sym (append-nil (bytes_of h.value))) ∙ codec.again h.value [] h.fits

pub is_read : {A : Type 0} {Is : A → Type 0} {bytes_of : A → List ℕ} {first : List ℕ → Option (A × List ℕ)}
    → IsCodec Is bytes_of first
    → (bytes : List ℕ) (o : Option A) → IsSpelling Is bytes_of bytes → o ≡ option_map (λ x. x.0) (first bytes)
    → o ≡ None → ⊥
is_read {A} codec bytes o h e none =
    let read : o ≡ Some h.value = e ∙ ap (λ (y : Option (A × List ℕ)). option_map (λ x. x.0) y) (whole_read codec bytes h) in
    cc

pub read_is : {A : Type 0} {Is : A → Type 0} {bytes_of : A → List ℕ} {first : List ℕ → Option (A × List ℕ)}
    → IsCodec Is bytes_of first
    → (bytes : List ℕ) (o : Option A) (a : A) → IsSpelling Is bytes_of bytes → o ≡ option_map (λ x. x.0) (first bytes)
    → o ≡ Some a → bytes ≡ bytes_of a
read_is {A} {Is} {bytes_of} codec bytes o a h e some =
    let read : o ≡ Some h.value = e ∙ ap (λ (y : Option (A × List ℕ)). option_map (λ x. x.0) y) (whole_read codec bytes h) in
    let same : h.value ≡ a = cc in
    h.spelled ∙ ap bytes_of same
