-- A journal and its Small are alike, and alike journals stay so behind one record more.
use Rattle.std.proofs.Common.{◌≡◌, ◌≤◌, ◌<◌, ◌==◌, ◌||◌, max, Bool, true, false, List, [], ◌∷◌, Option, Some, None, refl, sym, ap, ◌∙◌, arith, if◌then◌else◌}
use Rattle.std.proofs.lemmas.Bool.{and_parts, and_from}
use Rattle.std.proofs.lemmas.Bool.Decides.{nat_tests}
use Rattle.std.specs.Prelude.{nat_lt, nat_le}
use Rattle.score_base.specs.declared.ids.TxId.{TxId}
use Rattle.score_base.specs.declared.ids.NodeId.{NodeId}
use Rattle.score_base.specs.declared.ids.Ident.{Ident}
use Rattle.score_base.specs.declared.causes.Outcome.TheVariants as outcome
use Rattle.score_base.specs.declared.records.Record.{Record}
use Rattle.score_base.specs.declared.records.Record.TheVariants as record'
use Rattle.placement.specs.Clusters.{ClusterData}
use Rattle.journal_words.specs.Journals.{Decision, decision, is_closed, undone, floor, all_fit}
use Rattle.journal_words.specs.Small.{without_ceilings, without_decided, small, are_ceilings_within, is_last_ceiling_highest, of_participant, AreAlike}
use Rattle.journal_words.proofs.Fits.{newest-fits, rest-fits}
use Rattle.journal_words.proofs.Smalls.{ceilings-twice, ceilings-decided}

-- ---- the records of a participant

pub ceilings-participant : (r : List Record) → of_participant (without_ceilings r) ≡ of_participant r
ceilings-participant [] = refl
ceilings-participant (record'.Prepared t home parts sid p reads writes ∷ r) =
    ap (λ s. record'.Prepared t home parts sid p reads writes ∷ s) (ceilings-participant r)
ceilings-participant (record'.Ended t o ∷ r) = ap (λ s. record'.Ended t o ∷ s) (ceilings-participant r)
ceilings-participant (x ∷ r) = ceilings-participant r

pub decided-participant : (t : TxId) (r : List Record) → of_participant (without_decided t r) ≡ of_participant r
decided-participant t [] = refl
decided-participant t (record'.Prepared u home parts sid p reads writes ∷ r) =
    ap (λ s. record'.Prepared u home parts sid p reads writes ∷ s) (decided-participant t r)
decided-participant t (record'.Ended u o ∷ r) = ap (λ s. record'.Ended u o ∷ s) (decided-participant t r)
decided-participant t (record'.Decided u f parts ∷ r) = go (u == t) (decided-participant t r)
  where
    go : (b : Bool) → of_participant (without_decided t r) ≡ of_participant r →
        of_participant (if b then without_decided t r else record'.Decided u f parts ∷ without_decided t r)
        ≡ of_participant r
    go true e = e
    go false e = e
decided-participant t (x ∷ r) = decided-participant t r

pub small-participant : (r : List Record) → of_participant (small r) ≡ of_participant r
small-participant [] = refl
small-participant (record'.Prepared t home parts sid p reads writes ∷ r) =
    ap (λ s. record'.Prepared t home parts sid p reads writes ∷ s) (small-participant r)
small-participant (record'.Ended t o ∷ r) = ap (λ s. record'.Ended t o ∷ s) (small-participant r)
small-participant (record'.Ceiling c ∷ r) = ceilings-participant (small r) ∙ small-participant r
small-participant (record'.Decided t f parts ∷ r) = small-participant r
small-participant (record'.Closed t ∷ r) = decided-participant t (small r) ∙ small-participant r

-- ---- what is decided and not closed

-- no Closed stays
pub ceilings-closed : (t : TxId) (r : List Record) → is_closed t (without_ceilings r) ≡ is_closed t r
ceilings-closed t [] = refl
ceilings-closed t (record'.Ceiling c ∷ r) = ceilings-closed t r
ceilings-closed t (record'.Closed u ∷ r) = ap (λ b. (u == t) || b) (ceilings-closed t r)
ceilings-closed t (record'.Decided u f parts ∷ r) = ap (λ b. if u == t then false else b) (ceilings-closed t r)
ceilings-closed t (x ∷ r) = ceilings-closed t r

pub ceilings-decision : (t : TxId) (r : List Record) → decision t (without_ceilings r) ≡ decision t r
ceilings-decision t [] = refl
ceilings-decision t (record'.Ceiling c ∷ r) = ceilings-decision t r
ceilings-decision t (record'.Decided u f parts ∷ r) = rw (ceilings-decision t r) refl
ceilings-decision t (x ∷ r) = ceilings-decision t r

-- there is no Closed
abbrev pub has_none : List Record → Bool
has_none [] = true
has_none (record'.Closed u ∷ r) = false
has_none (x ∷ r) = has_none r

none-ceilings : (r : List Record) → has_none r ≡ true → has_none (without_ceilings r) ≡ true
none-ceilings [] h = h
none-ceilings (record'.Ceiling c ∷ r) h = none-ceilings r h
none-ceilings (record'.Closed u ∷ r) h = h
none-ceilings (x ∷ r) h = none-ceilings r h

pub none-decided : (t : TxId) (r : List Record) → has_none r ≡ true → has_none (without_decided t r) ≡ true
none-decided t [] h = h
none-decided t (record'.Closed u ∷ r) h = h
none-decided t (record'.Decided u f parts ∷ r) h = go (u == t) (none-decided t r h)
  where
    go : (b : Bool) → has_none (without_decided t r) ≡ true →
        has_none (if b then without_decided t r else record'.Decided u f parts ∷ without_decided t r) ≡ true
    go true e = e
    go false e = e
none-decided t (x ∷ r) h = none-decided t r h

pub none-small : (r : List Record) → has_none (small r) ≡ true
none-small [] = refl
none-small (record'.Ceiling c ∷ r) = none-ceilings (small r) (none-small r)
none-small (record'.Closed t ∷ r) = none-decided t (small r) (none-small r)
none-small (x ∷ r) = none-small r

pub none-closed : (t : TxId) (r : List Record) → has_none r ≡ true → is_closed t r ≡ false
none-closed t [] h = refl
none-closed t (record'.Closed u ∷ r) h = absurd (grind (arith, h))
none-closed t (record'.Decided u f parts ∷ r) h = go (u == t) (none-closed t r h)
  where
    go : (b : Bool) → is_closed t r ≡ false → (if b then false else is_closed t r) ≡ false
    go true e = refl
    go false e = e
none-closed t (x ∷ r) h = none-closed t r h

-- what is decided without the Decided of u
pub decided-decision : (t u : TxId) (r : List Record) →
    decision t (without_decided u r) ≡ (if u == t then None else decision t r)
decided-decision t u [] = go (u == t)
  where
    go : (b : Bool) → (let none : Option Decision = None in none ≡ (if b then none else none))
    go true = refl
    go false = refl
decided-decision t u (record'.Decided w f parts ∷ r) = grind (arith, nat_tests, decided-decision t u r)
decided-decision t u (x ∷ r) = decided-decision t u r

small-decision : (t : TxId) (r : List Record) → decision t (small r) ≡ undone t r
small-decision t [] = refl
small-decision t (record'.Ceiling c ∷ r) = ceilings-decision t (small r) ∙ small-decision t r
small-decision t (record'.Closed u ∷ r) =
    decided-decision t u (small r) ∙ rw (small-decision t r) (go (u == t) (is_closed t r))
  where
    go : (a b : Bool) → (if a then None else (if b then None else decision t r))
        ≡ (if a || b then None else decision t r)
    go true b = refl
    go false b = refl
small-decision t (record'.Decided u f parts ∷ r) = rw (small-decision t r) (go (u == t) (is_closed t r))
  where
    go : (a b : Bool) → (let y : Decision = record { final = f; parts = parts } in
        (if a then Some y else (if b then None else decision t r))
        ≡ (if (if a then false else b) then None else (if a then Some y else decision t r)))
    go true b = refl
    go false true = refl
    go false false = refl
small-decision t (x ∷ r) = small-decision t r

pub small-undone : (t : TxId) (r : List Record) → undone t (small r) ≡ undone t r
small-undone t r = rw (none-closed t (small r) (none-small r)) (small-decision t r)

-- ---- the floor

pub ceilings-floor : (r : List Record) → floor (without_ceilings r) ≤ floor r
ceilings-floor [] = omega arith
ceilings-floor (record'.Prepared t home parts sid p reads writes ∷ r) = omega (arith, ceilings-floor r)
ceilings-floor (record'.Ended t (outcome.Commit f) ∷ r) = omega (arith, ceilings-floor r)
ceilings-floor (record'.Ended t outcome.Abort ∷ r) = ceilings-floor r
ceilings-floor (record'.Ceiling c ∷ r) = omega (arith, ceilings-floor r)
ceilings-floor (x ∷ r) = ceilings-floor r

pub decided-floor : (t : TxId) (r : List Record) → floor (without_decided t r) ≡ floor r
decided-floor t [] = refl
decided-floor t (record'.Prepared u home parts sid p reads writes ∷ r) = ap (max p) (decided-floor t r)
decided-floor t (record'.Ended u (outcome.Commit f) ∷ r) = ap (max f) (decided-floor t r)
decided-floor t (record'.Ended u outcome.Abort ∷ r) = decided-floor t r
decided-floor t (record'.Ceiling c ∷ r) = ap (max c) (decided-floor t r)
decided-floor t (record'.Decided u f parts ∷ r) = go (u == t) (decided-floor t r)
  where
    go : (b : Bool) → floor (without_decided t r) ≡ floor r →
        floor (if b then without_decided t r else record'.Decided u f parts ∷ without_decided t r) ≡ floor r
    go true e = e
    go false e = e
decided-floor t (x ∷ r) = decided-floor t r

-- a Ceiling that is highest covers those that go
covered-floor : (c : Ident) (r : List Record) → are_ceilings_within c r ≡ true →
    max c (floor (without_ceilings (small r))) ≡ max c (floor r)
covered-floor c [] h = refl
covered-floor c (record'.Prepared t home parts sid p reads writes ∷ r) h = omega (arith, covered-floor c r h)
covered-floor c (record'.Ended t (outcome.Commit f) ∷ r) h = omega (arith, covered-floor c r h)
covered-floor c (record'.Ended t outcome.Abort ∷ r) h = covered-floor c r h
covered-floor c (record'.Ceiling d ∷ r) h =
    let a = and_parts (nat_le d c) (are_ceilings_within c r) h in
    let le : d ≤ c = (let b = a.0 in grind (arith, nat_tests, b)) in
    let same = ap floor (ceilings-twice (small r)) in
    omega (arith, same, covered-floor c r a.1, le)
covered-floor c (record'.Decided t f parts ∷ r) h = covered-floor c r h
covered-floor c (record'.Closed t ∷ r) h =
    let gone = ap floor (ceilings-decided t (small r)) ∙ decided-floor t (without_ceilings (small r)) in
    ap (max c) gone ∙ covered-floor c r h

pub small-floor : (r : List Record) → is_last_ceiling_highest r ≡ true → floor (small r) ≡ floor r
small-floor [] h = refl
small-floor (record'.Prepared t home parts sid p reads writes ∷ r) h = ap (max p) (small-floor r h)
small-floor (record'.Ended t (outcome.Commit f) ∷ r) h = ap (max f) (small-floor r h)
small-floor (record'.Ended t outcome.Abort ∷ r) h = small-floor r h
small-floor (record'.Ceiling c ∷ r) h = covered-floor c r h
small-floor (record'.Decided t f parts ∷ r) h = small-floor r h
small-floor (record'.Closed t ∷ r) h = decided-floor t (small r) ∙ small-floor r h

-- what the floor covers, no Ceiling is above
floor-within : (c : Ident) (r : List Record) → floor r ≤ c → are_ceilings_within c r ≡ true
floor-within c [] h = refl
floor-within c (record'.Prepared t home parts sid p reads writes ∷ r) h = floor-within c r (omega (arith, h))
floor-within c (record'.Ended t (outcome.Commit f) ∷ r) h = floor-within c r (omega (arith, h))
floor-within c (record'.Ended t outcome.Abort ∷ r) h = floor-within c r h
floor-within c (record'.Ceiling d ∷ r) h =
    and_from _ _ (let le : d ≤ c = omega (arith, h) in
    grind (arith, nat_tests, le)) (floor-within c r (omega (arith, h)))
floor-within c (record'.Decided t f parts ∷ r) h = floor-within c r h
floor-within c (record'.Closed t ∷ r) h = floor-within c r h

-- where each record fits, the last Ceiling is the highest
pub fit-highest : (c : ClusterData) (n : NodeId) (r : List Record) → all_fit c n r ≡ true →
    is_last_ceiling_highest r ≡ true
fit-highest c n [] h = refl
fit-highest c n (record'.Ceiling d ∷ r) h =
    let lt : floor r < d =
    (let a = (and_parts _ (nat_lt (floor r) d) (newest-fits c n (record'.Ceiling d) r h)).1 in
    grind (arith, nat_tests, a)) in
    floor-within d r (omega (arith, lt))
fit-highest c n (record'.Prepared t home parts sid p reads writes ∷ r) h =
    fit-highest c n r (rest-fits c n (record'.Prepared t home parts sid p reads writes) r h)
fit-highest c n (record'.Ended t o ∷ r) h = fit-highest c n r (rest-fits c n (record'.Ended t o) r h)
fit-highest c n (record'.Decided t f parts ∷ r) h = fit-highest c n r (rest-fits c n (record'.Decided t f parts) r h)
fit-highest c n (record'.Closed t ∷ r) h = fit-highest c n r (rest-fits c n (record'.Closed t) r h)

-- ---- alike

pub alike-small : (r : List Record) → is_last_ceiling_highest r ≡ true → AreAlike (small r) r
alike-small r h = record { ballots = small-participant r; clock = small-floor r h; decisions = λ t. small-undone t r }

-- journals with the same Small, in each of which the last Ceiling is the highest, are alike
pub alike-by-small : (r s : List Record) → is_last_ceiling_highest r ≡ true → is_last_ceiling_highest s ≡ true →
    small r ≡ small s → AreAlike r s
alike-by-small r s hr hs e = record {
  ballots = sym (small-participant r) ∙ ap of_participant e ∙ small-participant s;
  clock = sym (small-floor r hr) ∙ ap floor e ∙ small-floor s hs;
  decisions = λ t. sym (small-undone t r) ∙ ap (undone t) e ∙ small-undone t s;
}
