-- What is needless stays needless: records may be made small before others come behind them.
use Rattle.std.proofs.Common.{◌≡◌, ◌==◌, Bool, true, false, List, [], ◌∷◌, ◌++◌, reverse, refl, sym, ap, ◌∙◌, if◌then◌else◌}
use Rattle.std.proofs.lemmas.List.{reverse-append, reverse-reverse}
use Rattle.score_base.specs.declared.ids.TxId.{TxId}
use Rattle.score_base.specs.declared.records.Record.{Record}
use Rattle.score_base.specs.declared.records.Record.TheVariants as record'
use Rattle.journal_words.specs.Small.{without_ceilings, without_decided, small, small_in_time}

-- ---- what is taken out twice, and in either order

pub ceilings-twice : (r : List Record) → without_ceilings (without_ceilings r) ≡ without_ceilings r
ceilings-twice [] = refl
ceilings-twice (record'.Ceiling c ∷ r) = ceilings-twice r
ceilings-twice (x ∷ r) = ap (λ s. x ∷ s) (ceilings-twice r)

pub ceilings-decided : (t : TxId) (r : List Record) →
    without_ceilings (without_decided t r) ≡ without_decided t (without_ceilings r)
ceilings-decided t [] = refl
ceilings-decided t (record'.Ceiling c ∷ r) = ceilings-decided t r
ceilings-decided t (record'.Decided u f parts ∷ r) = go (u == t) (ceilings-decided t r)
  where
    go : (b : Bool) → without_ceilings (without_decided t r) ≡ without_decided t (without_ceilings r) →
        without_ceilings (if b then without_decided t r else record'.Decided u f parts ∷ without_decided t r)
        ≡ (if b then without_decided t (without_ceilings r) else record'.Decided u f parts
        ∷ without_decided t (without_ceilings r))
    go true e = e
    go false e = ap (λ s. record'.Decided u f parts ∷ s) e
ceilings-decided t (x ∷ r) = ap (λ s. x ∷ s) (ceilings-decided t r)

decided-decided : (t u : TxId) (r : List Record) →
    without_decided t (without_decided u r) ≡ without_decided u (without_decided t r)
decided-decided t u [] = refl
decided-decided t u (record'.Decided w f parts ∷ r) = go (w == u) (w == t) refl refl (decided-decided t u r)
  where
    go : (a b : Bool) → w == u ≡ a → w == t ≡ b →
        without_decided t (without_decided u r) ≡ without_decided u (without_decided t r) →
        without_decided t (if a then without_decided u r else record'.Decided w f parts ∷ without_decided u r)
        ≡ without_decided u (if b then without_decided t r else record'.Decided w f parts ∷ without_decided t r)
    go true true a b e = e
    go true false a b e = rw a e
    go false true a b e = rw b e
    go false false a b e = rw (a, b) (ap (λ s. record'.Decided w f parts ∷ s) e)
decided-decided t u (x ∷ r) = ap (λ s. x ∷ s) (decided-decided t u r)

-- ---- Small of what is left

small-ceilings : (r : List Record) → small (without_ceilings r) ≡ without_ceilings (small r)
small-ceilings [] = refl
small-ceilings (record'.Ceiling c ∷ r) = small-ceilings r ∙ sym (ceilings-twice (small r))
small-ceilings (record'.Closed t ∷ r) = ap (without_decided t) (small-ceilings r) ∙ sym (ceilings-decided t (small r))
small-ceilings (x ∷ r) = ap (λ s. x ∷ s) (small-ceilings r)

small-decided : (t : TxId) (r : List Record) → small (without_decided t r) ≡ without_decided t (small r)
small-decided t [] = refl
small-decided t (record'.Ceiling c ∷ r) =
    ap (λ s. record'.Ceiling c ∷ s) (ap without_ceilings (small-decided t r) ∙ ceilings-decided t (small r))
small-decided t (record'.Closed u ∷ r) = ap (without_decided u) (small-decided t r) ∙ decided-decided u t (small r)
small-decided t (record'.Decided u f parts ∷ r) = go (u == t) (small-decided t r)
  where
    go : (b : Bool) → small (without_decided t r) ≡ without_decided t (small r) →
        small (if b then without_decided t r else record'.Decided u f parts ∷ without_decided t r)
        ≡ (if b then without_decided t (small r) else record'.Decided u f parts ∷ without_decided t (small r))
    go true e = e
    go false e = ap (λ s. record'.Decided u f parts ∷ s) e
small-decided t (x ∷ r) = ap (λ s. x ∷ s) (small-decided t r)

-- ---- Small twice, and before others

pub small-twice : (r : List Record) → small (small r) ≡ small r
small-twice [] = refl
small-twice (record'.Ceiling c ∷ r) =
    ap (λ s. record'.Ceiling c ∷ s) (ap without_ceilings (small-ceilings (small r)) ∙ ceilings-twice (small (small r))
    ∙ ap without_ceilings (small-twice r))
small-twice (record'.Closed t ∷ r) = small-decided t (small r) ∙ ap (without_decided t) (small-twice r)
small-twice (x ∷ r) = ap (λ s. x ∷ s) (small-twice r)

-- journals with the same Small have it behind one record more
pub small-next : (x : Record) (r s : List Record) → small r ≡ small s → small (x ∷ r) ≡ small (x ∷ s)
small-next (record'.Ceiling c) r s e = ap (λ q. record'.Ceiling c ∷ without_ceilings q) e
small-next (record'.Closed t) r s e = ap (without_decided t) e
small-next x r s e = ap (λ q. x ∷ q) e

-- and behind more records
pub small-later : (b r s : List Record) → small r ≡ small s → small (b ++ r) ≡ small (b ++ s)
small-later [] r s e = e
small-later (x ∷ b) r s e = small-next x (b ++ r) (b ++ s) (small-later b r s e)

-- records may be made small before others come behind them
pub small-more : (b r : List Record) → small (b ++ small r) ≡ small (b ++ r)
small-more b r = small-later b (small r) r (small-twice r)

-- in the order of time as well
pub small-in-time : (a b : List Record) → small_in_time (small_in_time a ++ b) ≡ small_in_time (a ++ b)
small-in-time a b =
    let turned : reverse (small_in_time a ++ b) ≡ reverse b ++ small (reverse a) =
    reverse-append (small_in_time a) b ∙ ap (λ s. reverse b ++ s) (reverse-reverse (small (reverse a))) in
    ap (λ s. reverse (small s)) turned ∙ ap reverse (small-more (reverse b) (reverse a))
    ∙ sym (ap (λ s. reverse (small s)) (reverse-append a b))
