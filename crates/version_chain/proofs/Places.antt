-- What the order of identifiers says of the places of a table.
use Rattle.std.proofs.Common.{◌≡◌, ℕ, ◌+◌, ◌<◌, List, length, get_or, sym, arith}
use Rattle.std.specs.Ordering.{nat_cmp}
use Rattle.std.specs.declared.cmp.Ordering.TheVariants.{Less, Equal, Greater}
use Rattle.std.specs.Cmp.{nat_cmp_is}
use Rattle.std.proofs.lemmas.Cmp.{ranked}
use Rattle.score_base.specs.Tables.{IsGap}
use Rattle.version_chain.specs.Versions.{RisesFrom, newest_in_chain, version_in_chain}
use Rattle.version_chain.proofs.Rising.{at_most_newest, seen_at, seen_none, rises}

-- a newer version than all others stands behind them
pub gap_at_end : (vs : List (ℕ × ℕ)) (vn : ℕ) → newest_in_chain vs < vn → IsGap nat_cmp vs vn (length vs)
gap_at_end vs vn above = record {
  order = omega arith;
  within = omega arith;
  below = λ j d within. sym (nat_cmp_is (get_or vs j d).0 vn Less (omega (arith, above, at_most_newest vs j d within)));
  above = λ j d far within. absurd (omega (arith, far, within));
}

-- a version that has the identifier is seen
pub seen_found : (initial : ℕ) (vs : List (ℕ × ℕ)) (sid i : ℕ) (d : ℕ × ℕ)
    → RisesFrom 0 vs → i < length vs → nat_cmp (get_or vs i d).0 sid ≡ Equal
    → version_in_chain initial vs sid ≡ get_or vs i d
seen_found initial vs sid i d up within is =
    let same : (get_or vs i d).0 ≡ sid = ranked (get_or vs i d).0 sid Equal (sym is) in
    seen_at initial 0 vs sid i d up within (omega (arith, same)) (λ more. omega (arith, same, rises 0 vs i d up more))

-- where no version has it, the one before its place is seen
pub seen_before : (initial : ℕ) (vs : List (ℕ × ℕ)) (sid i : ℕ) (d : ℕ × ℕ)
    → RisesFrom 0 vs → IsGap nat_cmp vs sid (i + 1) → version_in_chain initial vs sid ≡ get_or vs i d
seen_before initial vs sid i d up gap =
    seen_at initial 0 vs sid i d up (omega (arith, gap.within))
    (omega (arith, ranked (get_or vs i d).0 sid Less (sym (gap.below i d (omega arith)))))
    (λ more. ranked (get_or vs (i + 1) d).0 sid Greater (sym (gap.above (i + 1) d (omega arith) more)))

-- and where its place is the first, the initial value is seen
pub seen_initial : (initial : ℕ) (vs : List (ℕ × ℕ)) (sid : ℕ)
    → RisesFrom 0 vs → IsGap nat_cmp vs sid 0 → version_in_chain initial vs sid ≡ (0, initial)
seen_initial initial vs sid up gap =
    seen_none initial 0 vs sid up (λ d some. ranked (get_or vs 0 d).0 sid Greater (sym (gap.above 0 d (omega arith) some)))
