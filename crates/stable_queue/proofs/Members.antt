-- The order of commits, and the first of a table of them as the least.
use Rattle.std.proofs.Common.{◌≡◌, ℕ, suc, ◌<◌, Bool, true, false, cond, not, ◌&&◌, ◌||◌, IsTrue, List, [], ◌∷◌, Option, Some, None, is_some, length, inl, inr, refl, sym, ap, subst, ◌∙◌, arith}
use Rattle.std.specs.Cmp.{IsTotalOrder, then_total, on_total, nat_cmp_total, tied_itself}
use Rattle.std.specs.Ordering.{nat_cmp, eq_by_cmp, is_eq, ordering_then}
use Rattle.std.specs.declared.cmp.Ordering.{Ordering}
use Rattle.std.specs.declared.cmp.Ordering.TheVariants.{Less, Equal, Greater}
use Rattle.std.specs.List.{slice_index_or, insert, remove, All}
use Rattle.std.proofs.lemmas.Cmp.{ranked}
use Rattle.std.proofs.lemmas.Grind.{common_steps}
use Rattle.std.proofs.lemmas.Bool.Decides.{nat_tests}
use Rattle.std.specs.FinSet as set
use Rattle.std.specs.FinMap as map
use Rattle.std.proofs.lemmas.Map.Lookups.{exact_pairs, exact_unsigned}
use Rattle.score_base.specs.Tables.{IsRising, IsGap}
use Rattle.score_base.proofs.TableMaps.{find_at, find_insert, find_remove, gap_absent}
use Rattle.stable_queue.specs.Commits.{by_final, is_below, IsAtMost, IsLeastBelow, commits_of}
use Rattle.std.specs.FinMap.Entries.{is_some-find}

pub by_final_total : IsTotalOrder by_final
by_final_total = then_total (on_total (λ m. m.0) nat_cmp_total) (on_total (λ m. m.1) nat_cmp_total)

pub by_final-IsAntisymmetric : set.IsAntisymmetric by_final
by_final-IsAntisymmetric = exact_pairs nat_cmp nat_cmp exact_unsigned exact_unsigned

then_at_most : (m n : ℕ × ℕ) → by_final m n ≡ Less → IsAtMost m n
then_at_most m n less = elim (nat_cmp m.0 n.0) as (λ r. nat_cmp m.0 n.0 ≡ r → ordering_then r (nat_cmp m.1 n.1) ≡ Less → IsAtMost m n) [
  | Less ↦ λ is e. inl (ranked m.0 n.0 Less (sym is))
  | Equal ↦ λ is e. inr (ranked m.0 n.0 Equal (sym is), (let low : m.1 < n.1 = ranked m.1 n.1 Less (sym e) in omega (arith, low)))
  | Greater ↦ λ is e. cc
] refl less

same_test : (r : Ordering) → is_eq r ≡ true → r ≡ Equal
same_test Equal e = refl
same_test Less e = cc
same_test Greater e = cc

-- whether a table has a commit
abbrev pub has : List ((ℕ × ℕ) × Unit {0}) → ℕ × ℕ → Bool
has ps m = is_some (map.find by_final m ps)

found_or : (m n : ℕ × ℕ) (q : (ℕ × ℕ) × Unit {0}) (qs : List ((ℕ × ℕ) × Unit {0})) (b : Bool)
    → eq_by_cmp by_final n q.0 ≡ b → IsAtMost m q.0 → (has qs n ≡ true → IsAtMost m n)
    → is_some (cond b (Some q.1) (map.find by_final n qs)) ≡ true → IsAtMost m n
found_or m n q qs true is here later among = subst (IsAtMost m) (sym (by_final-IsAntisymmetric n q.0 (same_test (by_final n q.0) is))) here
found_or m n q qs false is here later among = later among

at_most_found : (m : ℕ × ℕ) (ps : List ((ℕ × ℕ) × Unit {0})) (n : ℕ × ℕ) → All (λ p. IsAtMost m p.0) ps
    → has ps n ≡ true → IsAtMost m n
at_most_found m [] n low among = cc
at_most_found m (q ∷ qs) n low among =
    found_or m n q qs (eq_by_cmp by_final n q.0) refl (low 0 q (omega arith)) (λ later. at_most_found m qs n (λ j d within. low (suc j) d (omega (arith, within))) later) among

pub contains_has : (ps : List ((ℕ × ℕ) × Unit {0})) (m : ℕ × ℕ) → set.contains (commits_of ps) m ≡ has ps m
contains_has ps m = set.contains-from_list by_final_total _ m ∙ sym (is_some-find by_final m ps)

first_at_most : (p : (ℕ × ℕ) × Unit {0}) (ps : List ((ℕ × ℕ) × Unit {0})) (n : ℕ × ℕ) → IsRising by_final (p ∷ ps)
    → has (p ∷ ps) n ≡ true → IsAtMost p.0 n
first_at_most p ps n rising among =
    found_or p.0 n p ps (eq_by_cmp by_final n p.0) refl (inr (refl, omega arith))
    (λ later. at_most_found p.0 ps n (λ j d within. then_at_most p.0 _ (rising 0 (suc j) d (omega arith) (omega (arith, within)))) later) among

-- the first of a table is its least commit
pub least_below : (ps : List ((ℕ × ℕ) × Unit {0})) (limit : Option ℕ) (d : (ℕ × ℕ) × Unit {0}) → IsRising by_final ps
    → 0 < length ps
    → IsTrue (is_below limit (slice_index_or ps 0 d).0.0) → IsLeastBelow (commits_of ps) limit (slice_index_or ps 0 d).0
least_below [] limit d rising some below = absurd (omega (arith, some))
least_below (p ∷ ps) limit d rising some below = record {
  member = contains_has (p ∷ ps) p.0 ∙ ap (λ r. is_some (cond (is_eq r) (Some p.1) (map.find by_final p.0 ps))) (tied_itself by_final_total p.0);
  below = below;
  least = λ n among _. first_at_most p ps n rising (sym (contains_has (p ∷ ps) n) ∙ among);
}

below_too : (limit : Option ℕ) (m n : ℕ × ℕ) → IsAtMost m n → IsTrue (is_below limit n.0) → IsTrue (is_below limit m.0)
below_too None m n low below = refl
below_too (Some l) m n low below = grind (arith, nat_tests, common_steps)

-- where the first is not below the limit, none is
pub none_below : (ps : List ((ℕ × ℕ) × Unit {0})) (limit : Option ℕ) (d : (ℕ × ℕ) × Unit {0}) → IsRising by_final ps
    → 0 < length ps
    → is_below limit (slice_index_or ps 0 d).0.0 ≡ false → (n : ℕ × ℕ) → IsTrue (set.contains (commits_of ps) n)
    → ¬ IsTrue (is_below limit n.0)
none_below [] limit d rising some past n among below = absurd (omega (arith, some))
none_below (p ∷ ps) limit d rising some past n among below =
    let bad = below_too limit p.0 n (first_at_most p ps n rising (sym (contains_has (p ∷ ps) n) ∙ among)) below in cc

pub no_commits : (ps : List ((ℕ × ℕ) × Unit {0})) → length ps ≡ 0 → (n : ℕ × ℕ)
    → ¬ IsTrue (set.contains (commits_of ps) n)
no_commits [] none n among = let bad = sym (contains_has [] n) ∙ among in cc
no_commits (p ∷ ps) none n among = absurd (omega (arith, none))

-- ---- what the calls of a table say of its set

some_or : (b : Bool) (x : Option (Unit {0})) → is_some (cond b (Some tt) x) ≡ (b || is_some x)
some_or true x = refl
some_or false x = refl

none_or : (b : Bool) (x : Option (Unit {0})) → is_some (cond b None x) ≡ (not b && is_some x)
none_or true x = refl
none_or false x = refl

pub insert_commit : (ps : List ((ℕ × ℕ) × Unit {0})) (i : ℕ) (m : ℕ × ℕ) → IsGap by_final ps m i
    → commits_of (insert ps i (m, tt)) ≡ set.insert (commits_of ps) m
insert_commit ps i m gap =
    set.same_set by_final_total by_final-IsAntisymmetric _ _
    (λ n. contains_has (insert ps i (m, tt)) n
    ∙ ap is_some (find_insert by_final_total ps i m tt n gap.within (gap_absent by_final_total ps m i gap))
    ∙ some_or (eq_by_cmp by_final n m) (map.find by_final n ps)
    ∙ sym (set.contains-insert by_final_total (commits_of ps) m n ∙ ap (λ b. eq_by_cmp by_final n m || b) (contains_has ps n)))

pub remove_commit : (ps : List ((ℕ × ℕ) × Unit {0})) (i : ℕ) (d : (ℕ × ℕ) × Unit {0}) → IsRising by_final ps
    → i < length ps → commits_of (remove ps i) ≡ set.remove (commits_of ps) (slice_index_or ps i d).0
remove_commit ps i d rising within =
    set.same_set by_final_total by_final-IsAntisymmetric _ _
    (λ n. contains_has (remove ps i) n
    ∙ ap is_some (find_remove by_final_total ps i d n rising within)
    ∙ none_or (eq_by_cmp by_final n (slice_index_or ps i d).0) (map.find by_final n ps)
    ∙ sym (set.contains-remove by_final_total (commits_of ps) (slice_index_or ps i d).0 n ∙ ap (λ b. not (eq_by_cmp by_final n (slice_index_or ps i d).0) && b) (contains_has ps n)))

pub found_commit : (ps : List ((ℕ × ℕ) × Unit {0})) (i : ℕ) (m : ℕ × ℕ) → IsRising by_final ps → i < length ps
    → ((d : (ℕ × ℕ) × Unit {0}) → by_final (slice_index_or ps i d).0 m ≡ Equal) → set.contains (commits_of ps) m ≡ true
found_commit ps i m rising within ties = contains_has ps m ∙ ap is_some (find_at by_final_total ps i (m, tt) m rising within (ties (m, tt)))
