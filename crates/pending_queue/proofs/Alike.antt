-- Two tables of the same proposals: one more, one less, and the first of the second as the least.
use Rattle.std.proofs.Common.{◌≡◌, ℕ, suc, ◌<◌, ◌≤◌, Bool, true, false, cond, not, ◌&&◌, ◌||◌, nat_eq, List, [], ◌∷◌, Option, Some, None, is_some, length, refl, sym, ap, subst, ◌∙◌, arith}
use Rattle.std.specs.Cmp.{IsTotalOrder, then_total, on_total, nat_cmp_total, tied_itself, unsigned_tied, both_tied}
use Rattle.std.specs.Ordering.{nat_cmp, eq_by_cmp, is_eq, ordering_then}
use Rattle.std.specs.declared.cmp.Ordering.{Ordering}
use Rattle.std.specs.declared.cmp.Ordering.TheVariants.{Less, Equal, Greater}
use Rattle.std.specs.List.{slice_index_or, insert, remove, All}
use Rattle.std.specs.FinMap as map
use Rattle.std.proofs.lemmas.Cmp.{ranked}
use Rattle.std.proofs.lemmas.Map.Lookups.{exact_pairs, exact_unsigned}
use Rattle.std.proofs.lemmas.Bool.Decides.{nat_tests}
use Rattle.score_base.specs.Tables.{IsRising, IsGap}
use Rattle.score_base.proofs.TableMaps.{find_at, find_insert, find_remove, find_absent, gap_absent}
use Rattle.pending_queue.specs.Proposals.{Proposals, by_proposal, has, is_proposal, AreAlike, IsLeast}

pub by_proposal_total : IsTotalOrder by_proposal
by_proposal_total = then_total (on_total (λ m. m.0) nat_cmp_total) (on_total (λ m. m.1) nat_cmp_total)

pub by_proposal-IsAntisymmetric : map.IsAntisymmetric by_proposal
by_proposal-IsAntisymmetric = exact_pairs nat_cmp nat_cmp exact_unsigned exact_unsigned

same_proposal : (m n : ℕ × ℕ) → eq_by_cmp by_proposal m n ≡ (nat_eq m.0 n.0 && nat_eq m.1 n.1)
same_proposal m n = sym (both_tied _ _ (nat_cmp m.0 n.0) (nat_cmp m.1 n.1) (sym (unsigned_tied m.0 n.0)) (sym (unsigned_tied m.1 n.1)))

same_test : (r : Ordering) → is_eq r ≡ true → r ≡ Equal
same_test Equal e = refl
same_test Less e = cc
same_test Greater e = cc

some_or : (b : Bool) (x : Option (Unit {0})) → is_some (cond b (Some tt) x) ≡ (b || is_some x)
some_or true x = refl
some_or false x = refl

none_or : (b : Bool) (x : Option (Unit {0})) → is_some (cond b None x) ≡ (not b && is_some x)
none_or true x = refl
none_or false x = refl

has_insert : (ps : List ((ℕ × ℕ) × Unit {0})) (i : ℕ) (m n : ℕ × ℕ) → IsGap by_proposal ps m i
    → has (insert ps i (m, tt)) n ≡ ((nat_eq n.0 m.0 && nat_eq n.1 m.1) || has ps n)
has_insert ps i m n gap =
    ap is_some (find_insert by_proposal_total ps i m tt n gap.within (gap_absent by_proposal_total ps m i gap))
    ∙ some_or (eq_by_cmp by_proposal n m) (map.find by_proposal n ps) ∙ ap (λ b. b || has ps n) (same_proposal n m)

pub has_remove : (ps : List ((ℕ × ℕ) × Unit {0})) (i : ℕ) (m n : ℕ × ℕ) → IsRising by_proposal ps → i < length ps
    → ((d : (ℕ × ℕ) × Unit {0}) → by_proposal (slice_index_or ps i d).0 m ≡ Equal)
    → has (remove ps i) n ≡ (not (nat_eq n.0 m.0 && nat_eq n.1 m.1) && has ps n)
has_remove ps i m n rising within ties =
    let here : (slice_index_or ps i (m, tt)).0 ≡ m = by_proposal-IsAntisymmetric _ m (ties (m, tt)) in
    ap is_some (find_remove by_proposal_total ps i (m, tt) n rising within)
    ∙ none_or (eq_by_cmp by_proposal n (slice_index_or ps i (m, tt)).0) (map.find by_proposal n ps)
    ∙ ap (λ k. not (eq_by_cmp by_proposal n k) && has ps n) here ∙ ap (λ b. not b && has ps n) (same_proposal n m)

dropped_none : (b : Bool) (x : Bool) → (b ≡ true → x ≡ false) → x ≡ (not b && x)
dropped_none true x e = e refl
dropped_none false x e = refl

-- where it is not there, nothing is taken out
pub has_none : (ps : List ((ℕ × ℕ) × Unit {0})) (i : ℕ) (m n : ℕ × ℕ) → IsGap by_proposal ps m i
    → has ps n ≡ (not (nat_eq n.0 m.0 && nat_eq n.1 m.1) && has ps n)
has_none ps i m n gap =
    dropped_none (nat_eq n.0 m.0 && nat_eq n.1 m.1) (has ps n)
    (λ same. let is : n ≡ m = by_proposal-IsAntisymmetric n m (same_test (by_proposal n m) (same_proposal n m ∙ same)) in
    ap (has ps) is ∙ ap is_some (find_absent by_proposal_total ps m (gap_absent by_proposal_total ps m i gap)))

-- one proposal more in both
added : (b c h : Bool) (p r : ℕ) (f : Option ℕ) → nat_eq r p ≡ c → (b ≡ true → f ≡ None) → h ≡ is_proposal f r
    → ((c && b) || h) ≡ is_proposal (cond b (Some p) f) r
added true true h p r f e none is = sym e
added true false h p r f e none is = is ∙ ap (λ x. is_proposal x r) (none refl) ∙ sym e
added false true h p r f e none is = is
added false false h p r f e none is = is

pub AreAlike-add : (es : List (ℕ × ℕ)) (ps : List ((ℕ × ℕ) × Unit {0})) (i j t p : ℕ) → AreAlike es ps
    → IsGap nat_cmp es t i → IsGap by_proposal ps (p, t) j
    → AreAlike (insert es i (t, p)) (insert ps j ((p, t), tt))
AreAlike-add es ps i j t p alike gap there = λ q r.
    let first = find_insert nat_cmp_total es i t p q gap.within (gap_absent nat_cmp_total es t i gap) ∙ ap (λ b. cond b (Some p) (map.find nat_cmp q es)) (unsigned_tied q t) in
    let none : nat_eq q t ≡ true → map.find nat_cmp q es ≡ None = λ same. let is : q ≡ t = grind (arith, nat_tests, same) in ap (λ u. map.find nat_cmp u es) is ∙ find_absent nat_cmp_total es t (gap_absent nat_cmp_total es t i gap) in
    has_insert ps j (p, t) (r, q) there ∙ added (nat_eq q t) (nat_eq r p) (has ps (r, q)) p r (map.find nat_cmp q es) refl none (alike q r) ∙ ap (λ f. is_proposal f r) (sym first)

-- one proposal less in both
ended : (b c h : Bool) (p r : ℕ) (f : Option ℕ) → nat_eq r p ≡ c → (b ≡ true → f ≡ Some p) → h ≡ is_proposal f r
    → (not (c && b) && h) ≡ is_proposal (cond b None f) r
ended true true h p r f e some is = refl
ended true false h p r f e some is = is ∙ ap (λ x. is_proposal x r) (some refl) ∙ e
ended false true h p r f e some is = is
ended false false h p r f e some is = is

pub AreAlike-end : (es : List (ℕ × ℕ)) (ps qs : List ((ℕ × ℕ) × Unit {0})) (i t : ℕ) (d : ℕ × ℕ) → AreAlike es ps
    → IsRising nat_cmp es → i < length es → nat_cmp (slice_index_or es i d).0 t ≡ Equal
    → ((q : ℕ × ℕ) → has qs q ≡ (not (nat_eq q.0 (slice_index_or es i d).1 && nat_eq q.1 t) && has ps q))
    → AreAlike (remove es i) qs
AreAlike-end es ps qs i t d alike rising within ties rest = λ q r.
    let p = (slice_index_or es i d).1 in
    let here : (slice_index_or es i d).0 ≡ t = exact_unsigned _ t ties in
    let first = find_remove nat_cmp_total es i d q rising within ∙ ap (λ b. cond b None (map.find nat_cmp q es)) (unsigned_tied q (slice_index_or es i d).0 ∙ ap (nat_eq q) here) in
    let some : nat_eq q t ≡ true → map.find nat_cmp q es ≡ Some p = λ same. let is : q ≡ t = grind (arith, nat_tests, same) in ap (λ u. map.find nat_cmp u es) is ∙ find_at nat_cmp_total es i d t rising within ties in
    rest (r, q) ∙ ended (nat_eq q t) (nat_eq r p) (has ps (r, q)) p r (map.find nat_cmp q es) refl some (alike q r) ∙ ap (λ f. is_proposal f r) (sym first)

-- ---- the least

is_it : (f : Option ℕ) (p : ℕ) → is_proposal f p ≡ true → f ≡ Some p
is_it None p e = cc
is_it (Some q) p e = let same : q ≡ p = grind (arith, nat_tests, e) in ap Some same

it_is : (f : Option ℕ) (p : ℕ) → f ≡ Some p → is_proposal f p ≡ true
it_is f p e = ap (λ g. is_proposal g p) e ∙ grind (arith, nat_tests)

at_most : (m n : ℕ × ℕ) → by_proposal m n ≡ Less → m.0 ≤ n.0
at_most m n less = elim (nat_cmp m.0 n.0) as (λ r. nat_cmp m.0 n.0 ≡ r → ordering_then r (nat_cmp m.1 n.1) ≡ Less → m.0 ≤ n.0) [
  | Less ↦ λ is e. let low : m.0 < n.0 = ranked m.0 n.0 Less (sym is) in omega (arith, low)
  | Equal ↦ λ is e. let same : m.0 ≡ n.0 = ranked m.0 n.0 Equal (sym is) in omega (arith, same)
  | Greater ↦ λ is e. cc
] refl less

found_or : (p : ℕ) (n : ℕ × ℕ) (q : (ℕ × ℕ) × Unit {0}) (qs : List ((ℕ × ℕ) × Unit {0})) (b : Bool)
    → eq_by_cmp by_proposal n q.0 ≡ b → p ≤ q.0.0 → (has qs n ≡ true → p ≤ n.0)
    → is_some (cond b (Some q.1) (map.find by_proposal n qs)) ≡ true → p ≤ n.0
found_or p n q qs true is here later among = subst (λ (m : ℕ × ℕ). p ≤ m.0) (sym (by_proposal-IsAntisymmetric n q.0 (same_test (by_proposal n q.0) is))) here
found_or p n q qs false is here later among = later among

at_most_found : (p : ℕ) (ps : List ((ℕ × ℕ) × Unit {0})) (n : ℕ × ℕ) → All (λ q. p ≤ q.0.0) ps → has ps n ≡ true
    → p ≤ n.0
at_most_found p [] n low among = cc
at_most_found p (q ∷ qs) n low among =
    found_or p n q qs (eq_by_cmp by_proposal n q.0) refl (low 0 q (omega arith)) (λ later. at_most_found p qs n (λ j d within. low (suc j) d (omega (arith, within))) later) among

first_at_most : (p : (ℕ × ℕ) × Unit {0}) (ps : List ((ℕ × ℕ) × Unit {0})) (n : ℕ × ℕ) → IsRising by_proposal (p ∷ ps)
    → has (p ∷ ps) n ≡ true → p.0.0 ≤ n.0
first_at_most p ps n rising among =
    found_or p.0.0 n p ps (eq_by_cmp by_proposal n p.0) refl (omega arith)
    (λ later. at_most_found p.0.0 ps n (λ j d within. at_most p.0 _ (rising 0 (suc j) d (omega arith) (omega (arith, within)))) later) among

has_first : (p : (ℕ × ℕ) × Unit {0}) (ps : List ((ℕ × ℕ) × Unit {0})) → has (p ∷ ps) p.0 ≡ true
has_first p ps = ap (λ r. is_some (cond (is_eq r) (Some p.1) (map.find by_proposal p.0 ps))) (tied_itself by_proposal_total p.0)

pub first_is_least : (es : List (ℕ × ℕ)) (ps : List ((ℕ × ℕ) × Unit {0})) (d : (ℕ × ℕ) × Unit {0}) → AreAlike es ps
    → IsRising by_proposal ps → 0 < length ps → IsLeast (map.from_entries es) (slice_index_or ps 0 d).0.0
first_is_least es [] d alike rising some = absurd (omega (arith, some))
first_is_least es (p ∷ ps) d alike rising some = record {
  pending = (p.0.1, map.get-from_entries nat_cmp_total es p.0.1 ∙ is_it _ p.0.0 (sym (alike p.0.1 p.0.0) ∙ has_first p ps));
  least = λ t q got. first_at_most p ps (q, t) rising (alike t q ∙ it_is _ q (sym (map.get-from_entries nat_cmp_total es t) ∙ got));
}

none_is : (f : Option ℕ) → ((p : ℕ) → is_proposal f p ≡ false) → f ≡ None
none_is None none = refl
none_is (Some p) none = let bad : is_proposal (Some p) p ≡ true = it_is (Some p) p refl in let no = none p in cc

pub nothing_pending : (es : List (ℕ × ℕ)) (ps : List ((ℕ × ℕ) × Unit {0})) → AreAlike es ps → length ps ≡ 0
    → map.from_entries {R = nat_cmp} es ≡ map.empty
nothing_pending es [] alike none = map.same_map nat_cmp_total map.nat_cmp-IsAntisymmetric _ _ (λ t. map.get-from_entries nat_cmp_total es t ∙ none_is _ (λ p. sym (alike t p)) ∙ sym (map.get-empty nat_cmp t))
nothing_pending es (p ∷ ps) alike none = absurd (omega (arith, none))

pub not_empty : (m : Proposals) (p : ℕ) → IsLeast m p → m ≡ map.empty → ⊥
not_empty m p least is = let none : map.get m least.pending.0 ≡ None = ap (λ (n : Proposals). map.get n least.pending.0) is ∙ map.get-empty nat_cmp least.pending.0 in let some = least.pending.1 in cc

none_if : (b : Bool) (x : Option ℕ) → (b ≡ true → x ≡ None) → x ≡ cond b None x
none_if true x none = none refl
none_if false x none = refl

-- without a transaction that is not pending, all is as it was
pub same_without : (m : Proposals) (t : ℕ) → map.get m t ≡ None → m ≡ map.remove m t
same_without m t none =
    map.same_map nat_cmp_total map.nat_cmp-IsAntisymmetric _ _
    (λ q. none_if (nat_eq q t) (map.get m q) (λ same. let is : q ≡ t = grind (arith, nat_tests, same) in ap (map.get m) is ∙ none)
    ∙ sym (map.get-remove nat_cmp_total m t q ∙ ap (λ b. cond b None (map.get m q)) (unsigned_tied q t)))

nothing : (x : Option (Unit {0})) → is_some x ≡ false → x ≡ None
nothing None e = refl
nothing (Some u) e = cc

-- where it is not pending, the second table does not have it
pub absent_too : (es : List (ℕ × ℕ)) (ps : List ((ℕ × ℕ) × Unit {0})) (t p : ℕ) → AreAlike es ps
    → map.find nat_cmp t es ≡ None → map.find by_proposal (p, t) ps ≡ None
absent_too es ps t p alike none = nothing _ (alike t p ∙ ap (λ f. is_proposal f p) none)

some_none : {A : Type 0} (x : A) → Some x ≡ None → ⊥
some_none x e = cc

-- a key that is found is there
pub there_is_no_key : {K V : Type 0} {cmp : K → K → Ordering} (o : IsTotalOrder cmp) (pairs : List (K × V)) (i : ℕ)
    (key : K) → IsRising cmp pairs → i < length pairs
    → ((d : K × V) → cmp (slice_index_or pairs i d).0 key ≡ Equal) → map.find cmp key pairs ≡ None → ⊥
there_is_no_key o [] i key rising within ties none = absurd (omega (arith, within))
there_is_no_key o (p ∷ ps) i key rising within ties none = some_none _ (sym (find_at o (p ∷ ps) i p key rising within (ties p)) ∙ none)
