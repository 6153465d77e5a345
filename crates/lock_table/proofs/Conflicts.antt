-- A transaction has a lock that meets two lists exactly where it conflicts with them.
use Rattle.std.proofs.Common.{◌≡◌, ◌≢◌, ℕ, Bool, true, false, ◌||◌, List, [], ◌∷◌, Option, Some, None, inl, inr, IsNone, IfSome, refl, sym, ap, ◌∙◌, nat_eq}
use Rattle.std.specs.Cmp.Lexicographic.{pointwise, nat_list_eq_equiv}
use Rattle.std.specs.List.{list_any}
use Rattle.std.specs.FinSet as set
use Rattle.lock_table.specs.Keys.{is_read, is_written, writes_key, Held, Conflicts, IsHolder}
use Rattle.lock_table.specs.Table.{Lock, holds_in, writes_in, places, written_places, meets_in, IsLeastOther}
use Rattle.lock_table.proofs.Places.{held_is, written_is, written_held}
use Rattle.lock_table.proofs.Least.{one_of, or_later, or_first, same_key}

-- what a list of locks is seen as
abbrev pub seen : List Lock → ℕ → Held
seen ls spare = record { keys = set.from_list (places ls); written = set.from_list (written_places ls); spare = spare }

-- a key that passes one test and is in a list
record Named (test listed : List ℕ → Bool) : Type 0 where
  key : List ℕ
  passes : test key ≡ true
  named : listed key ≡ true

named_more : (test listed : List ℕ → Bool) (x : List ℕ) → Named test listed
    → Named test (λ k. pointwise nat_eq x k || listed k)
named_more test listed x h = record {
  key = h.key;
  passes = h.passes;
  named = or_later (pointwise nat_eq x h.key)
      (listed h.key) h.named;
}

named_write : (test : List ℕ → Bool) (writes : List (List ℕ × ℕ)) → list_any (λ w. test w.0) writes ≡ true
    → Named test (is_written writes)
named_write test [] is = absurd (let bad : false ≡ true = is in cc)
named_write test (w ∷ ws) is = elim (one_of (test w.0) (list_any (λ x. test x.0) ws) is) [
  | inl here ↦ record { key = w.0; passes = here; named = or_first _ (is_written ws w.0) (nat_list_eq_equiv.refl w.0) }
  | inr later ↦ named_more test (is_written ws) w.0 (named_write test ws later)
]

named_read : (test : List ℕ → Bool) (reads : List (List ℕ)) → list_any test reads ≡ true → Named test (is_read reads)
named_read test [] is = absurd (let bad : false ≡ true = is in cc)
named_read test (x ∷ xs) is = elim (one_of (test x) (list_any test xs) is) [
  | inl here ↦ record { key = x; passes = here; named = or_first _ (is_read xs x) (nat_list_eq_equiv.refl x) }
  | inr later ↦ named_more test (is_read xs) x (named_read test xs later)
]

Conflicts-from : (ls : List Lock) (spare : ℕ) (reads : List (List ℕ)) (writes : List (List ℕ × ℕ)) (u : ℕ)
    → meets_in ls reads writes u ≡ true → Conflicts (seen ls spare) reads writes u
Conflicts-from ls spare reads writes u met = elim
    (one_of (list_any (λ w. holds_in ls u w.0) writes) (list_any (λ k. writes_in ls u k) reads) met) [
      | inl by_lists ↦
          let h = named_write (holds_in ls u) writes by_lists in
          record {
            key = h.key;
            held_by = held_is ls u h.key ∙ h.passes;
            named = or_later (is_read reads h.key) (is_written writes h.key) h.named;
            written = or_later (writes_key (seen ls spare) u h.key) (is_written writes h.key) h.named;
          }
      | inr by_u ↦
          let h = named_read (writes_in ls u) reads by_u in
          record {
            key = h.key;
            held_by = held_is ls u h.key ∙ written_held ls u h.key h.passes;
            named = or_first (is_read reads h.key) (is_written writes h.key) h.named;
            written = or_first (writes_key (seen ls spare) u h.key) (is_written writes h.key)
                (written_is ls u h.key ∙ h.passes);
          }
    ]

-- ---- the other way

any_written : (test : List ℕ → Bool) (writes : List (List ℕ × ℕ)) (k : List ℕ) → test k ≡ true
    → is_written writes k ≡ true → list_any (λ w. test w.0) writes ≡ true
any_written test [] k passes is = absurd (let bad : false ≡ true = is in cc)
any_written test (w ∷ ws) k passes is = elim (one_of (pointwise nat_eq w.0 k) (is_written ws k) is) [
  | inl here ↦ or_first (test w.0) (list_any (λ x. test x.0) ws) (ap test (same_key w.0 k here) ∙ passes)
  | inr later ↦ or_later (test w.0) (list_any (λ x. test x.0) ws) (any_written test ws k passes later)
]

any_read : (test : List ℕ → Bool) (reads : List (List ℕ)) (k : List ℕ) → test k ≡ true → is_read reads k ≡ true
    → list_any test reads ≡ true
any_read test [] k passes is = absurd (let bad : false ≡ true = is in cc)
any_read test (x ∷ xs) k passes is = elim (one_of (pointwise nat_eq x k) (is_read xs k) is) [
  | inl here ↦ or_first (test x) (list_any test xs) (ap test (same_key x k here) ∙ passes)
  | inr later ↦ or_later (test x) (list_any test xs) (any_read test xs k passes later)
]

met_by : (ls : List Lock) (reads : List (List ℕ)) (writes : List (List ℕ × ℕ)) (u : ℕ) (k : List ℕ)
    → holds_in ls u k ≡ true → (is_read reads k || is_written writes k) ≡ true →
    (writes_in ls u k || is_written writes k) ≡ true → meets_in ls reads writes u ≡ true
met_by ls reads writes u k held named written =
    let by_w = list_any (λ w. holds_in ls u w.0) writes in
    let by_r = list_any (λ q. writes_in ls u q) reads in
    elim (one_of (is_read reads k) (is_written writes k) named) [
      | inl read ↦ elim (one_of (writes_in ls u k) (is_written writes k) written) [
        | inl by_u ↦ or_later by_w by_r (any_read (writes_in ls u) reads k by_u read)
        | inr by_lists ↦ or_first by_w by_r (any_written (holds_in ls u) writes k held by_lists)
      ]
      | inr by_lists ↦ or_first by_w by_r (any_written (holds_in ls u) writes k held by_lists)
    ]

met_in_conflict : (ls : List Lock) (spare : ℕ) (reads : List (List ℕ)) (writes : List (List ℕ × ℕ)) (u : ℕ)
    → Conflicts (seen ls spare) reads writes u → meets_in ls reads writes u ≡ true
met_in_conflict ls spare reads writes u h =
    met_by ls reads writes u h.key (sym (held_is ls u h.key) ∙ h.held_by) h.named
    (ap (λ b. b || is_written writes h.key) (sym (written_is ls u h.key)) ∙ h.written)

-- ---- who conflicts least

pub the_holder : (a : Option ℕ) (ls : List Lock) (spare t : ℕ) (reads : List (List ℕ)) (writes : List (List ℕ × ℕ))
    → IsLeastOther (meets_in ls reads writes) t a
    → IfSome a (IsHolder (seen ls spare) reads writes t)
the_holder None ls spare t reads writes is = tt
the_holder (Some p) ls spare t reads writes is = record {
  other = is.other;
  conflicts = Conflicts-from ls spare reads writes p is.passes;
  least = λ v other h. is.least v other (met_in_conflict ls spare reads writes v h);
}

pub no_holder : (a : Option ℕ) (ls : List Lock) (spare t : ℕ) (reads : List (List ℕ)) (writes : List (List ℕ × ℕ))
    → IsLeastOther (meets_in ls reads writes) t a
    → (IsNone a → (u : ℕ) → u ≢ t → ¬ Conflicts (seen ls spare) reads writes u) ×
    (((u : ℕ) → u ≢ t → ¬ Conflicts (seen ls spare) reads writes u) → IsNone a)
no_holder None ls spare t reads writes is =
    ((λ _ u other h. is u other (met_in_conflict ls spare reads writes u h)), λ _. refl)
no_holder (Some p) ls spare t reads writes is =
    ((λ none. cc), λ free. absurd (free p is.other (Conflicts-from ls spare reads writes p is.passes)))
