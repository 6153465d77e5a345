-- Each script of a document is among its numbers in their order.
use Rattle.std.proofs.Common.{◌≡◌, ◌⊎◌, inl, inr, Bool, true, false, ◌||◌, ◌==◌, List, [], ◌∷◌, Some, refl, subst, if◌then◌else◌}
use Rattle.std.proofs.lemmas.Bool.{or_cases, or_left, or_right}
use Rattle.std.proofs.lemmas.Map.Lookups.{exact_unsigned}
use Rattle.std.specs.BTreeSet.{insert_key}
use Rattle.std.specs.List.{list_any}
use Rattle.std.specs.Ordering.{match_ordering, nat_cmp}
use Rattle.std.specs.Prelude.{fold}
use Rattle.std.specs.declared.cmp.Ordering.{Ordering}
use Rattle.std.specs.declared.cmp.Ordering.TheVariants.{Less, Equal, Greater}
use Rattle.score_base.specs.declared.ids.TxId.{TxId}
use Rattle.script_lang.specs.Scripts.{ScriptData}
use Rattle.grid_model.specs.Documents.{DocumentData, number_order, script_numbers}
use Rattle.grid_model.specs.Nodes.{script_of}

-- t is among these numbers
abbrev pub is_in : TxId → List TxId → Bool
is_in t ts = list_any (λ u. u == t) ts

-- a key stays, and the one that goes in is there
insert-in : (t k : TxId) (ks : List TxId) → ((k == t) || is_in t ks) ≡ true → is_in t (insert_key nat_cmp ks k) ≡ true
insert-in t k [] h = h
insert-in t k (x ∷ xs) h = by (nat_cmp k x) refl (insert-in t k xs)
  where
    turned : (a b c : Bool) → (a || (b || c)) ≡ true → (b ≡ true) ⊎ ((a || c) ≡ true)
    turned a true c i = inl refl
    turned true false c i = inr refl
    turned false false c i = inr i

    by : (r : Ordering) → nat_cmp k x ≡ r →
        (((k == t) || is_in t xs) ≡ true → is_in t (insert_key nat_cmp xs k) ≡ true) →
        is_in t (match_ordering r (k ∷ x ∷ xs) (x ∷ xs) (x ∷ insert_key nat_cmp xs k)) ≡ true
    by Less e go = h
    by Equal e go = elim (or_cases (k == t) ((x == t) || is_in t xs) h) [
      | inl here ↦ or_left (x == t) (is_in t xs) (subst (λ z. (z == t) ≡ true) (exact_unsigned k x e) here)
      | inr there ↦ there
    ]
    by Greater e go = elim (turned (k == t) (x == t) (is_in t xs) h) [
      | inl here ↦ or_left (x == t) (is_in t (insert_key nat_cmp xs k)) here
      | inr there ↦ or_right (x == t) (is_in t (insert_key nat_cmp xs k)) (go there)
    ]

fold-in : (t : TxId) (ks ts : List TxId) → (is_in t ks || is_in t ts) ≡ true →
    is_in t (fold (insert_key nat_cmp) ks ts) ≡ true
fold-in t ks [] h = alone (is_in t ks) h
  where
    alone : (b : Bool) → (b || false) ≡ true → b ≡ true
    alone true e = refl
    alone false e = e
fold-in t ks (u ∷ ts) h =
    fold-in t (insert_key nat_cmp ks u) ts (elim (or_cases (is_in t ks) ((u == t) || is_in t ts) h) [
      | inl before ↦ or_left (is_in t (insert_key nat_cmp ks u)) (is_in t ts)
          (insert-in t u ks (or_right (u == t) (is_in t ks) before))
      | inr more ↦ elim (or_cases (u == t) (is_in t ts) more) [
        | inl here ↦ or_left (is_in t (insert_key nat_cmp ks u)) (is_in t ts)
            (insert-in t u ks (or_left (u == t) (is_in t ks) here))
        | inr later ↦ or_right (is_in t (insert_key nat_cmp ks u)) (is_in t ts) later
      ]
    ])

script-in : (t : TxId) (ss : List ScriptData) (s : ScriptData) → script_of t ss ≡ Some s →
    is_in t (script_numbers ss) ≡ true
script-in t [] s e = cc
script-in t (x ∷ ss) s e = go (x.number == t) refl e (λ i. script-in t ss s i)
  where
    go : (b : Bool) → (x.number == t) ≡ b → (if b then Some x else script_of t ss) ≡ Some s →
        (script_of t ss ≡ Some s → is_in t (script_numbers ss) ≡ true) →
        ((x.number == t) || is_in t (script_numbers ss)) ≡ true
    go true i e more = or_left (x.number == t) (is_in t (script_numbers ss)) i
    go false i e more = or_right (x.number == t) (is_in t (script_numbers ss)) (more e)

pub in-order : (d : DocumentData) (t : TxId) (s : ScriptData) → script_of t d.scripts ≡ Some s →
    is_in t (number_order (script_numbers d.scripts)) ≡ true
in-order d t s is = fold-in t [] (script_numbers d.scripts) (script-in t d.scripts s is)
