-- What a change of one chain leaves of the others.
use Rattle.std.proofs.Common.{◌≡◌, ℕ, ◌+◌, ◌<◌, ◌++◌, ◌||◌, Bool, true, false, cond, List, [], ◌∷◌, Option, Some, None, is_some, length, refl, sym, ap, subst, ◌∙◌, inl, inr, arith, if◌then◌else◌}
use Rattle.std.proofs.lemmas.Bool.{cases_Bool, cases_lt}
use Rattle.std.proofs.lemmas.Bool.Decides.{nat_tests}
use Rattle.std.proofs.lemmas.List.{get_or-set_same, get_or-set_other, get_or_append_left, length-set, length-append}
use Rattle.std.proofs.lemmas.List.Edits.{length-insert}
use Rattle.std.proofs.Math.Seq.{get_or-append_seam}
use Rattle.std.specs.Prelude.{slice_index_or}
use Rattle.std.specs.List.{insert, slice_set}
use Rattle.std.specs.Ordering.{nat_cmp}
use Rattle.std.specs.Cmp.Lexicographic.{slice_cmp, nat_list_cmp_total, texts_ties}
use Rattle.score_base.specs.Keys.{same_key}
use Rattle.score_base.specs.Tables.{IsGap}
use Rattle.score_base.proofs.TableMaps.{find_insert, gap_absent}
use Rattle.version_chain.specs.Versions.{Versions}
use Rattle.version_chain.specs.Kept.{Kept, place_of, chain_at, chain_of, versions_of, spare_of, IsBlank, IsLonger, ArePlaces}

pub same-is : (a b : List ℕ) → same_key a b ≡ true → a ≡ b
same-is [] [] h = refl
same-is [] (y ∷ ys) h = cc
same-is (x ∷ xs) [] h = cc
same-is (x ∷ xs) (y ∷ ys) h = grind (arith, nat_tests, same-is xs ys)

pub same-self : (a : List ℕ) → same_key a a ≡ true
same-self [] = refl
same-self (x ∷ xs) = grind (arith, nat_tests, same-self xs)

-- key has this chain now, and each other key what it had
pub record IsWith (old new : Kept) (key : List ℕ) (c : Versions) : Type 0 where
  pub own : chain_of key new ≡ Some c
  pub others : (k : List ℕ) → same_key k key ≡ false → chain_of k new ≡ chain_of k old

-- what holds of the chain of the key and of each other one holds of each
pub each-with : (old new : Kept) (key : List ℕ) (c : Versions) (P : List ℕ → Option Versions → Type 0)
    → IsWith old new key c
    → P key (Some c) → ((k : List ℕ) → same_key k key ≡ false → P k (chain_of k old)) → (k : List ℕ)
    → P k (chain_of k new)
each-with old new key c P w own others k = elim (cases_Bool (same_key k key)) [
  | inl same ↦ (let e = same-is k key same in subst (λ l. P l (chain_of l new)) (sym e) (subst (P key) (sym w.own) own))
  | inr other ↦ subst (P k) (sym (w.others k other)) (others k other)
]

-- what stands where there is no chain
abbrev blank : Versions
blank = record { initial = 0; versions = []; spare = 0 }

-- ---- a key more

found-more : (places : List (List ℕ × ℕ)) (key : List ℕ) (i at : ℕ) → IsGap (slice_cmp nat_cmp) places key i
    → (k : List ℕ) → place_of k (insert places i (key, at)) ≡ (if same_key k key then Some at else place_of k places)
found-more places key i at gap k =
    find_insert nat_list_cmp_total places i key at k gap.within (gap_absent nat_list_cmp_total places key i gap)
    ∙ ap (λ b. cond b (Some at) (place_of k places)) (sym (texts_ties k key))

-- and it alone has a place more
pub keys-more : (places : List (List ℕ × ℕ)) (key : List ℕ) (i at : ℕ) → IsGap (slice_cmp nat_cmp) places key i
    → (k : List ℕ) → is_some (place_of k (insert places i (key, at))) ≡ (same_key k key || is_some (place_of k places))
keys-more places key i at gap k = ap is_some (found-more places key i at gap k) ∙ go (same_key k key)
  where
    go : (b : Bool) → is_some (if b then Some at else place_of k places) ≡ (b || is_some (place_of k places))
    go true = refl
    go false = refl

-- the key begins the first blank chain
pub with-begun : (old new : Kept) (key : List ℕ) (i n : ℕ) (c : Versions) → ArePlaces old.places old.chains
    → IsGap (slice_cmp nat_cmp) old.places key i → n ≡ length old.places → n < length old.chains
    → new.places ≡ insert old.places i (key, n) → new.chains ≡ slice_set old.chains n c → IsWith old new key c
with-begun old new key i n c are gap last within places chains = record {
  own =
      (let self : same_key key key ≡ true = same-self key in
      let place : place_of key new.places ≡ Some n = ap (place_of key) places ∙ found-more old.places key i n gap key ∙ rw self refl in
      ap (chain_at new.chains) place ∙ ap (λ (cs : List Versions). chain_at cs (Some n)) chains
      ∙ ap Some (get_or-set_same old.chains n c blank within));
  others = λ k other. ap (λ ps. chain_at new.chains (place_of k ps)) places
      ∙ ap (chain_at new.chains) (found-more old.places key i n gap k ∙ rw other refl)
      ∙ ap (λ (cs : List Versions). chain_at cs (place_of k old.places)) chains
      ∙ go k (place_of k old.places) refl;
}
  where
    go : (k : List ℕ) (o : Option ℕ) → place_of k old.places ≡ o
        → chain_at (slice_set old.chains n c) o ≡ chain_at old.chains o
    go k None e = refl
    go k (Some j) e = ap Some (get_or-set_other old.chains n j c blank (λ same. (
        let low = are.inside k j e in
        absurd (omega (arith, low, last, same)))))

pub places-begun : (places : List (List ℕ × ℕ)) (chains : List Versions) (key : List ℕ) (i n : ℕ) (c : Versions)
    → ArePlaces places chains → IsGap (slice_cmp nat_cmp) places key i → n ≡ length places → n < length chains
    → ArePlaces (insert places i (key, n)) (slice_set chains n c)
places-begun places chains key i n c are gap last within = record {
  inside = λ k j e. inside k j (same_key k key) (sym (found-more places key i n gap k) ∙ e);
  apart = λ k l j e e'. apart k l j (same_key k key) (same_key l key) refl refl (sym (found-more places key i n gap k) ∙ e) (sym (found-more places key i n gap l) ∙ e');
  few = omega (arith, more, long, last, within);
  blank = λ j d far inside.
      subst IsBlank (sym (get_or-set_other chains n j c d (λ same. absurd (omega (arith, far, more, last, same)))))
      (are.blank j d (omega (arith, far, more)) (omega (arith, inside, long)));
}
  where
    more : length (insert places i (key, n)) ≡ length places + 1
    more = length-insert places i (key, n) gap.within

    long : length (slice_set chains n c) ≡ length chains
    long = length-set chains n c

    inside : (k : List ℕ) (j : ℕ) (b : Bool) → (if b then Some n else place_of k places) ≡ Some j
        → j < length (insert places i (key, n))
    inside k j true e = (let here : n ≡ j = grind (arith, e) in omega (arith, here, last, more))
    inside k j false e = (let there = are.inside k j e in omega (arith, there, more))

    apart : (k l : List ℕ) (j : ℕ) (a b : Bool) → same_key k key ≡ a → same_key l key ≡ b
        → (if a then Some n else place_of k places) ≡ Some j → (if b then Some n else place_of l places) ≡ Some j
        → k ≡ l
    apart k l j true true ea eb e e' = same-is k key ea ∙ sym (same-is l key eb)
    apart k l j true false ea eb e e' = absurd (let here : n ≡ j = grind (arith, e) in let there = are.inside l j e' in omega (arith, here, there, last))
    apart k l j false true ea eb e e' = absurd (let here : n ≡ j = grind (arith, e') in let there = are.inside k j e in omega (arith, here, there, last))
    apart k l j false false ea eb e e' = are.apart k l j e e'

-- the first chain behind those of the keys is blank
pub is-blank : (places : List (List ℕ × ℕ)) (chains : List Versions) (n : ℕ) (b : Versions) → ArePlaces places chains
    → n ≡ length places → n < length chains → b ≡ slice_index_or chains n b → IsBlank b
is-blank places chains n b are last within is = subst IsBlank (sym is) (are.blank n b (omega (arith, last)) within)

-- what a key without a chain has
pub absent : (k : List ℕ) (kept : Kept) → place_of k kept.places ≡ None
    → (versions_of k kept ≡ []) × (spare_of k kept ≡ 0)
absent k kept e = (rw e refl, rw e refl)

-- a key that has a place already has no other
pub keys-same : (places : List (List ℕ × ℕ)) (key : List ℕ) (i : ℕ) → place_of key places ≡ Some i
    → (k : List ℕ) → is_some (place_of k places) ≡ (same_key k key || is_some (place_of k places))
keys-same places key i is k = elim (cases_Bool (same_key k key)) [
  | inl same ↦ (let e = same-is k key same in
      let mine : is_some (place_of k places) ≡ true = subst (λ (l : List ℕ). is_some (place_of l places) ≡ true) (sym e) (ap is_some is) in
      rw (mine, same) refl)
  | inr other ↦ rw other refl
]

-- ---- blank chains more

pub longer-same : (chains : List Versions) → IsLonger chains chains
longer-same chains = record {
  more = omega arith;
  kept = λ j d within. refl;
  blank = λ j d far within. absurd (omega (arith, far, within));
}

pub longer-more : (old mid new : List Versions) → IsLonger old mid → IsLonger mid new → IsLonger old new
longer-more old mid new a b = record {
  more = (let x = a.more in let y = b.more in omega (arith, x, y));
  kept = λ j d within. (let x = a.more in b.kept j d (omega (arith, x, within)) ∙ a.kept j d within);
  blank = λ j d far within. elim (cases_lt j (length mid)) [
    | inl low ↦ subst IsBlank (sym (b.kept j d low)) (a.blank j d far low)
    | inr high ↦ b.blank j d high within
  ];
}

pub longer-last : (old : List Versions) (c : Versions) → IsBlank c → IsLonger old (old ++ c ∷ [])
longer-last old c is = record {
  more = (let long = length-append old (c ∷ []) in omega (arith, long));
  kept = λ j d within. get_or_append_left old (c ∷ []) d j within;
  blank = λ j d far within.
      (let long = length-append old (c ∷ []) in
      let last : j ≡ length old = omega (arith, far, within, long) in
      subst IsBlank (sym (ap (λ (n : ℕ). slice_index_or (old ++ c ∷ []) n d) last ∙ get_or-append_seam old c [] d)) is);
}

chain-kept : (old new : List Versions) → IsLonger old new → (o : Option ℕ) → ((i : ℕ) → o ≡ Some i → i < length old)
    → chain_at new o ≡ chain_at old o
chain-kept old new longer None inside = refl
chain-kept old new longer (Some i) inside = ap Some (longer.kept i blank (inside i refl))

-- each key has the chain that it had
pub chains-kept : (places : List (List ℕ × ℕ)) (old new : List Versions) → ArePlaces places old → IsLonger old new
    → (k : List ℕ) → chain_at new (place_of k places) ≡ chain_at old (place_of k places)
chains-kept places old new are longer k =
    chain-kept old new longer (place_of k places) (λ i e. (let low = are.inside k i e in let few = are.few in omega (arith, low, few)))

pub places-longer : (places : List (List ℕ × ℕ)) (old new : List Versions) → ArePlaces places old → IsLonger old new
    → ArePlaces places new
places-longer places old new are longer = record {
  inside = are.inside;
  apart = are.apart;
  few = (let few = are.few in let more = longer.more in omega (arith, few, more));
  blank = λ j d far within. elim (cases_lt j (length old)) [
    | inl low ↦ subst IsBlank (sym (longer.kept j d low)) (are.blank j d far low)
    | inr high ↦ longer.blank j d high within
  ];
}
