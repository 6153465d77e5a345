-- The places of the Prepared, and the outcomes, behind one more record.
use Rattle.std.proofs.Common.{ℕ, ◌≡◌, ◌<◌, ◌≤◌, ◌+◌, ◌++◌, ◌∷◌, [], true, false, Bool, List, Option, Some, None, is_some, length, reverse, refl, sym, ap, ◌∙◌, arith, if◌then◌else◌, subst}
use Rattle.std.proofs.lemmas.Bool.Decides.{nat_tests}
use Rattle.std.proofs.lemmas.List.{reverse-append, length-append, get_or_append_left}
use Rattle.std.proofs.Math.Seq.{get_or-append_seam}
use Rattle.std.specs.Prelude.{◌==◌, slice_index_or}
use Rattle.std.specs.Ordering.{nat_cmp}
use Rattle.std.specs.FinMap as map
use Rattle.score_base.specs.declared.ids.TxId.{TxId}
use Rattle.score_base.specs.declared.ids.NodeId.{NodeId}
use Rattle.score_base.specs.declared.ids.Ident.{Ident}
use Rattle.score_base.specs.declared.ids.Value.{Value}
use Rattle.score_base.specs.declared.keys.Key.{Key}
use Rattle.score_base.specs.declared.causes.Outcome.{Outcome}
use Rattle.score_base.specs.declared.records.Record.{Record}
use Rattle.score_base.specs.declared.records.Record.TheVariants as record'
use Rattle.score_base.specs.Tables.{Table}
use Rattle.placement.specs.Clusters.{ClusterData}
use Rattle.journal_words.specs.Journals.{Prepared, older, prepared_of, names_part, fits, all_fit}
use Rattle.journal_words.proofs.Fits.{prepared-fits}
use Rattle.journal_words.proofs.Once.{ended-first}
use Rattle.grid_store.specs.Keeping.{said_by, said_at, has_part, has_part_at, KeepsPlaces, CanPlace, KeepsOutcomes, CanEnd}

-- ---- places

-- what is said at a place stays said there
said-more : (rs : List Record) (x : Record) (o : Option ℕ) → ((i : ℕ) → o ≡ Some i → i < length rs) → said_at (rs ++ x ∷ []) o ≡ said_at rs o
said-more rs x None inside = refl
said-more rs x (Some i) inside = ap said_by (get_or_append_left rs (x ∷ []) (record'.Ceiling 0) i (inside i refl))

parts-more : (m : NodeId) (rs : List Record) (x : Record) (o : Option ℕ) → ((i : ℕ) → o ≡ Some i → i < length rs) → has_part_at m (rs ++ x ∷ []) o ≡ has_part_at m rs o
parts-more m rs x None inside = refl
parts-more m rs x (Some i) inside = ap (has_part m) (get_or_append_left rs (x ∷ []) (record'.Ceiling 0) i (inside i refl))

longer : (rs : List Record) (x : Record) → length (rs ++ x ∷ []) ≡ length rs + 1
longer rs x = length-append rs (x ∷ [])

-- a record that is no Prepared takes no place
pub places-other : (ps : List (TxId × ℕ)) (rs : List Record) (x : Record) → ((t : TxId) → prepared_of t (x ∷ reverse rs) ≡ prepared_of t (reverse rs)) → ((t : TxId) (m : NodeId) → names_part t m (x ∷ reverse rs) ≡ names_part t m (reverse rs)) → KeepsPlaces ps rs → KeepsPlaces ps (rs ++ x ∷ [])
places-other ps rs x same alike k = record {
  inside = λ t i at. (let within = k.inside t i at in let long = longer rs x in omega (arith, within, long));
  known = λ t. k.known t ∙ sym (ap (λ l. is_some (prepared_of t l)) (reverse-append rs (x ∷ [])) ∙ ap is_some (same t));
  said = λ t. said-more rs x (map.find nat_cmp t ps) (k.inside t) ∙ k.said t ∙ sym (ap (prepared_of t) (reverse-append rs (x ∷ [])) ∙ same t);
  part = λ t m. parts-more m rs x (map.find nat_cmp t ps) (k.inside t) ∙ k.part t m ∙ sym (ap (names_part t m) (reverse-append rs (x ∷ [])) ∙ alike t m);
}

-- a Prepared takes the last one
pub places-prepared : (old new : List (TxId × ℕ)) (rs : List Record) (at : ℕ) (t : TxId) (home : NodeId) (parts : List NodeId) (sid p : Ident) (reads : List Key) (writes : List (Key × Value)) → at ≡ length rs → map.find nat_cmp t old ≡ None → ((u : TxId) → map.find nat_cmp u new ≡ (if u == t then Some at else map.find nat_cmp u old)) → KeepsPlaces old rs → KeepsPlaces new (rs ++ record'.Prepared t home parts sid p reads writes ∷ [])
places-prepared old new rs at t home parts sid p reads writes last none found k = record {
  inside = λ u i is. within u i (u == t) refl (sym (found u) ∙ is);
  known = λ u. ap is_some (found u) ∙ known u (u == t) refl ∙ sym (ap (λ l. is_some (prepared_of u l)) (reverse-append rs (x ∷ [])));
  said = λ u. ap (said_at (rs ++ x ∷ [])) (found u) ∙ said u (u == t) refl ∙ sym (ap (prepared_of u) (reverse-append rs (x ∷ [])));
  part = λ u m. ap (has_part_at m (rs ++ x ∷ [])) (found u) ∙ part u m (u == t) refl ∙ sym (ap (names_part u m) (reverse-append rs (x ∷ [])));
}
  where
    x : Record
    x = record'.Prepared t home parts sid p reads writes

    within : (u : TxId) (i : ℕ) (b : Bool) → u == t ≡ b → (if b then Some at else map.find nat_cmp u old) ≡ Some i → i < length (rs ++ x ∷ [])
    within u i true e is = (let here : at ≡ i = grind (arith, is) in let long = longer rs x in omega (arith, here, last, long))
    within u i false e is = (let there = k.inside u i is in let long = longer rs x in omega (arith, there, long))

    some-older : (o : Option Prepared) (y : Prepared) → is_some (older o y) ≡ true
    some-older None y = refl
    some-older (Some z) y = refl

    known : (u : TxId) (b : Bool) → u == t ≡ b → is_some (if b then Some at else map.find nat_cmp u old) ≡ is_some (prepared_of u (x ∷ reverse rs))
    known u true e = (let self : t == u ≡ true = grind (arith, nat_tests, e) in sym (rw self (some-older (prepared_of u (reverse rs)) _)))
    known u false e = (let other : t == u ≡ false = grind (arith, nat_tests, e) in k.known u ∙ sym (rw other refl))

    new_one : prepared_of t (reverse rs) ≡ None
    new_one = sym (k.said t) ∙ ap (said_at rs) none

    said : (u : TxId) (b : Bool) → u == t ≡ b → said_at (rs ++ x ∷ []) (if b then Some at else map.find nat_cmp u old) ≡ prepared_of u (x ∷ reverse rs)
    said u true e =
        let is : u ≡ t = grind (arith, nat_tests, e) in
        let self : t == u ≡ true = grind (arith, nat_tests, e) in
        let fresh : prepared_of u (reverse rs) ≡ None = subst (λ (v : TxId). prepared_of v (reverse rs) ≡ None) (sym is) new_one in
        ap said_by (ap (λ i. slice_index_or (rs ++ x ∷ []) i (record'.Ceiling 0)) last ∙ get_or-append_seam rs x [] (record'.Ceiling 0))
        ∙ sym (rw (self, fresh) refl)
    said u false e =
        let other : t == u ≡ false = grind (arith, nat_tests, e) in
        said-more rs x (map.find nat_cmp u old) (k.inside u) ∙ k.said u ∙ sym (rw other refl)

    part : (u : TxId) (m : NodeId) (b : Bool) → u == t ≡ b → has_part_at m (rs ++ x ∷ []) (if b then Some at else map.find nat_cmp u old) ≡ names_part u m (x ∷ reverse rs)
    part u m true e =
        let self : t == u ≡ true = grind (arith, nat_tests, e) in
        ap (has_part m) (ap (λ i. slice_index_or (rs ++ x ∷ []) i (record'.Ceiling 0)) last ∙ get_or-append_seam rs x [] (record'.Ceiling 0))
        ∙ sym (rw self refl)
    part u m false e =
        let other : t == u ≡ false = grind (arith, nat_tests, e) in
        parts-more m rs x (map.find nat_cmp u old) (k.inside u) ∙ k.part u m ∙ sym (rw other refl)

-- a Prepared that fits has no place yet
pub can-place : (c : ClusterData) (n : NodeId) (rs : List Record) (places : Table TxId ℕ) (x : Record) → KeepsPlaces places.pairs rs → fits c n (reverse rs) x ≡ true → 1 ≤ places.spare → CanPlace places x
can-place c n rs places (record'.Prepared t home parts sid p reads writes) k fit room = (none (map.find nat_cmp t places.pairs) refl, room)
  where
    none : (o : Option ℕ) → map.find nat_cmp t places.pairs ≡ o → o ≡ None
    none None e = refl
    none (Some i) e = absurd (
        let known = k.known t in
        let new = (prepared-fits c n (reverse rs) t parts sid p reads writes fit).new in
        let some : is_some (map.find nat_cmp t places.pairs) ≡ true = ap is_some e in
        let bad : true ≡ false = sym some ∙ known ∙ ap is_some new in
        cc)
can-place c n rs places (record'.Ended t o) k fit room = tt
can-place c n rs places (record'.Ceiling d) k fit room = tt
can-place c n rs places (record'.Decided t f parts) k fit room = tt
can-place c n rs places (record'.Closed t) k fit room = tt

-- ---- outcomes

pub outcomes-ended : (old new : List (TxId × Outcome)) (r : List Record) (t : TxId) (o : Outcome) → ((u : TxId) → map.find nat_cmp u new ≡ (if u == t then Some o else map.find nat_cmp u old)) → KeepsOutcomes old r → KeepsOutcomes new (record'.Ended t o ∷ r)
outcomes-ended old new r t o found k u = (let e = found u in let here = k u in grind (arith, nat_tests, e, here))

-- an Ended that fits is of a transaction without outcome
pub can-end : (c : ClusterData) (n : NodeId) (r : List Record) (outcomes : Table TxId Outcome) (x : Record) → KeepsOutcomes outcomes.pairs r → all_fit c n (x ∷ r) ≡ true → 1 ≤ outcomes.spare → CanEnd outcomes x
can-end c n r outcomes (record'.Ended t o) k fit room = (k t ∙ ended-first c n t o r fit, room)
can-end c n r outcomes (record'.Prepared t home parts sid p reads writes) k fit room = tt
can-end c n r outcomes (record'.Ceiling d) k fit room = tt
can-end c n r outcomes (record'.Decided t f parts) k fit room = tt
can-end c n r outcomes (record'.Closed t) k fit room = tt
