-- The desk that a journal leaves is that of a view just opened.
use Rattle.std.proofs.Common.{◌≡◌, ◌==◌, ℕ, nat_eq, Bool, true, false, List, [], ◌∷◌, Option, None, inl, inr, refl, sym, ap, subst, ◌∙◌, arith, if◌then◌else◌}
use Rattle.std.proofs.Math.Path.{fun_ext}
use Rattle.std.proofs.lemmas.Bool.{cases_eq}
use Rattle.std.proofs.lemmas.Bool.Decides.{nat_tests}
use Rattle.std.specs.List.{AllByRecursion, IsDistinct}
use Rattle.std.specs.Map.{keys_of, remove_entry}
use Rattle.indexmap.specs.IndexMap.{insert_entry}
use Rattle.score_base.specs.declared.ids.TxId.{TxId}
use Rattle.score_base.specs.declared.ids.NodeId.{NodeId}
use Rattle.score_base.specs.declared.ids.Ident.{Ident}
use Rattle.score_base.specs.declared.records.Record.{Record}
use Rattle.score_base.specs.declared.records.Record.TheVariants as record'
use Rattle.placement.specs.Clusters.{ClusterData}
use Rattle.journal_words.specs.Journals.{undone}
use Rattle.grid_model.specs.Views.{View, stage_by}
use Rattle.presumed_abort.specs.declared.stands.Stand.{Stand}
use Rattle.presumed_abort.specs.declared.stands.Stand.TheVariants as stand
use Rattle.presumed_abort.specs.Stands.{standing}
use Rattle.presumed_abort.specs.Turns.{Change, Stays, Keeps, Goes, changed}
use Rattle.presumed_abort.specs.Replays.{decided_desk}
use Rattle.presumed_abort.specs.Views.{kept, IsDeskOf}
use Rattle.presumed_abort.proofs.DeskSteps.{changed-same, changed-other}
use Rattle.presumed_abort.proofs.Stages.{stage-is}
use Rattle.presumed_abort.proofs.Undone.{decided-undone, decided-other, closed-done, closed-other}

-- ---- no number stands twice

module _ {A : Type 0} where
  all-inserted :
      (P : ℕ → Type 0) (t : ℕ) (s : A) (es : List (ℕ × A))
      → AllByRecursion P (keys_of es) → P t → AllByRecursion P (keys_of (insert_entry nat_eq es t s))
  all-inserted P t s [] all here = (here, tt)
  all-inserted P t s (e ∷ es) all here = go (nat_eq t e.0) (all-inserted P t s es all.1 here)
    where
      go :
          (b : Bool) → AllByRecursion P (keys_of (insert_entry nat_eq es t s))
          → AllByRecursion P (keys_of (if b then (e.0, s) ∷ es else e ∷ insert_entry nat_eq es t s))
      go true rest = all
      go false rest = (all.0, rest)

  all-removed :
      (P : ℕ → Type 0) (t : ℕ) (es : List (ℕ × A))
      → AllByRecursion P (keys_of es) → AllByRecursion P (keys_of (remove_entry (nat_eq t) es))
  all-removed P t [] all = tt
  all-removed P t (e ∷ es) all = go (nat_eq t e.0) (all-removed P t es all.1)
    where
      go :
          (b : Bool) → AllByRecursion P (keys_of (remove_entry (nat_eq t) es))
          → AllByRecursion P (keys_of (if b then es else e ∷ remove_entry (nat_eq t) es))
      go true rest = all.1
      go false rest = (all.0, rest)

  distinct-inserted :
      (t : ℕ) (s : A) (es : List (ℕ × A))
      → IsDistinct nat_eq (keys_of es) → IsDistinct nat_eq (keys_of (insert_entry nat_eq es t s))
  unfolding IsDistinct
  distinct-inserted t s [] unique = (tt, tt)
  distinct-inserted t s (e ∷ es) unique = go (nat_eq t e.0) refl (distinct-inserted t s es unique.1)
    where
      go :
          (b : Bool) → nat_eq t e.0 ≡ b → IsDistinct nat_eq (keys_of (insert_entry nat_eq es t s))
          → IsDistinct nat_eq (keys_of (if b then (e.0, s) ∷ es else e ∷ insert_entry nat_eq es t s))
      go true at rest = unique
      go false at rest =
          let apart : nat_eq e.0 t ≡ false = grind (arith, nat_tests, at) in
          (all-inserted (λ y. nat_eq e.0 y ≡ false) t s es unique.0 apart, rest)

  distinct-removed :
      (t : ℕ) (es : List (ℕ × A))
      → IsDistinct nat_eq (keys_of es) → IsDistinct nat_eq (keys_of (remove_entry (nat_eq t) es))
  unfolding IsDistinct
  distinct-removed t [] unique = tt
  distinct-removed t (e ∷ es) unique = go (nat_eq t e.0) (distinct-removed t es unique.1)
    where
      go :
          (b : Bool) → IsDistinct nat_eq (keys_of (remove_entry (nat_eq t) es))
          → IsDistinct nat_eq (keys_of (if b then es else e ∷ remove_entry (nat_eq t) es))
      go true rest = unique.1
      go false rest = (all-removed (λ y. nat_eq e.0 y ≡ false) t es unique.0, rest)

pub changed-distinct :
    (t : TxId) (x : Change) (desk : List (TxId × Stand))
    → IsDistinct nat_eq (keys_of desk) → IsDistinct nat_eq (keys_of (changed t x desk))
changed-distinct t Stays desk unique = unique
changed-distinct t (Keeps s) desk unique = distinct-inserted t s desk unique
changed-distinct t Goes desk unique = distinct-removed t desk unique

pub decided-distinct : (r : List Record) → IsDistinct nat_eq (keys_of (decided_desk r))
unfolding IsDistinct
decided-distinct [] = tt
decided-distinct (record'.Decided t f parts ∷ r) = distinct-inserted t _ (decided_desk r) (decided-distinct r)
decided-distinct (record'.Closed t ∷ r) = distinct-removed t (decided_desk r) (decided-distinct r)
decided-distinct (x ∷ r) = decided-distinct r

-- ---- what stands

-- the change of a Decided
abbrev decides : TxId → Ident → List NodeId → Change
decides t f parts = Keeps (stand.Committed (record { t = t; f = f; parts = parts; acks = [] }))

-- what a desk keeps of t behind these records, where nothing is open and nothing acknowledged
abbrev left_of : ClusterData → List Record → TxId → Option Stand
left_of c r t = kept c t (stage_by (undone t r) None [])

decided-stands : (c : ClusterData) (r : List Record) (t : TxId) → standing (decided_desk r) t ≡ left_of c r t
decided-stands c [] t = refl
decided-stands c (record'.Decided u f parts ∷ r) t = elim (cases_eq u t) [
  | inl same ↦
      let here : standing (changed u (decides u f parts) (decided_desk r)) u
      ≡ left_of c (record'.Decided u f parts ∷ r) u =
      changed-same u (decides u f parts) (decided_desk r) (decided-distinct r)
      ∙ sym (ap (λ y. kept c u (stage_by y None [])) (decided-undone u f parts r)) in
      subst
      (λ (z : TxId).
      standing (changed u (decides u f parts) (decided_desk r)) z ≡ left_of c (record'.Decided u f parts ∷ r) z)
      same here
  | inr other ↦
      let apart : (u == t) ≡ false = grind (arith, nat_tests) in
      let flipped : nat_eq t u ≡ false = grind (arith, nat_tests) in
      changed-other u t (decides u f parts) (decided_desk r) flipped ∙ decided-stands c r t
      ∙ sym (ap (λ y. kept c t (stage_by y None [])) (decided-other u t f parts r apart))
]
decided-stands c (record'.Closed u ∷ r) t = elim (cases_eq u t) [
  | inl same ↦
      let here : standing (changed u Goes (decided_desk r)) u ≡ left_of c (record'.Closed u ∷ r) u =
      changed-same u Goes (decided_desk r) (decided-distinct r)
      ∙ sym (ap (λ y. kept c u (stage_by y None [])) (closed-done u r)) in
      subst
      (λ (z : TxId). standing (changed u Goes (decided_desk r)) z ≡ left_of c (record'.Closed u ∷ r) z)
      same here
  | inr other ↦
      let apart : (u == t) ≡ false = grind (arith, nat_tests) in
      let flipped : nat_eq t u ≡ false = grind (arith, nat_tests) in
      changed-other u t Goes (decided_desk r) flipped ∙ decided-stands c r t
      ∙ sym (ap (λ y. kept c t (stage_by y None [])) (closed-other u t r apart))
]
decided-stands c (x ∷ r) t = decided-stands c r t

pub opened-desk :
    (v : View) → ((t : TxId) → v.desk t ≡ None) → ((t : TxId) → v.acks t ≡ []) → IsDeskOf v (decided_desk v.journal)
opened-desk v none acks =
    fun_ext
    (λ t. decided-stands v.cluster v.journal t
    ∙ sym (ap (kept v.cluster t) (stage-is v t (undone t v.journal) None [] refl (none t) (acks t))))
