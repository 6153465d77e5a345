-- What a list by keys says behind a change of one entry, and the tally act by act, the newest act first.
use Rattle.std.proofs.Common.{◌≡◌, ◌≢◌, ℕ, ◌==◌, List, [], ◌∷◌, Option, Some, None, refl, sym, subst, ap, ◌∙◌, inl, inr, arith, if◌then◌else◌}
use Rattle.std.proofs.lemmas.Bool.{cases_eq}
use Rattle.std.proofs.lemmas.Bool.Decides.{nat_tests}
use Rattle.score_base.specs.declared.ids.NodeId.{NodeId}
use Rattle.score_base.specs.declared.ids.TxId.{TxId}
use Rattle.grid_model.specs.declared.acts.Act.{Act}
use Rattle.grid_model.specs.Documents.{DocumentData}
use Rattle.grid_model.specs.Histories.{after}
use Rattle.grid_model.specs.Keyed.{at_key, put_key}
use Rattle.run_tally.specs.declared.txs.TxTally.{TxTally}
use Rattle.run_tally.specs.Tallies.{NodeData, TallyData, TallyStart, TallyStep, tally_after, or_blank, node_in, with_node, retold_by, retold}
use Rattle.run_tally.proofs.ForCode.{at-put, put-other}

-- ---- lists by keys

pub at-put_cases : {A : Type 0} (u t : ℕ) (a : A) (xs : List (ℕ × A)) →
    at_key t (put_key u a xs) ≡ (if u == t then Some a else at_key t xs)
at-put_cases u t a xs = elim (cases_eq u t) [
  | inl same ↦ subst (λ v. at_key v (put_key u a xs) ≡ (if u == v then Some a else at_key v xs)) same
      (at-put u a xs ∙ grind (arith, nat_tests))
  | inr other ↦ let flipped : t ≢ u = λ e. other (sym e) in put-other t u a xs flipped ∙ grind (arith, nat_tests)
]

-- ---- the entry of a node

pub node-put : (m n : NodeId) (f : NodeData → NodeData) (xs : List (NodeId × NodeData)) →
    node_in n (with_node m f xs) ≡ (if m == n then f (node_in n xs) else node_in n xs)
node-put m n f xs = elim (cases_eq m n) [
  | inl same ↦ subst (λ k. node_in k (with_node m f xs) ≡ (if m == k then f (node_in k xs) else node_in k xs)) same
      (ap or_blank (at-put m (f (node_in m xs)) xs) ∙ grind (arith, nat_tests))
  | inr other ↦ let flipped : n ≢ m = λ e. other (sym e) in ap or_blank (put-other n m (f (node_in m xs)) xs flipped)
      ∙ grind (arith, nat_tests)
]

-- ---- the entry of a transaction

-- an entry with a change, where there is one
abbrev pub if_there : (TxTally → TxTally) → Option TxTally → Option TxTally
if_there f None = None
if_there f (Some x) = Some (f x)

retold-here : (u : TxId) (f : TxTally → TxTally) (xs : List (TxId × TxTally)) (o : Option TxTally) → at_key u xs ≡ o →
    at_key u (retold_by u f o xs) ≡ if_there f o
retold-here u f xs None is = is
retold-here u f xs (Some x) is = at-put u (f x) xs

retold-other : (u t : TxId) (f : TxTally → TxTally) (xs : List (TxId × TxTally)) (o : Option TxTally) → t ≢ u →
    at_key t (retold_by u f o xs) ≡ at_key t xs
retold-other u t f xs None apart = refl
retold-other u t f xs (Some x) apart = put-other t u (f x) xs apart

pub at-retold : (u t : TxId) (f : TxTally → TxTally) (xs : List (TxId × TxTally)) →
    at_key t (retold u f xs) ≡ (if u == t then if_there f (at_key t xs) else at_key t xs)
at-retold u t f xs = elim (cases_eq u t) [
  | inl same ↦ subst (λ k. at_key k (retold u f xs) ≡ (if u == k then if_there f (at_key k xs) else at_key k xs)) same
      (retold-here u f xs (at_key u xs) refl ∙ grind (arith, nat_tests))
  | inr other ↦ let flipped : t ≢ u = λ e. other (sym e) in retold-other u t f xs (at_key u xs) flipped
      ∙ grind (arith, nat_tests)
]

-- ---- the tally of a past

-- the tally of these acts, the newest first
abbrev pub tally : DocumentData → List Act → TallyData
tally d [] = TallyStart d
tally d (a ∷ past) = TallyStep d (tally d past) a

pub tally-after : (d : DocumentData) (past acts : List Act) →
    tally_after d (tally d past) acts ≡ tally d (after past acts)
tally-after d past [] = refl
tally-after d past (a ∷ acts) = tally-after d (a ∷ past) acts
