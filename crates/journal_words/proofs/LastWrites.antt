-- Is what a node reads at an identifier what the last of the decided transactions wrote?
use Rattle.std.proofs.Common.{◌≤◌, ◌≡◌, inl, inr, true, false, ◌&&◌, List, [], ◌∷◌, Option, Some, None, refl, sym, ap, subst, ◌∙◌, arith, if◌then◌else◌}
use Rattle.std.proofs.lemmas.Bool.{or_cases, or_right}
use Rattle.std.proofs.lemmas.Bool.Decides.{nat_tests}
use Rattle.std.specs.Prelude.{◌==◌}
use Rattle.score_base.specs.declared.ids.TxId.{TxId}
use Rattle.score_base.specs.declared.ids.NodeId.{NodeId}
use Rattle.score_base.specs.declared.ids.Ident.{Ident}
use Rattle.score_base.specs.declared.ids.Value.{Value}
use Rattle.score_base.specs.declared.keys.Key.{Key}
use Rattle.score_base.specs.declared.records.Record.{Record}
use Rattle.placement.specs.Clusters.{ClusterData}
use Rattle.journal_words.specs.declared.versions.Version.{Version}
use Rattle.journal_words.specs.Journals.{all_fit, applied, up_to, version_at, later, is_behind}
use Rattle.journal_words.specs.Orders.{is_before}
use Rattle.journal_words.proofs.Pairs.{has_pair}
use Rattle.journal_words.proofs.Applied.{applied-says}
use Rattle.journal_words.proofs.Bests.{best_of, writer, IsOneOf, initial, written, best-one, IsWithin, best-same}
use Rattle.journal_words.proofs.Stands.{final-positive}
use Rattle.journal_words.proofs.Readable.{up_to-says, says-up_to, version-is, IsVersion}
use Rattle.journal_words.proofs.Orders.{AllUpTo, AreFalling, has_member}

-- ---- the last write of a falling list

abbrev pub value_or : Option Value → Value → Value
value_or None v = v
value_or (Some w) v = w

-- the value of the first of these that wrote, which is the last one in the order, or the initial value
abbrev pub last_written : (TxId → Option Value) → Value → List (Ident × TxId) → Value
last_written w start [] = start
last_written w start (x ∷ xs) = value_or (w x.1) (last_written w start xs)

-- the pairs of a falling list as pairs of a commit
abbrev pub turned : List (Ident × TxId) → List (TxId × Ident)
turned [] = []
turned (x ∷ xs) = (x.1, x.0) ∷ turned xs

pub turned-member : (f : Ident) (t : TxId) (xs : List (Ident × TxId)) → has_pair t f (turned xs) ≡ has_member f t xs
turned-member f t [] = refl
turned-member f t (x ∷ xs) = grind (arith, turned-member f t xs)

-- none of those that follow x comes behind it
pub all-up_to : (x : Ident × TxId) (f : Ident) (t : TxId) (xs : List (Ident × TxId)) → AllUpTo x xs
    → has_member f t xs ≡ true → is_before x (f, t) ≡ false
all-up_to x f t [] all h = absurd (grind (arith, h))
all-up_to x f t (y ∷ ys) all h = elim (or_cases (y.0 == f && y.1 == t) (has_member f t ys) h) [
  | inl here ↦
      let f' : y.0 ≡ f = grind (arith, nat_tests, here) in
      let t' : y.1 ≡ t = grind (arith, nat_tests, here) in
      let first = all.0 in
      let P : Ident → TxId → Type 0 = λ g u. is_before x (g, u) ≡ false in
      subst (P f) t' (subst (λ g. P g y.1) f' first)
  | inr more ↦ all-up_to x f t ys all.1 more
]

-- the best of a falling list is its last write
pub falling-best : (w : TxId → Option Value) (start : Value) (xs : List (Ident × TxId)) → AreFalling xs
    → ((f : Ident) (t : TxId) (v : Value) → has_member f t xs ≡ true → w t ≡ Some v → 1 ≤ f)
    → (best_of w start (turned xs)).value ≡ last_written w start xs
falling-best w start [] fall each = refl
falling-best w start (x ∷ xs) fall each = go (w x.1) refl (falling-best w start xs fall.1 (λ f t v h e. each f t v (or_right (x.0 == f && x.1 == t) (has_member f t xs) h) e)) (best-one w start (turned xs))
  where
    choose : (v : Value) (b : Version) → 1 ≤ x.0 → w x.1 ≡ Some v → IsOneOf w start (turned xs) b
        → (if is_behind x.0 x.1 b then record { ident = x.0; of = x.1; value = v } else b).value ≡ v
    choose v b least is (initial e) = (let P : Version → Type 0 = λ z. (if is_behind x.0 x.1 z then record { ident = x.0; of = x.1; value = v } else z).value ≡ v in subst P (sym e) (grind (arith, nat_tests, least)))
    choose v b least is (written u f v' h e' e) =
        let up = all-up_to x f u xs fall.0 (sym (turned-member f u xs) ∙ h) in
        let P : Version → Type 0 = λ z. (if is_behind x.0 x.1 z then record { ident = x.0; of = x.1; value = v } else z).value ≡ v in
        subst P (sym e) (same u f v' up e')
      where
        same : (u : TxId) (f : Ident) (v' : Value) → is_before x (f, u) ≡ false → w u ≡ Some v' → (let z : Version = record { ident = f; of = u; value = v' } in (if is_behind x.0 x.1 z then record { ident = x.0; of = x.1; value = v } else z).value ≡ v)
        same u f v' up e' = grind (arith, nat_tests, up, e', is)

    go : (o : Option Value) → w x.1 ≡ o → (best_of w start (turned xs)).value ≡ last_written w start xs
        → IsOneOf w start (turned xs) (best_of w start (turned xs))
        → (later x.0 x.1 o (best_of w start (turned xs))).value ≡ value_or o (last_written w start xs)
    go None e rest one = rest
    go (Some v) e rest one = choose v (best_of w start (turned xs)) (each x.0 x.1 v (grind (arith, nat_tests)) e) e one

-- ---- what a node reads

-- where the versions of a key up to s are those that the members of a falling list wrote, the value read
-- at s is their last write
pub version-last : (c : ClusterData) (n : NodeId) (r : List Record) (k : Key) (start : Value) (s : Ident)
    (w : TxId → Option Value) (ds : List (Ident × TxId)) → all_fit c n r ≡ true → AreFalling ds
    → ((t : TxId) (f : Ident) (v : Value) → IsVersion r k t f v → f ≤ s → (has_member f t ds ≡ true) × (w t ≡ Some v))
    → ((t : TxId) (f : Ident) (v : Value) → has_member f t ds ≡ true → w t ≡ Some v → IsVersion r k t f v × (f ≤ s))
    → (version_at r k start s).value ≡ last_written w start ds
version-last c n r k start s w ds fit fall to from =
    ap (λ (z : Version). z.value) (version-is r k start s ∙ best-same (writer r k) w start (up_to s (applied r)) (turned ds) there back)
    ∙ falling-best w start ds fall (λ f t v h e. positive t f (from t f v h e).0.applied)
  where
    positive : (t : TxId) (f : Ident) → has_pair t f (applied r) ≡ true → 1 ≤ f
    positive t f h = final-positive c n t f r fit (applied-says c n t f r fit h).committed

    there : IsWithin (writer r k) w (up_to s (applied r)) (turned ds)
    there t f v h e =
        let a = up_to-says s t f r h in
        let b = to t f v (record { applied = a.applied; wrote = e }) a.most in
        (turned-member f t ds ∙ b.0, b.1, positive t f a.applied)

    back : IsWithin w (writer r k) (turned ds) (up_to s (applied r))
    back t f v h e =
        let b = from t f v (sym (turned-member f t ds) ∙ h) e in
        (says-up_to s t f r (record { applied = b.0.applied; most = b.1 }), b.0.wrote, positive t f b.0.applied)
