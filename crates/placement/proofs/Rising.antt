-- How the rising nodes that pass a test grow by one node.
use Rattle.std.proofs.Common.{◌≡◌, ℕ, ◌+◌, ◌-◌, ◌<◌, Bool, true, false, cond, List, [], ◌∷◌, ◌++◌, suc, refl, sym, ap, ◌∙◌, arith}
use Rattle.std.specs.List.{filter, range_with_len}
use Rattle.std.proofs.lemmas.List.{append_assoc}
use Rattle.score_base.specs.declared.ids.NodeId.{NodeId}

-- those of the nodes from n to 16 that pass a test, rising
unfoldable pub rising_from : (NodeId → Bool) → ℕ → List NodeId
rising_from p n = filter p (range_with_len n (17 - n))

one_more : (p : NodeId → Bool) (n : NodeId) (ns : List NodeId) → filter p (n ∷ ns) ≡ filter p (n ∷ []) ++ filter p ns
one_more p n ns = by (p n)
  where
    by : (b : Bool) → cond b (n ∷ filter p ns) (filter p ns) ≡ cond b (n ∷ []) [] ++ filter p ns
    by true = refl
    by false = refl

pub rising_from_more : (p : NodeId → Bool) (n : ℕ) → n < 17
    → rising_from p n ≡ filter p (n ∷ []) ++ rising_from p (n + 1)
unfolding rising_from
rising_from_more p n low = let e : 17 - n ≡ suc (17 - (n + 1)) = omega (arith, low) in rw e (one_more p n (range_with_len (n + 1) (17 - (n + 1))))

-- the parts so far with those from n on, when node n was tried
pub told_more : (p : NodeId → Bool) (n : ℕ) (parts new whole : List NodeId) → n < 17 → parts ++ rising_from p n ≡ whole
    → new ≡ parts ++ filter p (n ∷ []) → new ++ rising_from p (n + 1) ≡ whole
told_more p n parts new whole low told more =
    ap (λ l. l ++ rising_from p (n + 1)) more
    ∙ append_assoc parts (filter p (n ∷ [])) (rising_from p (n + 1))
    ∙ ap (λ l. parts ++ l) (sym (rising_from_more p n low))
    ∙ told
