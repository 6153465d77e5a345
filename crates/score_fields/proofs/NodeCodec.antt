-- The test that nodes rise tells that they do, and that each is a node.
use Rattle.std.proofs.Common.{◌≡◌, ℕ, zero, suc, ◌+◌, ◌<◌, ◌≤◌, ◌&&◌, true, ltb, leb, List, [], ◌∷◌, ◌++◌, length, get_or, take, drop, Some, refl, sym, ap, subst, ◌∙◌, arith}
use Rattle.std.specs.List.{AllByRecursion}
use Rattle.std.specs.List.Sorted.{IsStrictlyIncreasing}
use Rattle.std.proofs.lemmas.Bool.{ltb-true, lt-ltb, leb-true, le-leb, and_parts}
use Rattle.std.proofs.lemmas.Option.{cond_some}
use Rattle.std.proofs.lemmas.List.{take_at, drop_at, take-append-drop, length-append, length-take}
use Rattle.score_fields.specs.Spelling.{IsBytes, IsNode, AreNodes, nodes_bytes}
use Rattle.score_fields.specs.Reading.{rises_above, first_nodes}
use Rattle.score_fields.proofs.Codecs.{IsCodec}

-- each is above the low one, and below the next
pub record Rises (low : ℕ) (nodes : List ℕ) : Type 0 where
  pub first : 0 < length nodes → low < get_or nodes 0 0
  pub each : AllByRecursion IsNode nodes
  pub rising : IsStrictlyIncreasing nodes

rising_on : (n : ℕ) (ns : List ℕ) → (0 < length ns → n < get_or ns 0 0) → IsStrictlyIncreasing ns
    → IsStrictlyIncreasing (n ∷ ns)
rising_on n ns above more zero lt = above (omega (arith, lt))
rising_on n ns above more (suc k) lt =
    let next : suc (k + 1) ≡ suc k + 1 = omega arith in
    subst (λ (j : ℕ). get_or ns k 0 < get_or (n ∷ ns) j 0) next (more k (omega (arith, lt)))

rising_behind : (n : ℕ) (ns : List ℕ) → IsStrictlyIncreasing (n ∷ ns) → IsStrictlyIncreasing ns
rising_behind n ns rising k lt =
    let next : suc k + 1 ≡ suc (k + 1) = omega arith in
    subst (λ (j : ℕ). get_or ns k 0 < get_or (n ∷ ns) j 0) next (rising (suc k) (omega (arith, lt)))

pub rises_tells : (low : ℕ) (nodes : List ℕ) → rises_above low nodes ≡ true → Rises low nodes
rises_tells low [] e = record { first = λ some. absurd (omega (arith, some)); each = tt; rising = λ k lt. absurd (omega (arith, lt)) }
rises_tells low (n ∷ ns) e =
    let p = and_parts (ltb low n && leb n 16) (rises_above n ns) e in
    let q = and_parts (ltb low n) (leb n 16) p.0 in
    let above : low < n = ltb-true low n q.0 in
    let most : n ≤ 16 = leb-true n 16 q.1 in
    let more = rises_tells n ns p.1 in
    record { first = λ some. above; each = ((omega arith, most), more.each); rising = rising_on n ns more.first more.rising }

pub rises_told : (low : ℕ) (nodes : List ℕ) → (0 < length nodes → low < get_or nodes 0 0) → AllByRecursion IsNode nodes
    → IsStrictlyIncreasing nodes → rises_above low nodes ≡ true
rises_told low [] first each rising = refl
rises_told low (n ∷ ns) first each rising =
    let above : low < n = first (omega arith) in
    let more : rises_above n ns ≡ true = rises_told n ns (λ some. rising 0 (omega (arith, some))) each.1 (rising_behind n ns rising) in
    rw (lt-ltb low n above, le-leb n 16 each.0.1, more) refl

first_node : (nodes : List ℕ) → AllByRecursion IsNode nodes → 0 < length nodes → 0 < get_or nodes 0 0
first_node [] each some = absurd (omega (arith, some))
first_node (n ∷ ns) each some = omega (arith, each.0.0)

nodes_again : (nodes rest : List ℕ) → AreNodes nodes → first_nodes (nodes_bytes nodes ++ rest) ≡ Some (nodes, rest)
unfolding first_nodes
nodes_again nodes rest h =
    let long : leb (length nodes) (length (nodes ++ rest)) ≡ true = le-leb _ _ (omega (arith, length-append nodes rest)) in
    let rises : rises_above 0 nodes ≡ true = rises_told 0 nodes (first_node nodes h.each) h.each h.rising in
    rw (le-leb 1 (length nodes) h.some, le-leb (length nodes) 16 h.most, long, take_at nodes rest (length nodes) refl, drop_at nodes rest (length nodes) refl, rises) refl

nodes_takes : (bytes nodes rest : List ℕ) → IsBytes bytes → first_nodes bytes ≡ Some (nodes, rest)
    → AreNodes nodes × (bytes ≡ nodes_bytes nodes ++ rest)
unfolding first_nodes
nodes_takes [] nodes rest fits e = absurd cc
nodes_takes (n ∷ bytes) nodes rest fits e =
    let g = cond_some (leb 1 n && leb n 16 && leb n (length bytes) && rises_above 0 (take n bytes)) (take n bytes, drop n bytes) (nodes, rest) e in
    let p = and_parts (leb 1 n && leb n 16 && leb n (length bytes)) (rises_above 0 (take n bytes)) g.0 in
    let q = and_parts (leb 1 n && leb n 16) (leb n (length bytes)) p.0 in
    let r = and_parts (leb 1 n) (leb n 16) q.0 in
    let least : 1 ≤ n = leb-true 1 n r.0 in
    let most : n ≤ 16 = leb-true n 16 r.1 in
    let long : n ≤ length bytes = leb-true _ _ q.1 in
    let len : length (take n bytes) ≡ n = omega (arith, length-take n bytes) in
    let rises = rises_tells 0 (take n bytes) p.1 in
    let are : AreNodes (take n bytes) = record { some = omega arith; most = omega arith; each = rises.each; rising = rises.rising } in
    let whole : n ∷ bytes ≡ nodes_bytes (take n bytes) ++ drop n bytes = ap (λ (x : List ℕ). n ∷ x) (sym (take-append-drop n bytes)) ∙ ap (λ (m : ℕ). m ∷ (take n bytes ++ drop n bytes)) (sym len) in
    subst (λ (x : List ℕ × List ℕ). AreNodes x.0 × (n ∷ bytes ≡ nodes_bytes x.0 ++ x.1)) g.1 (are, whole)

pub codec_nodes : IsCodec AreNodes nodes_bytes first_nodes
codec_nodes = record { again = nodes_again; takes = nodes_takes }
