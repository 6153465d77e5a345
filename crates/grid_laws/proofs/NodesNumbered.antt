-- The homes and the holders that a document names have numbers from 1 to that of its last node.
use Rattle.std.proofs.Common.{◌≡◌, ℕ, ◌≤◌, inl, inr, Bool, true, false, List, [], ◌∷◌, Some, subst, arith, zero, suc}
use Rattle.std.proofs.lemmas.Bool.Decides.{nat_tests}
use Rattle.std.proofs.lemmas.Bool.{and_parts, or_cases}
use Rattle.std.specs.Prelude.{nat_le, IsTrue, ◌==◌, if◌then◌else◌, ◌%◌, length, slice_index_or}
use Rattle.std.specs.List.{list_all}
use Rattle.score_base.specs.declared.ids.TxId.{TxId}
use Rattle.score_base.specs.declared.ids.NodeId.{NodeId}
use Rattle.score_base.specs.declared.keys.Key.{Key}
use Rattle.script_lang.specs.Scripts.{ScriptData}
use Rattle.placement.specs.Places.{is_among, holds, key_sum}
use Rattle.grid_model.specs.Documents.{DocumentData, IsOne}
use Rattle.grid_model.specs.Nodes.{script_of}

-- ---- homes

-- what holds of each script holds of that of a number
pub script-all : (p : ScriptData → Bool) (t : TxId) (ss : List ScriptData) (s : ScriptData) → list_all p ss ≡ true
    → script_of t ss ≡ Some s → p s ≡ true
script-all p t [] s all e = cc
script-all p t (x ∷ ss) s all e = go (x.number == t) e (and_parts (p x) (list_all p ss) all).0 (λ f. script-all p t ss s (and_parts (p x) (list_all p ss) all).1 f)
  where
    go : (b : Bool) → (if b then Some x else script_of t ss) ≡ Some s → p x ≡ true
        → (script_of t ss ≡ Some s → p s ≡ true) → p s ≡ true
    go true e h more = (let is : x ≡ s = cc in let P : ScriptData → Type 0 = λ y. p y ≡ true in subst P is h)
    go false e h more = more e

pub home-most : (d : DocumentData) (t : TxId) (s : ScriptData) → IsOne d → script_of t d.scripts ≡ Some s
    → s.home ≤ d.cluster.nodes
home-most d t s one e =
    let le : nat_le s.home d.cluster.nodes ≡ true = script-all (λ x. nat_le x.home d.cluster.nodes) t d.scripts s one.document.homes e in
    grind (arith, nat_tests, le)

-- ---- holders

among-all : (p : NodeId → Bool) (n : NodeId) (ns : List NodeId) → list_all p ns ≡ true → is_among n ns ≡ true
    → p n ≡ true
among-all p n [] all h = cc
among-all p n (k ∷ ns) all h = elim (or_cases (k == n) (is_among n ns) h) [
  | inl here ↦ (let same : k ≡ n = grind (arith, nat_tests, here) in let P : NodeId → Type 0 = λ m. p m ≡ true in subst P same (and_parts (p k) (list_all p ns) all).0)
  | inr later ↦ among-all p n ns (and_parts (p k) (list_all p ns) all).1 later
]

index-all : (p : NodeId → Bool) (n : NodeId) (places : List (List NodeId)) (i : ℕ) → list_all (list_all p) places ≡ true
    → is_among n (slice_index_or places i []) ≡ true → p n ≡ true
index-all p n [] i all h = cc
index-all p n (ns ∷ places) zero all h = among-all p n ns (and_parts (list_all p ns) (list_all (list_all p) places) all).0 h
index-all p n (ns ∷ places) (suc i) all h = index-all p n places i (and_parts (list_all p ns) (list_all (list_all p) places) all).1 h

-- what holds of each node of the partitions holds of a holder
pub holder-all : (p : NodeId → Bool) (d : DocumentData) (n : NodeId) (k : Key)
    → list_all (list_all p) d.cluster.places ≡ true → IsTrue (holds d.cluster.places n k) → p n ≡ true
holder-all p d n k all h = index-all p n d.cluster.places (key_sum k % length d.cluster.places) all h

pub holder-most : (d : DocumentData) (n : NodeId) (k : Key) → IsOne d → IsTrue (holds d.cluster.places n k)
    → n ≤ d.cluster.nodes
holder-most d n k one h =
    let le : nat_le n d.cluster.nodes ≡ true = holder-all (λ m. nat_le m d.cluster.nodes) d n k one.document.cluster.within h in
    grind (arith, nat_tests, le)

-- ---- numbers from 1 on

at-least : (a : ℕ) → nat_le 1 a ≡ true → 1 ≤ a
at-least a h = grind (arith, nat_tests, h)

pub home-least : (d : DocumentData) (t : TxId) (s : ScriptData) → IsOne d → script_of t d.scripts ≡ Some s → 1 ≤ s.home
home-least d t s one e = at-least s.home (script-all (λ x. nat_le 1 x.home) t d.scripts s (and_parts (list_all (list_all (λ n. nat_le 1 n)) d.cluster.places) (list_all (λ x. nat_le 1 x.home) d.scripts) one.nodes).1 e)

pub holder-least : (d : DocumentData) (n : NodeId) (k : Key) → IsOne d → IsTrue (holds d.cluster.places n k) → 1 ≤ n
holder-least d n k one h = at-least n (holder-all (λ m. nat_le 1 m) d n k (and_parts (list_all (list_all (λ n. nat_le 1 n)) d.cluster.places) (list_all (λ x. nat_le 1 x.home) d.scripts) one.nodes).0 h)
