-- The members of the order are the decisions that stand at their homes.
use Rattle.std.proofs.Common.{◌≡◌, ℕ, ◌+◌, ◌≤◌, ◌<◌, inl, inr, Bool, true, false, List, [], Option, Some, None, refl, sym, subst, ◌∙◌, arith, zero, suc}
use Rattle.std.proofs.lemmas.Bool.Decides.{nat_tests}
use Rattle.std.proofs.lemmas.Bool.{or_left, or_right, cases_eq}
use Rattle.std.specs.Prelude.{◌||◌}
use Rattle.std.specs.List.{flat_map, range_with_len}
use Rattle.score_base.specs.declared.ids.TxId.{TxId}
use Rattle.score_base.specs.declared.ids.NodeId.{NodeId}
use Rattle.score_base.specs.declared.ids.Ident.{Ident}
use Rattle.script_lang.specs.Scripts.{ScriptData}
use Rattle.grid_model.specs.declared.acts.Act.{Act}
use Rattle.grid_model.specs.Documents.{DocumentData, IsOne}
use Rattle.grid_model.specs.Nodes.{journal, script_of, is_home, is_home_in}
use Rattle.journal_words.specs.Orders.{decisions}
use Rattle.grid_model.specs.Copies.{all_decisions, order}
use Rattle.journal_words.specs.Journals.{has_decided}
use Rattle.grid_model.specs.Facts.{IsDecided, DecisionsRest}
use Rattle.journal_words.proofs.Orders.{has_member, fold-member, member-append, decisions-member, nodes-member, AreFalling, fold-falling}
use Rattle.grid_laws.proofs.NodesNumbered.{home-least, home-most}

-- ---- the decisions of all nodes

or-false : (a : Bool) → (a || false) ≡ a
or-false true = refl
or-false false = refl

order-member : (d : DocumentData) (past : List Act) (f : Ident) (t : TxId)
    → has_member f t (order d past) ≡ has_member f t (all_decisions d past)
order-member d past f t = fold-member f t [] (all_decisions d past) ∙ or-false (has_member f t (all_decisions d past))

-- the order falls: the newest member comes first
pub order-falling : (d : DocumentData) (past : List Act) → AreFalling (order d past)
order-falling d past = fold-falling [] (all_decisions d past) tt

-- a member of the order is decided
pub order-decided : (d : DocumentData) (past : List Act) (t : TxId) (f : Ident) → DecisionsRest d past
    → has_member f t (order d past) ≡ true → IsDecided d past t f
order-decided d past t f rest h =
    let w = nodes-member f t (λ n. decisions (journal d past n)) (range_with_len 1 d.cluster.nodes) (sym (order-member d past f t) ∙ h) in
    let is : has_decided t f (journal d past w.0) ≡ true = sym (decisions-member f t (journal d past w.0)) ∙ w.1 in
    (w.0, (rest false w.0 t f is).0, is)

-- a member at one of the nodes from a on is among those of all
member-nodes : (f : Ident) (t : TxId) (of : NodeId → List (Ident × TxId)) (n : NodeId) (a len : ℕ) → a ≤ n → n < a + len
    → has_member f t (of n) ≡ true → has_member f t (flat_map of (range_with_len a len)) ≡ true
member-nodes f t of n a zero le lt h = absurd (omega arith)
member-nodes f t of n a (suc len) le lt h =
    member-append f t (of a) (flat_map of (range_with_len (a + 1) len))
    ∙ elim (cases_eq a n) [
      | inl same ↦ (let P : NodeId → Type 0 = λ k. has_member f t (of k) ≡ true in or_left (has_member f t (of a)) (has_member f t (flat_map of (range_with_len (a + 1) len))) (subst P (sym same) h))
      | inr other ↦ or_right (has_member f t (of a)) (has_member f t (flat_map of (range_with_len (a + 1) len))) (member-nodes f t of n (a + 1) len (omega arith) (omega arith) h)
    ]

-- the home of a script
record HomeOf (d : DocumentData) (t : TxId) (n : NodeId) : Type 0 where
  pub script : ScriptData
  pub is : script_of t d.scripts ≡ Some script
  pub home : script.home ≡ n

home-of : (d : DocumentData) (t : TxId) (n : NodeId) → is_home d t n ≡ true → HomeOf d t n
home-of d t n h = go (script_of t d.scripts) refl h
  where
    go : (o : Option ScriptData) → script_of t d.scripts ≡ o → is_home_in o n ≡ true → HomeOf d t n
    go None e h = cc
    go (Some s) e h = record { script = s; is = e; home = grind (arith, nat_tests, h) }

-- what is decided is a member of the order
pub decided-order : (d : DocumentData) (past : List Act) (t : TxId) (f : Ident) → IsOne d → IsDecided d past t f
    → has_member f t (order d past) ≡ true
decided-order d past t f one is =
    let h : HomeOf d t is.0 = home-of d t is.0 is.1 in
    let most : h.script.home ≤ d.cluster.nodes = home-most d t h.script one h.is in
    let least : 1 ≤ h.script.home = home-least d t h.script one h.is in
    let same : h.script.home ≡ is.0 = h.home in
    order-member d past f t ∙ member-nodes f t (λ n. decisions (journal d past n)) is.0 1 d.cluster.nodes (omega arith) (omega arith) (decisions-member f t (journal d past is.0) ∙ is.2)
