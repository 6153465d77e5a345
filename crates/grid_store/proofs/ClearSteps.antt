-- The least pending proposal says what is clear.
use Rattle.std.proofs.Common.{ℕ, ◌≡◌, Bool, true, false, List, Option, Some, None, is_some, refl, sym, ap, ◌∙◌, arith}
use Rattle.std.proofs.lemmas.Bool.Decides.{nat_tests}
use Rattle.std.specs.Prelude.{nat_lt, ◌↔◌, IsNone, IfSome}
use Rattle.std.specs.Cmp.{nat_cmp_total}
use Rattle.std.specs.Ordering.{nat_cmp}
use Rattle.std.specs.FinMap as map
use Rattle.score_base.specs.declared.ids.TxId.{TxId}
use Rattle.score_base.specs.declared.ids.NodeId.{NodeId}
use Rattle.score_base.specs.declared.ids.Ident.{Ident}
use Rattle.score_base.specs.declared.records.Record.{Record}
use Rattle.placement.specs.Clusters.{ClusterData}
use Rattle.pending_queue.specs.Proposals.{Proposals, IsLeast}
use Rattle.journal_words.specs.Journals.{pending, is_clear, all_fit}
use Rattle.journal_words.proofs.Pendings.{clear-pending, not-clear}
use Rattle.stable_queue.specs.Commits.{is_below}
use Rattle.grid_store.specs.Given.{IsLeastPending}
use Rattle.grid_store.specs.Keeping.{KeepsPending}

-- nothing is pending
pub clear-none : (c : ClusterData) (n : NodeId) (f : Ident) (m : Proposals) (r : List Record) → all_fit c n r ≡ true → KeepsPending m r → m ≡ map.empty → is_clear f r ≡ true
clear-none c n f m r fit keeps is = go (is_clear f r) refl
  where
    go : (b : Bool) → is_clear f r ≡ b → b ≡ true
    go true e = refl
    go false e = absurd (
        let x = not-clear c n f r fit e in
        let some : map.get m x.of ≡ Some x.proposal = keeps x.of ∙ x.pending in
        let some' : map.get map.empty x.of ≡ Some x.proposal = rw is at some in
        let none = map.get-empty {X = ℕ} nat_cmp x.of in
        grind (arith, some', none))

-- p is the least proposal
pub clear-least : (c : ClusterData) (n : NodeId) (f p : Ident) (m : Proposals) (r : List Record) → all_fit c n r ≡ true → KeepsPending m r → IsLeast m p → nat_lt f p ≡ is_clear f r
clear-least c n f p m r fit keeps least = go (nat_lt f p) (is_clear f r) refl refl
  where
    go : (a b : Bool) → nat_lt f p ≡ a → is_clear f r ≡ b → a ≡ b
    go true true e e' = refl
    go false false e e' = refl
    go true false e e' = absurd (
        let x = not-clear c n f r fit e' in
        let le = least.least x.of x.proposal (keeps x.of ∙ x.pending) in
        let most = x.most in
        grind (arith, nat_tests, e, le, most))
    go false true e e' = absurd (
        let t = least.pending in
        let lt = clear-pending f t.0 p r e' (sym (keeps t.0) ∙ t.1) in
        grind (arith, nat_tests, e, lt))

-- ---- what the least of the queue says of the records

pub least-clear : (c : ClusterData) (n : NodeId) (f : Ident) (o : Option ℕ) (m : Proposals) (r : List Record) → all_fit c n r ≡ true → KeepsPending m r → (IsNone o ↔ (m ≡ map.empty)) → IfSome o (IsLeast m) → is_below o f ≡ is_clear f r
least-clear c n f None m r fit keeps none least = sym (clear-none c n f m r fit keeps (none.0 refl))
least-clear c n f (Some p) m r fit keeps none least = clear-least c n f p m r fit keeps least

pub least-pending : (o : Option ℕ) (m : Proposals) (r : List Record) → KeepsPending m r → IfSome o (IsLeast m) → IfSome o (IsLeastPending r)
least-pending None m r keeps least = tt
least-pending (Some p) m r keeps least = record {
  pending = (least.pending.0, sym (keeps least.pending.0) ∙ least.pending.1);
  least = λ t q is. least.least t q (keeps t ∙ is);
}

none-is : {A : Type 0} (o : Option A) → IsNone o → o ≡ None
none-is None h = refl
none-is (Some x) h = cc

pub least-none : (o : Option ℕ) (m : Proposals) (r : List Record) → KeepsPending m r → (IsNone o ↔ (m ≡ map.empty)) → (IsNone o ↔ ((t : TxId) → IsNone (pending t r)))
least-none o m r keeps none = (
  (λ e t. ap is_some (sym (keeps t) ∙ ap (λ (x : Proposals). map.get x t) (none.0 e) ∙ map.get-empty {X = ℕ} nat_cmp t)),
  (λ h. none.1 (map.same_map nat_cmp_total map.nat_cmp-IsAntisymmetric m map.empty (λ t. keeps t ∙ none-is (pending t r) (h t) ∙ sym (map.get-empty {X = ℕ} nat_cmp t)))),
)
