-- The desk of a view, behind a change of one transaction.
use Rattle.std.proofs.Common.{◌≡◌, ℕ, nat_eq, inl, inr, true, false, List, [], ◌∷◌, Option, Some, None, refl, sym, ap, subst, ◌∙◌, arith}
use Rattle.std.proofs.Math.Path.{fun_ext}
use Rattle.std.proofs.lemmas.Bool.{cases_eq}
use Rattle.std.proofs.lemmas.Bool.Decides.{nat_tests}
use Rattle.std.proofs.lemmas.Map.{lookup-remove_entry}
use Rattle.std.specs.Prelude.{◌==◌}
use Rattle.std.specs.List.{IsDistinct}
use Rattle.std.specs.Map.{lookup, keys_of, remove_entry}
use Rattle.score_base.specs.declared.ids.TxId.{TxId}
use Rattle.score_base.specs.declared.ids.NodeId.{NodeId}
use Rattle.grid_model.specs.declared.events.Event.{Event}
use Rattle.grid_model.specs.declared.events.Out.{Out}
use Rattle.grid_model.specs.Nodes.{written, learnt}
use Rattle.grid_model.specs.Rows.{outs_of}
use Rattle.grid_model.specs.NextViews.{next_view}
use Rattle.grid_model.specs.Views.{View, stage}
use Rattle.presumed_abort.specs.declared.stands.Stand.{Stand}
use Rattle.presumed_abort.specs.Stands.{standing}
use Rattle.presumed_abort.specs.Turns.{Turn, Change, Stays, Keeps, Goes, changed}
use Rattle.presumed_abort.specs.Views.{kept, IsDeskOf, IsRow}
use Rattle.presumed_abort.proofs.Inserts.{inserted-same, inserted-other}

-- what stands at t behind its change
abbrev pub behind_change : Change → Option Stand → Option Stand
behind_change Stays o = o
behind_change (Keeps s) o = Some s
behind_change Goes o = None

module _ {A : Type 0} where
  removed-none :
      (t : ℕ) (es : List (ℕ × A))
      → IsDistinct nat_eq (keys_of es) → lookup (nat_eq t) (remove_entry (nat_eq t) es) ≡ None
  removed-none t es unique =
      lookup-remove_entry
      (record {
        refl = λ x. grind (arith, nat_tests);
        symm = λ x y. grind (arith, nat_tests);
        congr = λ x y z h. grind (arith, nat_tests, h);
      })
      (nat_eq t) (λ x y h. grind (arith, nat_tests, h)) t es unique
      ∙ (let self : nat_eq t t ≡ true = grind (arith, nat_tests) in rw self refl)

  removed-other :
      (t u : ℕ) (es : List (ℕ × A))
      → nat_eq u t ≡ false → lookup (nat_eq u) (remove_entry (nat_eq t) es) ≡ lookup (nat_eq u) es
  removed-other t u [] other = refl
  removed-other t u (e ∷ es) other = grind (arith, nat_tests, other, removed-other t u es other)

pub changed-same :
    (t : TxId) (x : Change) (desk : List (TxId × Stand))
    → IsDistinct nat_eq (keys_of desk) → standing (changed t x desk) t ≡ behind_change x (standing desk t)
changed-same t Stays desk unique = refl
changed-same t (Keeps s) desk unique = inserted-same t s desk
changed-same t Goes desk unique = removed-none t desk unique

pub changed-other :
    (t u : TxId) (x : Change) (desk : List (TxId × Stand))
    → nat_eq u t ≡ false → standing (changed t x desk) u ≡ standing desk u
changed-other t u Stays desk other = refl
changed-other t u (Keeps s) desk other = inserted-other t u s desk other
changed-other t u Goes desk other = removed-other t u desk other

-- A view w behind v in which t alone stands otherwise, as the turn says, with the turn's record.
pub record Steps (v w : View) (t : TxId) (x : Turn) : Type 0 where
  pub cluster : w.cluster ≡ v.cluster
  pub journal : w.journal ≡ written x.rec v.journal
  pub next : w.next ≡ learnt x.rec v.next
  pub held : w.held ≡ v.held
  pub others : (u : TxId) → (t == u) ≡ false → stage w u ≡ stage v u
  pub same : kept w.cluster t (stage w t) ≡ behind_change x.change (kept v.cluster t (stage v t))

pub desk-steps :
    (v w : View) (t : TxId) (x : Turn) (desk : List (TxId × Stand))
    → IsDistinct nat_eq (keys_of desk) → IsDeskOf v desk → Steps v w t x → IsDeskOf w (changed t x.change desk)
desk-steps v w t x desk unique is steps = fun_ext each
  where
    here : standing desk t ≡ kept v.cluster t (stage v t)
    here = ap (λ f. f t) is

    at_t : standing (changed t x.change desk) t ≡ kept w.cluster t (stage w t)
    at_t = changed-same t x.change desk unique ∙ ap (behind_change x.change) here ∙ sym steps.same

    each : (u : TxId) → standing (changed t x.change desk) u ≡ kept w.cluster u (stage w u)
    each u = elim (cases_eq t u) [
      | inl same ↦ subst (λ z. standing (changed t x.change desk) z ≡ kept w.cluster z (stage w z)) same at_t
      | inr other ↦
          let apart : (t == u) ≡ false = grind (arith, nat_tests) in
          let flipped : nat_eq u t ≡ false = grind (arith, nat_tests) in
          changed-other t u x.change desk flipped ∙ ap (λ f. f u) is ∙ rw (steps.others u apart, steps.cluster) refl
    ]

-- the turn is the row of an event whose outs these are, where the view behind them steps as the turn says
pub row-is :
    (n : NodeId) (v : View) (desk : List (TxId × Stand)) (e : Event) (t : TxId) (x : Turn) (os : List Out)
    → IsDistinct nat_eq (keys_of desk) → IsDeskOf v desk
    → os ≡ outs_of n v e → x.outs ≡ os → Steps v (next_view n v e os) t x → IsRow n v desk e t x
row-is n v desk e t x os unique is row outs steps =
    record {
      outs_are = outs ∙ row;
      cluster = ap (λ (ys : List Out). (next_view n v e ys).cluster) (sym row) ∙ steps.cluster;
      journal = ap (λ (ys : List Out). (next_view n v e ys).journal) (sym row) ∙ steps.journal;
      next = ap (λ (ys : List Out). (next_view n v e ys).next) (sym row) ∙ steps.next;
      held = ap (λ (ys : List Out). (next_view n v e ys).held) (sym row) ∙ steps.held;
      desk_is =
          subst
          (λ (ys : List Out). IsDeskOf (next_view n v e ys) (changed t x.change desk)) row
          (desk-steps v (next_view n v e os) t x desk unique is steps);
    }
