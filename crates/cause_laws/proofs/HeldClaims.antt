-- Claims on reads: what holds where a read is requested, and stays true, holds of each read that was held or answered.
use Rattle.grid_laws.proofs.Causes.{AllDue, IsDue, IsIn, MayServe, ReplyDue, Requested, at_once, held, held_ever}
use Rattle.grid_laws.proofs.Frames.{in-append}
use Rattle.grid_model.specs.Documents.{DocumentData}
use Rattle.grid_model.specs.Nodes.{got, held_by, with_held}
use Rattle.grid_model.specs.declared.acts.Act.TheVariants as act
use Rattle.grid_model.specs.declared.acts.Act.{Act}
use Rattle.grid_model.specs.declared.stories.HeldRead.{HeldRead}
use Rattle.score_base.specs.declared.ids.Ident.{Ident}
use Rattle.score_base.specs.declared.ids.NodeId.{NodeId}
use Rattle.score_base.specs.declared.ids.TxId.{TxId}
use Rattle.score_base.specs.declared.ids.Value.{Value}
use Rattle.score_base.specs.declared.keys.Key.{Key}
use Rattle.std.proofs.Common.{Bool, List, None, Option, Some, [], arith, false, inl, inr, refl, subst, sym, true, ℕ, ◌∷◌, ◌≡◌}
use Rattle.std.proofs.lemmas.Bool.Decides.{nat_tests}
use Rattle.std.specs.Prelude.{if◌then◌else◌, ◌==◌}

held-is : (d : DocumentData) (past : List Act) (m : NodeId) (t : TxId) (op : ℕ) (sid : Ident) (k : Key) (x : NodeId)
    (asked : Requested d past m (record { t = t; op = op; sid = sid; key = k; from = x }))
    → held_by (got past) t op sid ≡ Some (record { t = t; op = op; sid = sid; key = k; from = x })
held-is d past m t op sid k x asked =
    let P : Key → Type 0 = λ z. held_by (got past) t op sid ≡ Some (record { t = t; op = op; sid = sid; key = z; from = x }) in
    subst P (sym asked.key) (rw asked.got refl)

held-new : (C : NodeId → HeldRead → Type 0) (m n : NodeId) (h y : HeldRead) (ever : List HeldRead) (o : Option HeldRead)
    → o ≡ Some y → C m y → (IsIn h ever → C n h) → m ≡ n → IsIn h (with_held o ever) → C n h
held-new C m n h y ever None is new go same i = cc
held-new C m n h y ever (Some z) is new go same i = elim (in-append h z ever i) [
  | inl before ↦ go before
  | inr last ↦
      let e : y ≡ h = cc in
      let P : HeldRead → Type 0 = λ w. C m w in
      let Q : NodeId → Type 0 = λ k. C k h in
      subst Q same (subst P e new)
]

held-before : (C : NodeId → HeldRead → Type 0) (d : DocumentData) (past : List Act) (a : Act) (n : NodeId)
    (h : HeldRead) → ((k : NodeId) (y : HeldRead) → Requested d past k y → C k y) → IsDue d past a
    → (IsIn h (held_ever d past n) → C n h) → IsIn h (held_ever d (a ∷ past) n) → C n h
held-before C d past (act.Held m t op sid) n h new due go i = at (m == n) refl i
  where
    at : (b : Bool) → (m == n) ≡ b
        → IsIn h (if b then with_held (held_by (got past) t op sid) (held_ever d past n) else held_ever d past n)
        → C n h
    at true e i = held-new C m n h (record { t = t; op = op; sid = sid; key = due.0; from = due.1 }) (held_ever d past n) (held_by (got past) t op sid) (held-is d past m t op sid due.0 due.1 due.2.requested) (new m (record { t = t; op = op; sid = sid; key = due.0; from = due.1 }) due.2.requested) go (grind (arith, nat_tests, e)) i
    at false e i = go i
held-before C d past a n h new due go i = go i

-- each read that was held
held-hold : (C : List Act → NodeId → HeldRead → Type 0) (d : DocumentData) (past : List Act)
    → ((now : List Act) (a : Act) (n : NodeId) (h : HeldRead) → AllDue d (a ∷ now) → C now n h → C (a ∷ now) n h)
    → ((now : List Act) (n : NodeId) (h : HeldRead) → AllDue d now → Requested d now n h → C now n h) → AllDue d past
    → (n : NodeId) (h : HeldRead) → IsIn h (held_ever d past n) → C past n h
held-hold C d [] more new due n h i = absurd i
held-hold C d (a ∷ past) more new due n h i = more past a n h due (held-before (C past) d past a n h (λ k y. new past k y due.1) due.0 (held-hold C d past more new due.1 n h) i)

-- each read that was answered
pub reply-hold : (C : List Act → NodeId → HeldRead → Type 0) (d : DocumentData) (past : List Act)
    → ((now : List Act) (a : Act) (n : NodeId) (h : HeldRead) → AllDue d (a ∷ now) → C now n h → C (a ∷ now) n h)
    → ((now : List Act) (n : NodeId) (h : HeldRead) → AllDue d now → Requested d now n h → C now n h) → AllDue d past
    → (n y : NodeId) (t : TxId) (op : ℕ) (sid : Ident) (v : Value) → (due : ReplyDue d past n y t op sid v)
    → C past n (record { t = t; op = op; sid = sid; key = due.key; from = y })
reply-hold C d past more new all n y t op sid v due =
    let a : Act = act.Served n t op due.key sid due.vn v in
    let h : HeldRead = record { t = t; op = op; sid = sid; key = due.key; from = y } in
    let P : List Act → Type 0 = λ p. AllDue d p in
    let Q : List Act → Type 0 = λ p. C p n h in
    let before : AllDue d (a ∷ due.before) = subst P due.is all in
    subst Q (sym due.is) (more due.before a n h before (may due.before before.1 due.may))
  where
    may : (now : List Act) → AllDue d now
        → MayServe d now n (record { t = t; op = op; sid = sid; key = due.key; from = y })
        → C now n (record { t = t; op = op; sid = sid; key = due.key; from = y })
    may now all (at_once asked cover) = new now n (record { t = t; op = op; sid = sid; key = due.key; from = y }) all asked
    may now all (held i) = held-hold C d now more new all n (record { t = t; op = op; sid = sid; key = due.key; from = y }) i
