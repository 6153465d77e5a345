-- No transaction is decided twice, whether or not a decision is in doubt.
use Rattle.std.proofs.Common.{◌≡◌, Bool, true, false, List, [], ◌∷◌, Option, Some, None, inl, inr, refl, sym, subst, ◌∙◌, arith}
use Rattle.std.proofs.lemmas.Bool.Decides.{nat_tests}
use Rattle.std.proofs.lemmas.Bool.{cases_eq, both_ways}
use Rattle.std.specs.Prelude.{◌==◌, ◌&&◌, ◌||◌}
use Rattle.score_base.specs.declared.ids.TxId.{TxId}
use Rattle.score_base.specs.declared.ids.NodeId.{NodeId}
use Rattle.score_base.specs.declared.ids.Ident.{Ident}
use Rattle.score_base.specs.declared.records.Record.{Record}
use Rattle.score_base.specs.declared.records.Record.TheVariants as record'
use Rattle.grid_model.specs.declared.acts.Act.{Act}
use Rattle.grid_model.specs.Documents.{DocumentData}
use Rattle.grid_model.specs.Nodes.{Node, Change, Writes, Stops, Starts, change, changed, got, journal, node, script_of, written}
use Rattle.journal_words.specs.Orders.{decisions}
use Rattle.grid_model.specs.Facts.{IsDecided}
use Rattle.journal_words.specs.Journals.{has_decided}
use Rattle.journal_words.proofs.Orders.{has_member}
use Rattle.grid_laws.proofs.Frames.{same-number}
use Rattle.grid_laws.proofs.Causes.{AllDue}
use Rattle.grid_laws.proofs.MessageCauses.{IsUp}
use Rattle.grid_laws.proofs.DueAnswers.{home-is}
use Rattle.grid_laws.proofs.NodesFit.{home-one}
use Rattle.grid_laws.proofs.NodesFitActs.{nodes-fit}
use Rattle.grid_laws.proofs.KnownDecisions.{is_decided_in, Decides, adds, adds-due, decided-has, has_tx, known, known-written}
use Rattle.grid_laws.proofs.DecidedNotGivenUp.{IsRunning, running-unknown}

-- no transaction stands twice
abbrev pub AreOnce : List (Ident × TxId) → Type 0
AreOnce [] = Unit {0}
AreOnce (x ∷ xs) = (has_tx x.1 xs ≡ false) × AreOnce xs

-- ---- one change

-- a record is of no transaction with a decision in these records
abbrev IsNew : Option Record → List Record → Type 0
IsNew o r = (t : TxId) → is_decided_in t o ≡ true → has_tx t (decisions r) ≡ false

once-written : (o : Option Record) (r : List Record) → IsNew o r → AreOnce (decisions r)
    → AreOnce (decisions (written o r))
once-written None r new once = once
once-written (Some (record'.Decided u f parts)) r new once = (new u (same-number u), once)
once-written (Some y) r new once = once

once-rest : (o : Option Record) (r : List Record) → AreOnce (decisions (written o r)) → AreOnce (decisions r)
once-rest None r once = once
once-rest (Some (record'.Decided u f parts)) r once = once.1
once-rest (Some y) r once = once

-- what a change adds is new to a node without a doubt
abbrev AddsNew : Change → Node → Type 0
AddsNew c x = (t : TxId) → adds c t ≡ true → (x.doubt ≡ None) × (has_tx t (known x) ≡ false)

once-writes : (p o : Option Record) (r : List Record)
    → ((t : TxId) → is_decided_in t o ≡ true → (p ≡ None) × (has_tx t (decisions (written p r)) ≡ false))
    → AreOnce (decisions (written p r)) → AreOnce (decisions (written p (written o r)))
once-writes p None r new once = once
once-writes None (Some (record'.Decided u f parts)) r new once = ((new u (same-number u)).1, once)
once-writes (Some y) (Some (record'.Decided u f parts)) r new once = (let none : Some y ≡ None = (new u (same-number u)).0 in cc)
once-writes None (Some z) r new once = once
once-writes (Some (record'.Decided v g ns)) (Some z) r new once = once
once-writes (Some y) (Some z) r new once = once

false-part : (a b : Bool) → (a || b) ≡ false → b ≡ false
false-part true b e = cc
false-part false b e = e

once-changed : (c : Change) (x : Node) → AddsNew c x → AreOnce (known x) → AreOnce (known (changed c x))
once-changed (Writes o) x new once = once-writes x.doubt o x.journal new once
once-changed (Stops o) x new once = once-written o x.journal (λ t i. false-part (is_decided_in t x.doubt) (has_tx t (decisions x.journal)) (rw (known-written t x.doubt x.journal) at (new t i).1)) (once-rest x.doubt x.journal once)
once-changed (Starts true) x new once = once
once-changed (Starts false) x new once = once-rest x.doubt x.journal once
once-changed w x new once = once

-- ---- each node

decides-running : (d : DocumentData) (past : List Act) (n : NodeId) (t : TxId) → Decides d past n t → IsRunning d past t
decides-running d past n t w = (let r = w.due.1 in let P : NodeId → Type 0 = λ k. IsUp d past k in record { script = r.script; is = r.at.script; unended = r.unended; up = subst P (sym r.at.home) w.due.0 })

decides-new : (d : DocumentData) (past : List Act) (n : NodeId) (t : TxId) → AllDue d past → Decides d past n t
    → ((node d past n).doubt ≡ None) × (has_tx t (known (node d past n)) ≡ false)
decides-new d past n t all w = (let r = w.due.1 in ((nodes-fit d past all n).quiet w.due.0, running-unknown d past n t all (decides-running d past n t w) (home-is d t n r.script r.at.script r.at.home)))

-- of the decisions that a node knows
pub known-once : (d : DocumentData) (past : List Act) → AllDue d past → (n : NodeId) → AreOnce (known (node d past n))
known-once d [] due n = tt
known-once d (a ∷ past) due n = once-changed (change d (got past) a n) (node d past n) (λ t i. decides-new d past n t due.1 (adds-due d past a n t due.0 i)) (known-once d past due.1 n)

-- of the decisions that stand
pub decided-once : (d : DocumentData) (past : List Act) → AllDue d past → (n : NodeId)
    → AreOnce (decisions (journal d past n))
decided-once d past all n = once-rest (node d past n).doubt (journal d past n) (known-once d past all n)

-- ---- one final identifier

once-same : (t : TxId) (f g : Ident) (r : List Record) → AreOnce (decisions r) → has_decided t f r ≡ true
    → has_decided t g r ≡ true → f ≡ g
once-same t f g [] once a b = cc
once-same t f g (record'.Decided u e parts ∷ r) once a b = elim (cases_eq u t) [
  | inl same ↦
      let P : TxId → Type 0 = λ v. has_tx v (decisions r) ≡ false in
      let none : has_tx t (decisions r) ≡ false = subst P same once.0 in
      let x : e ≡ f = here f (has_decided t f r) a (λ i. both_ways (has_tx t (decisions r)) none (decided-has t f r i)) in
      let y : e ≡ g = here g (has_decided t g r) b (λ i. both_ways (has_tx t (decisions r)) none (decided-has t g r i)) in
      sym x ∙ y
  | inr other ↦ once-same t f g r once.1 (grind (arith, nat_tests, a)) (grind (arith, nat_tests, b))
]
  where
    here : (h : Ident) (c : Bool) → (((u == t) && (e == h)) || c) ≡ true → (c ≡ true → ⊥) → e ≡ h
    here h true i never = absurd (never refl)
    here h false i never = grind (arith, nat_tests, i)
once-same t f g (record'.Prepared u home parts sid p reads writes ∷ r) once a b = once-same t f g r once a b
once-same t f g (record'.Ended u o ∷ r) once a b = once-same t f g r once a b
once-same t f g (record'.Ceiling c ∷ r) once a b = once-same t f g r once a b
once-same t f g (record'.Closed u ∷ r) once a b = once-same t f g r once a b

-- two decisions of one transaction have one final identifier
pub decided-same : (d : DocumentData) (past : List Act) → AllDue d past → (t : TxId) (f g : Ident)
    → IsDecided d past t f → IsDecided d past t g → f ≡ g
decided-same d past all t f g v w =
    let at : w.0 ≡ v.0 = home-one (script_of t d.scripts) w.0 v.0 w.1 v.1 in
    let P : NodeId → Type 0 = λ k. has_decided t g (journal d past k) ≡ true in
    once-same t f g (journal d past v.0) (decided-once d past all v.0) v.2 (subst P at w.2)

-- a member of a list of decisions has its transaction in it
pub member-has : (f : Ident) (t : TxId) (xs : List (Ident × TxId)) → has_member f t xs ≡ true → has_tx t xs ≡ true
member-has f t [] e = cc
member-has f t (x ∷ xs) e = grind (arith, e, member-has f t xs)
