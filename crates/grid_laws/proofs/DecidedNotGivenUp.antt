-- No transaction is both decided and given up, whether or not its decision is in doubt.
use Rattle.std.proofs.Common.{◌≡◌, ◌⊎◌, true, false, List, [], ◌∷◌, Option, Some, None, inl, inr, sym, subst, arith}
use Rattle.std.proofs.lemmas.Bool.Decides.{nat_tests}
use Rattle.std.proofs.lemmas.Bool.{cases_eq, both_ways, or_right}
use Rattle.std.specs.Prelude.{◌==◌}
use Rattle.score_base.specs.declared.ids.TxId.{TxId}
use Rattle.score_base.specs.declared.ids.NodeId.{NodeId}
use Rattle.score_base.specs.declared.ids.Ident.{Ident}
use Rattle.score_base.specs.declared.causes.Cause.{Cause}
use Rattle.score_base.specs.declared.causes.Outcome.TheVariants as outcome
use Rattle.score_base.specs.declared.records.Record.{Record}
use Rattle.script_lang.specs.Scripts.{ScriptData}
use Rattle.grid_model.specs.declared.acts.Act.{Act}
use Rattle.grid_model.specs.declared.acts.Act.TheVariants as act
use Rattle.grid_model.specs.declared.messages.Envelope.{Envelope}
use Rattle.grid_model.specs.Documents.{DocumentData}
use Rattle.journal_words.specs.Journals.{decision, ended}
use Rattle.grid_model.specs.Nodes.{Node, change, got, is_home, is_home_in, journal, node, script_of, written}
use Rattle.journal_words.specs.Orders.{decisions}
use Rattle.grid_model.specs.Stories.{is_open, phase}
use Rattle.grid_model.specs.Facts.{IsDecided, is_given_up}
use Rattle.grid_model.proofs.Undecided.{script-number}
use Rattle.grid_laws.proofs.Causes.{AbortedDue, AllDue, IsDue, IsUp, LostDue}
use Rattle.grid_laws.proofs.NodesFitActs.{nodes-fit}
use Rattle.grid_laws.proofs.DecisionsCount.{open-decided-never}
use Rattle.grid_laws.proofs.OpenNotGivenUp.{given-either, open-not-given-up}
use Rattle.grid_laws.proofs.KnownDecisions.{Decides, adds, adds-due, decided-has, has_tx, known, known-changed, known-written, undecided-none}
use Rattle.grid_laws.proofs.EndsMeant.{abort-given-up}

-- ---- an act that gives up

-- t is open, and its home is up
pub record IsRunning (d : DocumentData) (past : List Act) (t : TxId) : Type 0 where
  pub script : ScriptData
  pub is : script_of t d.scripts ≡ Some script
  pub unended : is_open (phase d past script) ≡ true
  pub up : IsUp d past script.home

aborted-running : (d : DocumentData) (past : List Act) (t : TxId) (n : NodeId) (why : Cause) → AbortedDue d past t n why
    → IsRunning d past t
aborted-running d past t n why due = (let P : NodeId → Type 0 = λ k. IsUp d past k in record { script = due.script; is = due.at.script; unended = due.unended; up = subst P (sym due.at.home) due.up })

lost-running : (d : DocumentData) (past : List Act) (t : TxId) → LostDue d past t → IsRunning d past t
lost-running d past t due = record { script = due.script; is = due.is; unended = due.unended; up = due.up }

-- it was given up before, or it ran and is given up by this act
given-by : (d : DocumentData) (past : List Act) (a : Act) (t : TxId) → IsDue d past a → is_given_up t (a ∷ past) ≡ true
    → (is_given_up t past ≡ true) ⊎ IsRunning d past t
given-by d past (act.Aborted u n why) t due e = elim (cases_eq u t) [
  | inl same ↦ (let P : TxId → Type 0 = λ w. IsRunning d past w in inr (subst P same (aborted-running d past u n why due)))
  | inr other ↦ inl (given-either u t (is_given_up t past) e other)
]
given-by d past (act.Lost u) t due e = elim (cases_eq u t) [
  | inl same ↦ (let P : TxId → Type 0 = λ w. IsRunning d past w in inr (subst P same (lost-running d past u due)))
  | inr other ↦ inl (given-either u t (is_given_up t past) e other)
]
given-by d past a t due e = inl e

-- an act that adds a decision gives nothing up
adds-given : (d : DocumentData) (e : Option Envelope) (a : Act) (n : NodeId) (t : TxId) (past : List Act)
    → adds (change d e a n) t ≡ true → is_given_up t (a ∷ past) ≡ true → is_given_up t past ≡ true
adds-given d e (act.Aborted u m why) n t past i g = cc
adds-given d e (act.Lost u) n t past i g = cc
adds-given d e a n t past i g = g

-- ---- the exclusion

pub home-at : (d : DocumentData) (t : TxId) (n : NodeId) (s : ScriptData) → script_of t d.scripts ≡ Some s
    → is_home d t n ≡ true → s.home ≡ n
home-at d t n s is e = at-home (let P : Option ScriptData → Type 0 = λ o. is_home_in o n ≡ true in subst P is e)
  where
    at-home : (s.home == n) ≡ true → s.home ≡ n
    at-home i = grind (arith, nat_tests)

-- of a running transaction its home knows no decision
pub running-unknown : (d : DocumentData) (past : List Act) (n : NodeId) (t : TxId) → AllDue d past → IsRunning d past t
    → is_home d t n ≡ true → has_tx t (known (node d past n)) ≡ false
running-unknown d past n t all r home =
    let at : r.script.home ≡ n = home-at d t n r.script r.is home in
    let P : NodeId → Type 0 = λ k. has_tx t (known (node d past k)) ≡ false in
    let Q : TxId → Type 0 = λ u. decision u (journal d past r.script.home) ≡ None in
    let h : Node = node d past r.script.home in
    let quiet : h.doubt ≡ None = (nodes-fit d past all r.script.home).quiet r.up in
    let none : decision t h.journal ≡ None = subst Q (script-number t d.scripts r.script r.is) (open-decided-never d past all r.script r.unended) in
    let R : Option Record → Type 0 = λ o. has_tx t (decisions (written o h.journal)) ≡ false in
    subst P at (subst R (sym quiet) (undecided-none t h.journal none))

pub known-not-given-up : (d : DocumentData) (past : List Act) → AllDue d past → (n : NodeId) (t : TxId)
    → is_home d t n ≡ true → has_tx t (known (node d past n)) ≡ true → is_given_up t past ≡ true → ⊥
known-not-given-up d [] due n t home knows given = cc
known-not-given-up d (a ∷ past) due n t home knows given = elim (known-changed (change d (got past) a n) (node d past n) t knows) [
  | inl before ↦ elim (given-by d past a t due.0 given) [
    | inl old ↦ known-not-given-up d past due.1 n t home before old
    | inr runs ↦ both_ways (has_tx t (known (node d past n))) (running-unknown d past n t due.1 runs home) before
  ]
  | inr new ↦ (let w : Decides d past n t = adds-due d past a n t due.0 new in let r = w.due.1 in open-not-given-up d past due.1 r.script t r.at.script r.unended (adds-given d (got past) a n t past new given))
]

-- what was given up is not decided
pub given-up-undecided : (d : DocumentData) (past : List Act) → AllDue d past → (t : TxId) (f : Ident)
    → is_given_up t past ≡ true → IsDecided d past t f → ⊥
given-up-undecided d past all t f given w =
    let x : Node = node d past w.0 in
    let here : has_tx t (decisions x.journal) ≡ true = decided-has t f x.journal w.2 in
    known-not-given-up d past all w.0 t w.1 (rw (known-written t x.doubt x.journal) (or_right _ _ here)) given

-- what was decided ends nowhere with abort
pub decided-commits : (d : DocumentData) (past : List Act) → AllDue d past → (n : NodeId) (t : TxId) (f : Ident)
    → IsDecided d past t f → ended t (journal d past n) ≡ Some outcome.Abort → ⊥
decided-commits d past all n t f w e = given-up-undecided d past all t f (abort-given-up d past all n t e) w
