-- The decisions that a node knows: those that stand, and the one in doubt.
use Rattle.std.proofs.lemmas.Bool.{or_cases, eqb-true}
use Rattle.std.proofs.Common.{◌≡◌, ◌⊎◌, ℕ, Bool, true, false, List, [], ◌∷◌, Option, Some, None, inl, inr, refl, sym, subst, ◌∙◌, arith}
use Rattle.std.proofs.lemmas.Bool.Decides.{nat_tests}
use Rattle.std.specs.Prelude.{◌==◌, ◌||◌}
use Rattle.score_base.specs.declared.ids.TxId.{TxId}
use Rattle.score_base.specs.declared.ids.NodeId.{NodeId}
use Rattle.score_base.specs.declared.ids.Ident.{Ident}
use Rattle.score_base.specs.declared.keys.Key.{Key}
use Rattle.score_base.specs.declared.records.Record.{Record}
use Rattle.score_base.specs.declared.records.Record.TheVariants as record'
use Rattle.grid_model.specs.declared.acts.Act.{Act}
use Rattle.grid_model.specs.declared.acts.Act.TheVariants as act
use Rattle.grid_model.specs.declared.acts.Head.{Head}
use Rattle.grid_model.specs.declared.acts.Head.TheVariants as head
use Rattle.grid_model.specs.declared.messages.Envelope.{Envelope}
use Rattle.grid_model.specs.Documents.{DocumentData}
use Rattle.journal_words.specs.Journals.{decision, has_decided}
use Rattle.grid_model.specs.Nodes.{Node, Change, Nothing, Writes, Raises, Holds, Frees, Stops, Starts, Stays, change, changed, doubt_of, freed, got, is_home, is_request, parts_in, prepared_by, said_by, script_of, where_at, written}
use Rattle.journal_words.specs.Orders.{decisions}
use Rattle.grid_laws.proofs.Causes.{IsDue, RecordDue, StopDue}
use Rattle.grid_laws.proofs.DueAnswers.{home-is}
use Rattle.grid_laws.proofs.NodesFit.{home-one}

-- ---- the transactions in a list of decisions

abbrev pub has_tx : TxId → List (Ident × TxId) → Bool
has_tx t [] = false
has_tx t (x ∷ xs) = (x.1 == t) || has_tx t xs

pub undecided-none : (t : TxId) (r : List Record) → decision t r ≡ None → has_tx t (decisions r) ≡ false
undecided-none t [] e = refl
undecided-none t (record'.Decided u f parts ∷ r) e = grind (arith, e, undecided-none t r)
undecided-none t (y ∷ r) e = undecided-none t r e

pub decided-has : (t : TxId) (f : Ident) (r : List Record) → has_decided t f r ≡ true → has_tx t (decisions r) ≡ true
decided-has t f [] e = cc
decided-has t f (record'.Decided u g parts ∷ r) e = grind (arith, e, decided-has t f r)
decided-has t f (y ∷ r) e = decided-has t f r e

-- ---- what a node knows

-- the record is a Decided of t
abbrev pub is_decided_in : TxId → Option Record → Bool
is_decided_in t (Some (record'.Decided u f parts)) = u == t
is_decided_in t o = false

-- the decisions that stand, and the one in doubt
abbrev pub known : Node → List (Ident × TxId)
known x = decisions (written x.doubt x.journal)

-- a change adds a decision of t
abbrev pub adds : Change → TxId → Bool
adds (Writes o) t = is_decided_in t o
adds (Stops o) t = is_decided_in t o
adds c t = false

pub known-written : (t : TxId) (o : Option Record) (r : List Record)
    → has_tx t (decisions (written o r)) ≡ (is_decided_in t o || has_tx t (decisions r))
known-written t None r = refl
known-written t (Some (record'.Decided u f parts)) r = refl
known-written t (Some y) r = refl

known-writes : (t : TxId) (o p : Option Record) (r : List Record)
    → has_tx t (decisions (written p (written o r))) ≡ true
    → (has_tx t (decisions (written p r)) ≡ true) ⊎ (is_decided_in t o ≡ true)
known-writes t o p r e = go (is_decided_in t p) (is_decided_in t o) (has_tx t (decisions r)) refl (sym (known-written t p r)) (rw (known-written t p (written o r), known-written t o r) at e)
  where
    go : (a b c : Bool) → is_decided_in t o ≡ b → (a || c) ≡ has_tx t (decisions (written p r)) → (a || (b || c)) ≡ true
        → (has_tx t (decisions (written p r)) ≡ true) ⊎ (is_decided_in t o ≡ true)
    go true b c ob is e = inl (sym is)
    go false true c ob is e = inr ob
    go false false c ob is e = inl (sym is ∙ e)

-- what a node knows it knew before, or the change adds it
pub known-changed : (c : Change) (x : Node) (t : TxId) → has_tx t (known (changed c x)) ≡ true
    → (has_tx t (known x) ≡ true) ⊎ (adds c t ≡ true)
known-changed (Writes o) x t e = known-writes t o x.doubt x.journal e
known-changed (Stops o) x t e = elim (or_cases (is_decided_in t o) (has_tx t (decisions x.journal)) (rw (known-written t o x.journal) at e)) [
  | inl new ↦ inr new
  | inr old ↦ inl (rw (known-written t x.doubt x.journal) (grind (arith, old)))
]
known-changed (Starts true) x t e = inl e
known-changed (Starts false) x t e = inl (rw (known-written t x.doubt x.journal) (grind (arith, e)))
known-changed Nothing x t e = inl e
known-changed (Raises sid) x t e = inl e
known-changed (Holds o) x t e = inl e
known-changed (Frees u op k sid) x t e = inl e
known-changed Stays x t e = inl e

-- ---- an act that adds a decision

-- a record of t's decision is due at n
pub record Decides (d : DocumentData) (past : List Act) (n : NodeId) (t : TxId) : Type 0 where
  pub final : Ident
  pub due : RecordDue d past n (head.Decided t final)

adds-where : (b : Bool) (c : Change) (t : TxId) → adds (where_at b c) t ≡ true → (b ≡ true) × (adds c t ≡ true)
adds-where true c t e = (refl, e)
adds-where false c t e = cc

decides-as : (d : DocumentData) (past : List Act) (m n : NodeId) (u t : TxId) (f : Ident)
    → RecordDue d past m (head.Decided u f) → m ≡ n → (u == t) ≡ true → Decides d past n t
decides-as d past m n u t f due at e =
    let same : u ≡ t = grind (arith, nat_tests, e) in
    let P : TxId → Type 0 = λ w. RecordDue d past n (head.Decided w f) in
    let Q : NodeId → Type 0 = λ k. RecordDue d past k (head.Decided u f) in
    record { final = f; due = subst P same (subst Q at due) }

prepared-no : (t : TxId) (e : Option Envelope) (u : TxId) (p : Ident) → is_decided_in t (prepared_by e u p) ≡ true → ⊥
prepared-no t e u p is = grind (arith, is)

freed-no : (t : TxId) (c : Bool) (u : TxId) (op : ℕ) (k : Key) (sid : Ident) → adds (freed c u op k sid) t ≡ true → ⊥
freed-no t true u op k sid e = cc
freed-no t false u op k sid e = cc

stop-decides : (d : DocumentData) (past : List Act) (m n : NodeId) (h : Option Head) (t : TxId) → StopDue d past m h
    → m ≡ n → is_decided_in t (doubt_of d (got past) h) ≡ true → Decides d past n t
stop-decides d past m n (Some (head.Decided u f)) t due at e = decides-as d past m n u t f due at e
stop-decides d past m n (Some (head.Prepared u p)) t due at e = absurd (prepared-no t (got past) u p e)
stop-decides d past m n (Some (head.Ended u o)) t due at e = cc
stop-decides d past m n (Some (head.Ceiling c)) t due at e = cc
stop-decides d past m n (Some (head.Closed u)) t due at e = cc
stop-decides d past m n (Some head.Compact) t due at e = cc
stop-decides d past m n None t due at e = cc

-- what an act adds at n is due there
pub adds-due : (d : DocumentData) (past : List Act) (a : Act) (n : NodeId) (t : TxId) → IsDue d past a
    → adds (change d (got past) a n) t ≡ true → Decides d past n t
adds-due d past (act.Decided u f) n t due e =
    let w = adds-where (is_home d u n) (Writes (Some (record'.Decided u f (parts_in d (script_of u d.scripts))))) t e in
    let r = due.1.1 in
    decides-as d past due.0 n u t f due.1 (home-one (script_of u d.scripts) due.0 n (home-is d u due.0 r.script r.at.script r.at.home) w.0) w.1
adds-due d past (act.Down m h) n t due e = (let w = adds-where (m == n) (Stops (doubt_of d (got past) h)) t e in stop-decides d past m n h t due (eqb-true m n w.0) w.1)
adds-due d past (act.Prepared m u p) n t due e = absurd (prepared-no t (got past) u p (adds-where (m == n) (Writes (prepared_by (got past) u p)) t e).1)
adds-due d past (act.Served m u op k sid vn v) n t due e = absurd (freed-no t (is_request (said_by (got past))) u op k sid (adds-where (m == n) (freed (is_request (said_by (got past))) u op k sid) t e).1)
adds-due d past a n t due e = grind (arith, e)
