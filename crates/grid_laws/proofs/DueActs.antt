-- The acts of an event are due where its outs are, whether or not the disk keeps their record.
use Rattle.std.proofs.Common.{◌≡◌, ℕ, ◌+◌, Bool, true, false, List, [], ◌∷◌, sym, subst}
use Rattle.score_base.specs.declared.ids.NodeId.{NodeId}
use Rattle.grid_model.specs.declared.acts.Act.{Act}
use Rattle.grid_model.specs.declared.acts.Act.TheVariants as act
use Rattle.grid_model.specs.declared.acts.Head.TheVariants as head
use Rattle.grid_model.specs.declared.events.Out.{Out}
use Rattle.grid_model.specs.declared.events.Out.TheVariants as out
use Rattle.grid_model.specs.Documents.{DocumentData}
use Rattle.grid_model.specs.Histories.{after}
use Rattle.grid_model.specs.Schedules.{numbered, kept, broken}
use Rattle.grid_laws.proofs.Causes.{SendDue, RecordDue, IsDue, AreDue, AllDue}

-- what stands behind an act that n gives
abbrev pub OwnDue : DocumentData → List Act → NodeId → Act → Type 0
OwnDue d past n (act.Prepared k t p) = (k ≡ n) × RecordDue d past n (head.Prepared t p)
OwnDue d past n (act.Ended k t o) = (k ≡ n) × RecordDue d past n (head.Ended t o)
OwnDue d past n (act.Ceiling k c) = (k ≡ n) × RecordDue d past n (head.Ceiling c)
OwnDue d past n (act.Decided t f) = RecordDue d past n (head.Decided t f)
OwnDue d past n (act.Closed t) = RecordDue d past n (head.Closed t)
OwnDue d past n (act.Compacted k) = (k ≡ n) × RecordDue d past n head.Compact
OwnDue d past n a = IsDue d past a

-- these outs of n, the next message of which has number m, are due one behind the other
abbrev pub OutsDue : DocumentData → List Act → NodeId → ℕ → List Out → Type 0
OutsDue d past n m [] = Unit {0}
OutsDue d past n m (out.Act a ∷ os) = OwnDue d past n a × OutsDue d (a ∷ past) n m os
OutsDue d past n m (out.Send to said ∷ os) =
    SendDue d past n to said × OutsDue d (act.Sent m n to said ∷ past) n (m + 1) os

own-due : (d : DocumentData) (past : List Act) (n : NodeId) (a : Act) → OwnDue d past n a → IsDue d past a
own-due d past n (act.Prepared k t p) due = let P : NodeId → Type 0 = λ j. RecordDue d past j (head.Prepared t p) in subst P (sym due.0) due.1
own-due d past n (act.Ended k t o) due = let P : NodeId → Type 0 = λ j. RecordDue d past j (head.Ended t o) in subst P (sym due.0) due.1
own-due d past n (act.Ceiling k c) due = let P : NodeId → Type 0 = λ j. RecordDue d past j (head.Ceiling c) in subst P (sym due.0) due.1
own-due d past n (act.Decided t f) due = (n, due)
own-due d past n (act.Closed t) due = (n, due)
own-due d past n (act.Compacted k) due =
    let P : NodeId → Type 0 = λ j. RecordDue d past j head.Compact in subst P (sym due.0) due.1
own-due d past n a due = due

kept-due : (d : DocumentData) (past : List Act) (n : NodeId) (m : ℕ) (os : List Out) → OutsDue d past n m os
    → AreDue d past (numbered m n os)
kept-due d past n m [] due = tt
kept-due d past n m (out.Act a ∷ os) due = (own-due d past n a due.0, kept-due d (a ∷ past) n m os due.1)
kept-due d past n m (out.Send to said ∷ os) due = (due.0, kept-due d (act.Sent m n to said ∷ past) n (m + 1) os due.1)

broken-due : (d : DocumentData) (past : List Act) (n : NodeId) (m : ℕ) (os : List Out) → OutsDue d past n m os
    → AreDue d past (numbered m n (broken n os))
broken-due d past n m [] due = tt
broken-due d past n m (out.Act (act.Prepared k t p) ∷ os) due = (due.0.1, tt)
broken-due d past n m (out.Act (act.Ended k t o) ∷ os) due = (due.0.1, tt)
broken-due d past n m (out.Act (act.Ceiling k c) ∷ os) due = (due.0.1, tt)
broken-due d past n m (out.Act (act.Decided t f) ∷ os) due = (due.0, tt)
broken-due d past n m (out.Act (act.Closed t) ∷ os) due = (due.0, tt)
broken-due d past n m (out.Act (act.Compacted k) ∷ os) due = (due.0.1, tt)
broken-due d past n m (out.Act a ∷ os) due = (due.0, broken-due d (a ∷ past) n m os due.1)
broken-due d past n m (out.Send to said ∷ os) due = (due.0, broken-due d (act.Sent m n to said ∷ past) n (m + 1) os due.1)

-- the acts of these outs, whatever the disk does
pub acts-due : (d : DocumentData) (past : List Act) (n : NodeId) (m : ℕ) (b : Bool) (os : List Out)
    → OutsDue d past n m os → AreDue d past (numbered m n (kept b n os))
acts-due d past n m true os due = kept-due d past n m os due
acts-due d past n m false os due = broken-due d past n m os due

-- ---- lists of acts

-- acts that are due behind a past each act of which was due
pub all-after : (d : DocumentData) (past acts : List Act) → AllDue d past → AreDue d past acts
    → AllDue d (after past acts)
all-after d past [] all due = all
all-after d past (a ∷ acts) all due = all-after d (a ∷ past) acts (due.0, all) due.1

-- what was due before
pub due-before : (d : DocumentData) (past acts : List Act) → AllDue d (after past acts) → AllDue d past
due-before d past [] due = due
due-before d past (a ∷ acts) due = (due-before d (a ∷ past) acts due).1
