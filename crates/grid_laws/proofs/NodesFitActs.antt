-- Each act that is due leaves the records of every node fitting.
use Rattle.std.proofs.Common.{◌≡◌, ℕ, ◌+◌, ◌%◌, ◌≤◌, ◌<◌, Bool, true, false, List, [], ◌∷◌, Option, Some, None, inl, inr, refl, sym, ap, subst, ◌∙◌, arith}
use Rattle.std.proofs.lemmas.Bool.Decides.{nat_tests}
use Rattle.std.proofs.lemmas.Bool.{cases_eq}
use Rattle.std.specs.Prelude.{max, is_some, ◌==◌, if◌then◌else◌, nat_lt}
use Rattle.score_base.specs.declared.ids.TxId.{TxId}
use Rattle.score_base.specs.declared.ids.NodeId.{NodeId}
use Rattle.score_base.specs.declared.ids.Ident.{Ident}
use Rattle.score_base.specs.declared.keys.Key.{Key}
use Rattle.score_base.specs.declared.records.Record.{Record}
use Rattle.score_base.specs.declared.records.Record.TheVariants as record'
use Rattle.placement.specs.Places.{is_among}
use Rattle.grid_model.specs.declared.acts.Act.{Act}
use Rattle.grid_model.specs.declared.acts.Act.TheVariants as act
use Rattle.grid_model.specs.declared.acts.Head.{Head}
use Rattle.grid_model.specs.declared.acts.Head.TheVariants as head
use Rattle.grid_model.specs.declared.messages.Prepare.{Prepare}
use Rattle.grid_model.specs.Documents.{DocumentData}
use Rattle.journal_words.specs.Journals.{Prepared, Decision, decision, is_closed, are_lists, ended, fits, all_fit, floor, pending, prepared_of, undone}
use Rattle.grid_model.specs.Nodes.{got, node, journal, script_of, parts_in, is_home, Node, Change, Writes, Raises, Holds, Stops, Starts, Stays, change, prepared_by, doubt_of, record_of, freed, is_request, said_by, held_by, is_kept}
use Rattle.grid_model.specs.Facts.{parts_at, records_at, RecordsFit, UpSettled, LocksExclude}
use Rattle.grid_model.specs.Fitness.{is_fit_prepare}
use Rattle.grid_model.specs.Rows.{ceiling_of}
use Rattle.grid_laws.proofs.MessageCauses.{IsUp}
use Rattle.grid_laws.proofs.Causes.{PreparedDue, ClosedDue, RecordDue, StopDue, IsDue, AllDue}
use Rattle.grid_laws.proofs.Stages.{stage-commits}
use Rattle.grid_laws.proofs.DueReads.{ceiling-above}
use Rattle.grid_laws.proofs.DueAnswers.{home-is}
use Rattle.journal_words.proofs.Fits.{fits-prepared}
use Rattle.journal_words.proofs.Floors.{above-higher}
use Rattle.journal_words.proofs.Once.{running-pending}
use Rattle.grid_laws.proofs.NodesFit.{at-node, at-home, FitsDoubt, OverDoubt, IsFitNode, FitChange, fit-changed, AtItsHome, AllHold, HoldsIn, fit-found}
use Rattle.journal_words.proofs.Locks.{locks-apart}

-- ---- what a Decided that stands says

pub record DecidedHere (d : DocumentData) (n : NodeId) (t : TxId) (y : Decision) : Type 0 where
  pub home : is_home d t n ≡ true
  pub parts : y.parts ≡ parts_at d t

pub decision-home : (d : DocumentData) (n : NodeId) (t : TxId) (y : Decision) (r : List Record)
    → AllHold (AtItsHome d n) r → decision t r ≡ Some y → DecidedHere d n t y
decision-home d n t y [] homes e = cc
decision-home d n t y (record'.Decided u f parts ∷ r) homes e = elim (cases_eq u t) [
  | inl same ↦ (let is : Some (record { final = f; parts = parts }) ≡ Some y = grind (arith, nat_tests, e) in here (homes.0.0) (homes.0.1) same is)
  | inr other ↦ decision-home d n t y r homes.1 (grind (arith, nat_tests, e))
]
  where
    here : is_home d u n ≡ true → parts ≡ parts_at d u → u ≡ t → Some (record { final = f; parts = parts }) ≡ Some y
        → DecidedHere d n t y
    here home ps same is =
        let P : TxId → Type 0 = λ v. is_home d v n ≡ true in
        let Q : TxId → Type 0 = λ v. parts ≡ parts_at d v in
        let z : record { final = f; parts = parts } ≡ y = cc in
        record { home = subst P same home; parts = ap (λ (w : Decision). w.parts) (sym z) ∙ subst Q same ps }
decision-home d n t y (record'.Prepared u home parts sid p reads writes ∷ r) homes e = decision-home d n t y r homes.1 e
decision-home d n t y (record'.Ended u o ∷ r) homes e = decision-home d n t y r homes.1 e
decision-home d n t y (record'.Ceiling c ∷ r) homes e = decision-home d n t y r homes.1 e
decision-home d n t y (record'.Closed u ∷ r) homes e = decision-home d n t y r homes.1 e

pub undone-decision : (t : TxId) (y : Decision) (r : List Record) → undone t r ≡ Some y → decision t r ≡ Some y
undone-decision t y r e = go (is_closed t r) e
  where
    go : (b : Bool) → (if b then None else decision t r) ≡ Some y → decision t r ≡ Some y
    go true e = cc
    go false e = e

-- ---- what is due fits

not-prepared : (d : DocumentData) (n : NodeId) (t : TxId) (r : List Record) (o : Option Prepared)
    → all_fit d.cluster n r ≡ true → ended t r ≡ None → pending t r ≡ None → prepared_of t r ≡ o
    → prepared_of t r ≡ None
not-prepared d n t r None fit e p is = is
not-prepared d n t r (Some x) fit e p is = let q = running-pending d.cluster n t x r fit is e in cc

record Fields (d : DocumentData) (n : NodeId) (q : Prepare) : Type 0 where
  part : is_among n q.parts ≡ true
  lists : are_lists d.cluster n q.reads q.writes ≡ true

fit-fields : (d : DocumentData) (n : NodeId) (q : Prepare) → is_fit_prepare d.cluster n q ≡ true → Fields d n q
fit-fields d n q h = record { part = grind (arith, h); lists = grind (arith, h) }

fits-due : (d : DocumentData) (past : List Act) (n : NodeId) (t : TxId) (p : Ident) → IsFitNode d n (node d past n)
    → IsUp d past n → (due : PreparedDue d past n t p) → fits d.cluster n (journal d past n) (record'.Prepared t
    due.from due.asked.prepare.parts due.asked.prepare.sid p due.asked.prepare.reads due.asked.prepare.writes) ≡ true
fits-due d past n t p s up due =
    let q : Prepare = due.asked.prepare in
    let r : List Record = journal d past n in
    let f : Fields d n q = fit-fields d n q due.asked.fit in
    fits-prepared d.cluster n r t q.parts q.sid p q.reads q.writes
    (record {
      new = not-prepared d n t r (prepared_of t r) s.fits due.new due.free refl;
      fresh = rw due.proposal (omega arith);
      above = rw due.proposal (above-higher (1 + (node d past n).next) (1 + max (node d past n).next q.sid) r (omega arith) (s.clock up));
      part = f.part;
      lists = f.lists;
      free = due.holder;
      seen = due.newer;
    })

pub prepared-is : (d : DocumentData) (past : List Act) (n : NodeId) (t : TxId) (p : Ident)
    → (due : PreparedDue d past n t p) → prepared_by (got past) t p ≡ Some (record'.Prepared t due.from
    due.asked.prepare.parts due.asked.prepare.sid p due.asked.prepare.reads due.asked.prepare.writes)
prepared-is d past n t p due = rw due.asked.got refl

over-next : (a b : ℕ) → nat_lt a (1 + max a b) ≡ true
over-next a b = grind (arith, nat_tests)

-- a record that is due at n fits there
abbrev OptionFits : DocumentData → List Act → NodeId → Option Record → Type 0
OptionFits d past n o =
    FitsDoubt d n (journal d past n) o × HoldsIn (AtItsHome d n) o × OverDoubt (node d past n).next o

abbrev DueFits : DocumentData → List Act → NodeId → Head → Type 0
DueFits d past n h = OptionFits d past n (record_of d (got past) h)

ceiling-even : (sid : Ident) → (ceiling_of sid % 64 == 0) ≡ true
ceiling-even sid = let e : ceiling_of sid % 64 ≡ 0 = omega arith in rw e refl

pub due-fits : (d : DocumentData) (past : List Act) (n : NodeId) (h : Head) → IsFitNode d n (node d past n)
    → RecordDue d past n h → DueFits d past n h
due-fits d past n (head.Prepared t p) s due =
    let P : Option Record → Type 0 = λ o. OptionFits d past n o in
    let is = due.1.proposal in
    let over : nat_lt (node d past n).next p ≡ true = rw is (over-next (node d past n).next due.1.asked.prepare.sid) in
    subst P (sym (prepared-is d past n t p due.1)) (fits-due d past n t p s due.0 due.1, tt, over)
due-fits d past n (head.Ended t o) s due = (due.1.fit, tt, refl)
due-fits d past n (head.Ceiling c) s due =
    let above : floor (journal d past n) < c = rw due.1.is (let a = due.1.above in omega (arith, ceiling-above due.1.read.sid)) in
    let even : (c % 64 == 0) ≡ true = rw due.1.is (ceiling-even due.1.read.sid) in
    (rw even (grind (arith, nat_tests)), tt, refl)
due-fits d past n (head.Decided t f) s due =
    let least : 1 ≤ f = due.1.some.1 in
    let new = due.1.new in
    (rw new (grind (arith, nat_tests)), (home-is d t n due.1.script due.1.at.script due.1.at.home, refl), refl)
due-fits d past n (head.Closed t) s due =
    let is : undone t (node d due.1.before n).journal ≡ Some due.1.decision = stage-commits d due.1.before n t due.1.decision due.1.acks due.1.stage in
    let P : List Act → Type 0 = λ p. is_some (undone t (node d p n).journal) ≡ true in
    (subst P (sym due.1.is) (rw is refl), tt, refl)
due-fits d past n head.Compact s due = (tt, tt, tt)

fit-written : (d : DocumentData) (n : NodeId) (x : Node) (o : Option Record) → x.up ≡ true → FitsDoubt d n x.journal o
    → HoldsIn (AtItsHome d n) o → OverDoubt x.next o → FitChange d n x (Writes o)
fit-written d n x None up fit home over = tt
fit-written d n x (Some y) up fit home over = (up, fit, home, over)

fit-stop : (d : DocumentData) (past : List Act) (n : NodeId) (h : Option Head) → IsFitNode d n (node d past n)
    → StopDue d past n h → FitChange d n (node d past n) (Stops (doubt_of d (got past) h))
fit-stop d past n None s due = (due, tt, tt, tt)
fit-stop d past n (Some h) s due = let f = due-fits d past n h s due in (due.0, f.0, f.1, f.2)

-- what is due at each node
abbrev Everywhere : DocumentData → List Act → NodeId → Change → Type 0
Everywhere d past n c = FitChange d n (node d past n) c

fit-record : (d : DocumentData) (past : List Act) (n : NodeId) (h : Head) → IsFitNode d n (node d past n)
    → RecordDue d past n h → Everywhere d past n (Writes (record_of d (got past) h))
fit-record d past n h s due = let f = due-fits d past n h s due in fit-written d n (node d past n) (record_of d (got past) h) due.0 f.0 f.1 f.2

pub closed-home : (d : DocumentData) (past : List Act) (n : NodeId) (t : TxId) → IsFitNode d n (node d past n)
    → ClosedDue d past n t → is_home d t n ≡ true
closed-home d past n t s due =
    let is : undone t (node d due.before n).journal ≡ Some due.decision = stage-commits d due.before n t due.decision due.acks due.stage in
    let P : List Act → Type 0 = λ p. undone t (node d p n).journal ≡ Some due.decision in
    let here : undone t (node d past n).journal ≡ Some due.decision = subst P (sym due.is) is in
    (decision-home d n t due.decision (node d past n).journal s.homes (undone-decision t due.decision (node d past n).journal here)).home

fit-freed : (d : DocumentData) (past : List Act) (n : NodeId) (b : Bool) (t : TxId) (op : ℕ) (k : Key) (sid : Ident)
    → Everywhere d past n (freed b t op k sid)
fit-freed d past n true t op k sid = tt
fit-freed d past n false t op k sid = tt

pub fit-change : (d : DocumentData) (past : List Act) (a : Act) (n : NodeId)
    → ((k : NodeId) → IsFitNode d k (node d past k)) → IsDue d past a
    → FitChange d n (node d past n) (change d (got past) a n)
fit-change d past (act.Prepared m t p) n s due = at-node (Everywhere d past) m n (Writes (prepared_by (got past) t p)) (fit-record d past m (head.Prepared t p) (s m) due) (λ k. tt)
fit-change d past (act.Ended m t o) n s due = at-node (Everywhere d past) m n (Writes (Some (record'.Ended t o))) (fit-record d past m (head.Ended t o) (s m) due) (λ k. tt)
fit-change d past (act.Ceiling m c) n s due = at-node (Everywhere d past) m n (Writes (Some (record'.Ceiling c))) (fit-record d past m (head.Ceiling c) (s m) due) (λ k. tt)
fit-change d past (act.Decided t f) n s due = at-home d t (Everywhere d past) due.0 n (Writes (Some (record'.Decided t f (parts_in d (script_of t d.scripts))))) (home-is d t due.0 due.1.1.script due.1.1.at.script due.1.1.at.home) (fit-record d past due.0 (head.Decided t f) (s due.0) due.1) (λ k. tt)
fit-change d past (act.Closed t) n s due = at-home d t (Everywhere d past) due.0 n (Writes (Some (record'.Closed t))) (closed-home d past due.0 t (s due.0) due.1.1) (fit-record d past due.0 (head.Closed t) (s due.0) due.1) (λ k. tt)
fit-change d past (act.Raised m sid) n s due = at-node (Everywhere d past) m n (Raises sid) tt (λ k. tt)
fit-change d past (act.Held m t op sid) n s due = at-node (Everywhere d past) m n (Holds (held_by (got past) t op sid)) tt (λ k. tt)
fit-change d past (act.Served m t op k sid vn v) n s due = at-node (Everywhere d past) m n (freed (is_request (said_by (got past))) t op k sid) (fit-freed d past m (is_request (said_by (got past))) t op k sid) (λ j. tt)
fit-change d past (act.Down m h) n s due = at-node (Everywhere d past) m n (Stops (doubt_of d (got past) h)) (fit-stop d past m h (s m) due) (λ k. tt)
fit-change d past (act.Up m f) n s due = at-node (Everywhere d past) m n (Starts (is_kept f)) tt (λ k. tt)
fit-change d past (act.StillDown m) n s due = at-node (Everywhere d past) m n Stays tt (λ k. tt)
fit-change d past a n s due = tt

-- each node of a past whose acts were due
pub nodes-fit : (d : DocumentData) (past : List Act) → AllDue d past → (n : NodeId) → IsFitNode d n (node d past n)
nodes-fit d [] due n = record { fits = refl; doubt = tt; quiet = λ e. refl; clock = λ e. refl; homes = tt; home_doubt = tt }
nodes-fit d (a ∷ past) due n = fit-changed d n (node d past n) (change d (got past) a n) (nodes-fit d past due.1 n) (fit-change d past a n (λ k. nodes-fit d past due.1 k) due.0)

-- ---- the records that stand, and the one in doubt behind them

pub records-fit : (d : DocumentData) (past : List Act) → AllDue d past → RecordsFit d past
records-fit d past due kept n =
    let x : IsFitNode d n (node d past n) = nodes-fit d past due n in
    fit-found d n kept (node d past n).doubt (journal d past n) x.fits x.doubt

pub up-settled : (d : DocumentData) (past : List Act) → AllDue d past → UpSettled d past
up-settled d past due n up = (nodes-fit d past due n).quiet up

pub locks-exclude : (d : DocumentData) (past : List Act) → AllDue d past → LocksExclude d past
locks-exclude d past due kept n t u other lt lu = locks-apart d.cluster n t u (records_at d past kept n) (records-fit d past due kept n) other lt lu
