-- What a node promised of a read stays in its floor, its clock and its proposals.
use Rattle.std.proofs.Common.{◌≡◌, ℕ, ◌+◌, ◌≤◌, ◌<◌, inl, inr, Bool, true, false, List, [], ◌∷◌, ◌++◌, Option, Some, None, refl, sym, ap, subst, ◌∙◌, arith}
use Rattle.std.proofs.lemmas.Bool.Decides.{nat_tests}
use Rattle.std.specs.Prelude.{max, ◌==◌, if◌then◌else◌, nat_lt}
use Rattle.score_base.specs.declared.ids.TxId.{TxId}
use Rattle.score_base.specs.declared.ids.NodeId.{NodeId}
use Rattle.score_base.specs.declared.ids.Ident.{Ident}
use Rattle.score_base.specs.declared.ids.Value.{Value}
use Rattle.score_base.specs.declared.causes.Outcome.TheVariants as outcome
use Rattle.score_base.specs.declared.records.Record.{Record}
use Rattle.score_base.specs.declared.records.Record.TheVariants as record'
use Rattle.grid_model.specs.declared.acts.Act.{Act}
use Rattle.grid_model.specs.declared.acts.Act.TheVariants as act
use Rattle.grid_model.specs.declared.acts.Head.TheVariants as head
use Rattle.grid_model.specs.declared.messages.Envelope.{Envelope}
use Rattle.grid_model.specs.declared.messages.Message.{Message}
use Rattle.grid_model.specs.declared.messages.Message.TheVariants as message
use Rattle.grid_model.specs.declared.stories.HeldRead.{HeldRead}
use Rattle.grid_model.specs.Documents.{DocumentData}
use Rattle.journal_words.specs.Journals.{all_fit, commit_id, floor, is_clear}
use Rattle.grid_model.specs.Nodes.{got, held_by, held_from, with_held, node, journal, Node, Change, Nothing, Writes, Raises, Holds, Frees, Stops, Starts, Stays, change, changed, learnt, found}
use Rattle.grid_model.specs.Facts.{are_above, IsPromised, ServedPromised, HeldIsAbove, NeverHeldBelow}
use Rattle.grid_laws.proofs.Causes.{AllDue, IsDue, IsIn, held_ever, ServeDue, MayServe, at_once, held, Covered, RecordDue}
use Rattle.grid_laws.proofs.Frames.{in-append}
use Rattle.journal_words.proofs.Floors.{floor-grows}
use Rattle.journal_words.proofs.Pendings.{is_over, clear-more, clear-below}
use Rattle.journal_words.proofs.Applied.{commit_id-clear}
use Rattle.grid_laws.proofs.NodesFit.{FitChange, OverDoubt}
use Rattle.grid_laws.proofs.NodesFitActs.{nodes-fit, fit-change}

-- ---- the floor and the clock

-- the floor covers sid, and so does the clock of a node that is up
pub record IsCovered (x : Node) (sid : Ident) : Type 0 where
  pub floor : sid ≤ floor x.journal
  pub next : x.up ≡ true → sid ≤ x.next

next-learnt : (y : Record) (next : Ident) → next ≤ learnt (Some y) next
next-learnt (record'.Prepared t home parts sid p reads writes) next = omega arith
next-learnt (record'.Ended t (outcome.Commit f)) next = omega arith
next-learnt (record'.Ended t outcome.Abort) next = omega arith
next-learnt (record'.Ceiling c) next = omega arith
next-learnt (record'.Decided t f parts) next = omega arith
next-learnt (record'.Closed t) next = omega arith

floor-found : (b : Bool) (o : Option Record) (r : List Record) → floor r ≤ floor (found b o r)
floor-found true (Some y) r = floor-grows y r
floor-found true None r = omega arith
floor-found false o r = omega arith

covered-changed : (x : Node) (c : Change) (sid : Ident) → IsCovered x sid → IsCovered (changed c x) sid
covered-changed x Nothing sid h = h
covered-changed x (Writes None) sid h = h
covered-changed x (Writes (Some y)) sid h = record { floor = omega (arith, floor-grows y x.journal, h.floor); next = λ e. omega (arith, next-learnt y x.next, h.next e) }
covered-changed x (Raises s) sid h = record { floor = h.floor; next = λ e. omega (arith, h.next e) }
covered-changed x (Holds o) sid h = record { floor = h.floor; next = h.next }
covered-changed x (Frees t op k s) sid h = record { floor = h.floor; next = h.next }
covered-changed x (Stops o) sid h = record { floor = h.floor; next = λ e. cc }
covered-changed x (Starts b) sid h = record { floor = omega (arith, floor-found b x.doubt x.journal, h.floor); next = λ e. omega (arith, floor-found b x.doubt x.journal, h.floor) }
covered-changed x Stays sid h = record { floor = h.floor; next = λ e. cc }

-- ---- the proposals

-- no proposal at most sid is pending, nor in doubt
pub record IsFree (x : Node) (sid : Ident) : Type 0 where
  pub clear : is_clear sid x.journal ≡ true
  pub doubt : OverDoubt sid x.doubt

over-lower : (s c : Ident) (y : Record) → s ≤ c → is_over c y ≡ true → is_over s y ≡ true
over-lower s c (record'.Prepared t home parts sid p reads writes) le h = grind (arith, nat_tests, le, h)
over-lower s c y le h = refl

doubt-lower : (s c : Ident) (o : Option Record) → s ≤ c → OverDoubt c o → OverDoubt s o
doubt-lower s c None le h = tt
doubt-lower s c (Some y) le h = over-lower s c y le h

clear-found : (s : Ident) (b : Bool) (o : Option Record) (r : List Record) → is_clear s r ≡ true → OverDoubt s o
    → is_clear s (found b o r) ≡ true
clear-found s true (Some y) r h k = clear-more s y r k h
clear-found s true None r h k = h
clear-found s false o r h k = h

free-changed : (d : DocumentData) (n : NodeId) (x : Node) (c : Change) (sid : Ident) → IsCovered x sid
    → FitChange d n x c → IsFree x sid → IsFree (changed c x) sid
free-changed d n x Nothing sid cover due h = h
free-changed d n x (Writes None) sid cover due h = h
free-changed d n x (Writes (Some y)) sid cover due h = record { clear = clear-more sid y x.journal (over-lower sid x.next y (cover.next due.0) due.3) h.clear; doubt = h.doubt }
free-changed d n x (Raises s) sid cover due h = record { clear = h.clear; doubt = h.doubt }
free-changed d n x (Holds o) sid cover due h = record { clear = h.clear; doubt = h.doubt }
free-changed d n x (Frees t op k s) sid cover due h = record { clear = h.clear; doubt = h.doubt }
free-changed d n x (Stops o) sid cover due h = record { clear = h.clear; doubt = doubt-lower sid x.next o (cover.next due.0) due.3 }
free-changed d n x (Starts b) sid cover due h = record { clear = clear-found sid b x.doubt x.journal h.clear h.doubt; doubt = tt }
free-changed d n x Stays sid cover due h = record { clear = h.clear; doubt = h.doubt }

-- ---- the reads that were held

held-sid : (e : Option Envelope) (t : TxId) (op : ℕ) (sid : Ident) (y : HeldRead) → held_by e t op sid ≡ Some y
    → y.sid ≡ sid
held-sid None t op sid y is = cc
held-sid (Some e) t op sid y is = from e.from e.message is
  where
    from : (x : NodeId) (said : Message) → held_from x said t op sid ≡ Some y → y.sid ≡ sid
    from x (message.ReadReq q) is = let z : record { t = t; op = op; sid = sid; key = q.key; from = x } ≡ y = cc in ap (λ (h : HeldRead). h.sid) (sym z)
    from x said is = cc

ever-new : (h : HeldRead) (o : Option HeldRead) (ever : List HeldRead) (sid : Ident) (x : Node)
    → ((y : HeldRead) → o ≡ Some y → y.sid ≡ sid) → IsCovered x sid → (IsIn h ever → IsCovered x h.sid)
    → IsIn h (with_held o ever) → IsCovered x h.sid
ever-new h None ever sid x is cover go i = go i
ever-new h (Some y) ever sid x is cover go i = elim (in-append h y ever i) [
  | inl j ↦ go j
  | inr e ↦ (let P : Ident → Type 0 = λ s. IsCovered x s in subst P (sym (is y refl) ∙ ap (λ (z : HeldRead). z.sid) e) cover)
]

ever-at : (d : DocumentData) (past : List Act) (m n : NodeId) (h : HeldRead) (o : Option HeldRead) (sid : Ident)
    (b : Bool) → (m == n) ≡ b → ((y : HeldRead) → o ≡ Some y → y.sid ≡ sid) → Covered d past m sid
    → (IsIn h (held_ever d past n) → IsCovered (node d past n) h.sid)
    → IsIn h (if b then with_held o (held_ever d past n) else held_ever d past n) → IsCovered (node d past n) h.sid
ever-at d past m n h o sid false here is cover go i = go i
ever-at d past m n h o sid true here is cover go i =
    let same : m ≡ n = grind (arith, nat_tests) in
    let P : NodeId → Type 0 = λ k. IsCovered (node d past k) sid in
    ever-new h o (held_ever d past n) sid (node d past n) is (subst P same (record { floor = cover.floor; next = λ e. cover.next })) go i

ever-before : (d : DocumentData) (past : List Act) (a : Act) (n : NodeId) (h : HeldRead) → IsDue d past a
    → (IsIn h (held_ever d past n) → IsCovered (node d past n) h.sid) → IsIn h (held_ever d (a ∷ past) n)
    → IsCovered (node d past n) h.sid
ever-before d past (act.Held m t op sid) n h due go i = ever-at d past m n h (held_by (got past) t op sid) sid (m == n) refl (λ y e. held-sid (got past) t op sid y e) due.2.covered go i
ever-before d past a n h due go i = go i

-- the promise of each read that was held
pub ever-covered : (d : DocumentData) (past : List Act) → AllDue d past → (n : NodeId) (h : HeldRead)
    → IsIn h (held_ever d past n) → IsCovered (node d past n) h.sid
ever-covered d [] due n h i = absurd i
ever-covered d (a ∷ past) due n h i = covered-changed (node d past n) (change d (got past) a n) h.sid (ever-before d past a n h due.0 (λ j. ever-covered d past due.1 n h j) i)

-- ---- a read that was served

pub record IsSafeRead (d : DocumentData) (past : List Act) (n : NodeId) (sid : Ident) : Type 0 where
  pub covered : IsCovered (node d past n) sid
  pub free : IsFree (node d past n) sid

kept-more : (d : DocumentData) (past : List Act) (a : Act) (n : NodeId) (sid : Ident) → AllDue d (a ∷ past)
    → IsSafeRead d past n sid → IsSafeRead d (a ∷ past) n sid
kept-more d past a n sid due k =
    record {
      covered = covered-changed (node d past n) (change d (got past) a n) sid k.covered;
      free = free-changed d n (node d past n) (change d (got past) a n) sid k.covered (fit-change d past a n (λ j. nodes-fit d past due.1 j) due.0) k.free;
    }

may-covered : (d : DocumentData) (past : List Act) (n : NodeId) (h : HeldRead) → AllDue d past → MayServe d past n h
    → IsCovered (node d past n) h.sid
may-covered d past n h due (at_once asked cover) = record { floor = cover.floor; next = λ e. cover.next }
may-covered d past n h due (held i) = ever-covered d past due n h i

kept-now : (d : DocumentData) (past : List Act) (n : NodeId) (h : HeldRead) (vn : Ident) (v : Value) → AllDue d past
    → ServeDue d past n h vn v → IsSafeRead d past n h.sid
kept-now d past n h vn v all due =
    let P : Option Record → Type 0 = λ o. OverDoubt h.sid o in
    record {
      covered = may-covered d past n h all due.may;
      free = record { clear = due.clear; doubt = subst P (sym ((nodes-fit d past all n).quiet due.up)) tt };
    }

above-at : (d : DocumentData) (past : List Act) (m n : NodeId) (t : TxId) (p sid : Ident) (b : Bool) → (m == n) ≡ b
    → RecordDue d past m (head.Prepared t p) → IsSafeRead d past n sid → (if b then nat_lt sid p else true) ≡ true
above-at d past m n t p sid false here due k = refl
above-at d past m n t p sid true here due k =
    let same : m ≡ n = grind (arith, nat_tests) in
    let P : NodeId → Type 0 = λ j. IsCovered (node d past j) sid in
    let cover : IsCovered (node d past m) sid = subst P (sym same) k.covered in
    let low : sid ≤ (node d past m).next = cover.next due.0 in
    let is = due.1.proposal in
    rw is (over-max sid (node d past m).next due.1.asked.prepare.sid low)
  where
    over-max : (s a b : ℕ) → s ≤ a → nat_lt s (1 + max a b) ≡ true
    over-max s a b le = grind (arith, nat_tests, le)

above-more : (d : DocumentData) (past : List Act) (a : Act) (n : NodeId) (sid : Ident) (later : List Act)
    → IsDue d past a → IsSafeRead d past n sid → are_above n sid later ≡ true → are_above n sid (a ∷ later) ≡ true
above-more d past (act.Prepared m t p) n sid later due k h = rw (above-at d past m n t p sid (m == n) refl due k) h
above-more d past (act.Down m (Some (head.Prepared t p))) n sid later due k h = rw (above-at d past m n t p sid (m == n) refl due k) h
above-more d past a n sid later due k h = h

record KeptLater (d : DocumentData) (past : List Act) (n : NodeId) (sid : Ident) (later : List Act) : Type 0 where
  kept : IsSafeRead d (later ++ past) n sid
  above : are_above n sid later ≡ true

kept-later : (d : DocumentData) (past : List Act) (n : NodeId) (sid : Ident) (later : List Act)
    → AllDue d (later ++ past) → IsSafeRead d past n sid → KeptLater d past n sid later
kept-later d past n sid [] due k = record { kept = k; above = refl }
kept-later d past n sid (a ∷ later) due k =
    let h : KeptLater d past n sid later = kept-later d past n sid later due.1 k in
    record {
      kept = kept-more d (later ++ past) a n sid due h.kept;
      above = above-more d (later ++ past) a n sid later due.0 h.kept h.above;
    }

pub due-behind : (d : DocumentData) (later past : List Act) → AllDue d (later ++ past) → AllDue d past
due-behind d [] past due = due
due-behind d (a ∷ later) past due = due-behind d later past due.1

-- each read that was served is promised
pub served-promised : (d : DocumentData) (past : List Act) → AllDue d past → ServedPromised d past
served-promised d past due n t j k sid vn v later before is =
    let P : List Act → Type 0 = λ p. AllDue d p in
    let Q : List Act → Type 0 = λ p. IsPromised d p n sid later in
    let a : Act = act.Served n t j k sid vn v in
    let all : AllDue d (later ++ a ∷ before) = subst P is due in
    let here : AllDue d (a ∷ before) = due-behind d later (a ∷ before) all in
    let now : IsSafeRead d (a ∷ before) n sid = kept-more d before a n sid here (kept-now d before n (record { t = t; op = j; sid = sid; key = k; from = here.0.0 }) vn v here.1 here.0.1) in
    let end : KeptLater d (a ∷ before) n sid later = kept-later d (a ∷ before) n sid later all now in
    let x : Node = node d (later ++ a ∷ before) n in
    subst Q (sym is) (record {
      floor = λ kept. omega (arith, end.kept.covered.floor, floor-found kept x.doubt x.journal);
      clear = λ kept. clear-found sid kept x.doubt x.journal end.kept.free.clear end.kept.free.doubt;
      behind = end.above;
    })

-- ---- a read that is held

held-above : (d : DocumentData) (n : NodeId) (r : List Record) (sid : Ident) (b : Bool) → all_fit d.cluster n r ≡ true
    → is_clear sid r ≡ false → nat_lt (commit_id r) sid ≡ b → commit_id r < sid
held-above d n r sid true fit waits e = grind (arith, nat_tests)
held-above d n r sid false fit waits e =
    let le : sid ≤ commit_id r = grind (arith, nat_tests) in
    let clear : is_clear sid r ≡ true = clear-below (commit_id r) sid r le (commit_id-clear d.cluster n r fit) in
    cc

held-now : (d : DocumentData) (past : List Act) (a : Act) → AllDue d past → IsDue d past a → HeldIsAbove d a past
held-now d past (act.Held n t j sid) all due = held-above d n (journal d past n) sid (nat_lt (commit_id (journal d past n)) sid) (nodes-fit d past all n).fits due.2.waits refl
held-now d past a all due = tt

-- a read at or below the commit identifier is never held
pub never-held : (d : DocumentData) (past : List Act) → AllDue d past → NeverHeldBelow d past
never-held d [] due = tt
never-held d (a ∷ past) due = (held-now d past a due.1 due.0, never-held d past due.1)
