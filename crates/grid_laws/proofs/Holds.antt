-- Claims on messages and on records: what holds where they come, and stays true, holds of all.
use Rattle.std.proofs.Common.{◌≡◌, ℕ, ◌-◌, ◌⊎◌, inl, inr, Bool, true, false, List, [], ◌∷◌, ◌++◌, Option, Some, None, subst, arith, zero, suc}
use Rattle.std.specs.Prelude.{◌==◌, if◌then◌else◌, slice_get}
use Rattle.score_base.specs.declared.ids.TxId.{TxId}
use Rattle.score_base.specs.declared.ids.NodeId.{NodeId}
use Rattle.score_base.specs.declared.ids.Ident.{Ident}
use Rattle.score_base.specs.declared.keys.Key.{Key}
use Rattle.std.proofs.lemmas.Bool.{cases_eq}
use Rattle.std.proofs.lemmas.Bool.Decides.{nat_tests}
use Rattle.score_base.specs.declared.causes.Outcome.{Outcome}
use Rattle.journal_words.specs.Journals.{ended}
use Rattle.score_base.specs.declared.records.Record.{Record}
use Rattle.score_base.specs.declared.records.Record.TheVariants as record'
use Rattle.grid_model.specs.declared.acts.Act.{Act}
use Rattle.grid_model.specs.declared.acts.Act.TheVariants as act
use Rattle.grid_model.specs.declared.acts.Head.{Head}
use Rattle.grid_model.specs.declared.acts.Head.TheVariants as head
use Rattle.grid_model.specs.declared.messages.Envelope.{Envelope}
use Rattle.grid_model.specs.declared.messages.Message.{Message}
use Rattle.grid_model.specs.Documents.{DocumentData}
use Rattle.grid_model.specs.Histories.{sent, sent_at}
use Rattle.grid_model.specs.Nodes.{got, node, script_of, parts_in, Node, Change, Nothing, Writes, Raises, Holds, Frees, Stops, Starts, Stays, change, changed, prepared_by, doubt_of, record_of, freed, is_request, said_by, held_by, is_kept}
use Rattle.grid_laws.proofs.Causes.{SendDue, RecordDue, StopDue, IsDue, AllDue}
use Rattle.grid_laws.proofs.DueAnswers.{home-is}
use Rattle.grid_laws.proofs.NodesFit.{at-node, at-home, AllHold, HoldsIn, hold-found}
use Rattle.grid_laws.proofs.NodesFitActs.{nodes-fit, closed-home}

-- ---- messages

slice-last : (xs : List Envelope) (e y : Envelope) (i : ℕ) → slice_get (xs ++ e ∷ []) i ≡ Some y
    → (slice_get xs i ≡ Some y) ⊎ (e ≡ y)
slice-last [] e y zero is = inr (cc)
slice-last [] e y (suc i) is = cc
slice-last (x ∷ xs) e y zero is = inl is
slice-last (x ∷ xs) e y (suc i) is = slice-last xs e y i is

pub sent-last : (m : ℕ) (b : Bool) (ms : List Envelope) (e y : Envelope)
    → (if b then None else slice_get (ms ++ e ∷ []) (m - 1)) ≡ Some y
    → ((if b then None else slice_get ms (m - 1)) ≡ Some y) ⊎ (e ≡ y)
sent-last m true ms e y is = cc
sent-last m false ms e y is = slice-last ms e y (m - 1) is

pub sent-none : (m : ℕ) (b : Bool) (y : Envelope) → (if b then None else slice_get [] (m - 1)) ≡ Some y → ⊥
sent-none m true y is = cc
sent-none m false y is = cc

-- each message that was sent
pub sent-hold : (C : List Act → NodeId → NodeId → Message → Type 0) (d : DocumentData) (past : List Act)
    → ((now : List Act) (a : Act) (n y : NodeId) (said : Message) → AllDue d (a ∷ now) → C now n y said
    → C (a ∷ now) n y said)
    → ((now : List Act) (n y : NodeId) (said : Message) → AllDue d now → SendDue d now n y said → C now n y said)
    → AllDue d past → (m : ℕ) (e : Envelope) → sent_at m (sent past) ≡ Some e → C past e.from e.to e.message
sent-hold C d [] more new due m e is = absurd (sent-none m (m == 0) e is)
sent-hold C d (act.Sent k x y said ∷ past) more new due m e is = elim (sent-last m (m == 0) (sent past) (record { from = x; to = y; message = said }) e is) [
  | inl before ↦ more past (act.Sent k x y said) e.from e.to e.message due (sent-hold C d past more new due.1 m e before)
  | inr same ↦ more past (act.Sent k x y said) e.from e.to e.message due (let P : Envelope → Type 0 = λ z. C past z.from z.to z.message in subst P same (new past x y said due.1 due.0))
]
sent-hold C d (a ∷ past) more new due m e is = more past a e.from e.to e.message due (sent-hold C d past more new due.1 m e is)

-- the message that was got last
pub got-hold : (C : List Act → NodeId → NodeId → Message → Type 0) (d : DocumentData) (past : List Act)
    → ((now : List Act) (a : Act) (n y : NodeId) (said : Message) → AllDue d (a ∷ now) → C now n y said
    → C (a ∷ now) n y said)
    → ((now : List Act) (n y : NodeId) (said : Message) → AllDue d now → SendDue d now n y said → C now n y said)
    → AllDue d past → (e : Envelope) → got past ≡ Some e → C past e.from e.to e.message
got-hold C d [] more new due e is = cc
got-hold C d (act.Got m ∷ past) more new due e is = more past (act.Got m) e.from e.to e.message due (sent-hold C d past more new due.1 m e is)
got-hold C d (a ∷ past) more new due e is = more past a e.from e.to e.message due (got-hold C d past more new due.1 e is)

-- ---- records

-- each record that stands, and the record in doubt
pub record NodeHolds (C : Record → Type 0) (x : Node) : Type 0 where
  pub journal : AllHold C x.journal
  pub doubt : HoldsIn C x.doubt

abbrev ChangeHolds : (Record → Type 0) → Change → Type 0
ChangeHolds C (Writes o) = HoldsIn C o
ChangeHolds C (Stops o) = HoldsIn C o
ChangeHolds C c = Unit {0}

hold-changed : (C : Record → Type 0) (x : Node) (c : Change) → NodeHolds C x → ChangeHolds C c
    → NodeHolds C (changed c x)
hold-changed C x Nothing s due = s
hold-changed C x (Writes None) s due = s
hold-changed C x (Writes (Some y)) s due = record { journal = (due, s.journal); doubt = s.doubt }
hold-changed C x (Raises sid) s due = record { journal = s.journal; doubt = s.doubt }
hold-changed C x (Holds o) s due = record { journal = s.journal; doubt = s.doubt }
hold-changed C x (Frees t op k sid) s due = record { journal = s.journal; doubt = s.doubt }
hold-changed C x (Stops o) s due = record { journal = s.journal; doubt = due }
hold-changed C x (Starts b) s due = record { journal = hold-found C b x.doubt x.journal s.journal s.doubt; doubt = tt }
hold-changed C x Stays s due = record { journal = s.journal; doubt = s.doubt }

hold-freed : (C : Record → Type 0) (b : Bool) (t : TxId) (op : ℕ) (k : Key) (sid : Ident)
    → ChangeHolds C (freed b t op k sid)
hold-freed C true t op k sid = tt
hold-freed C false t op k sid = tt

hold-stop : (C : NodeId → Record → Type 0) (d : DocumentData) (past : List Act) (n : NodeId) (h : Option Head)
    → ((k : NodeId) (h : Head) → RecordDue d past k h → HoldsIn (C k) (record_of d (got past) h)) → StopDue d past n h
    → ChangeHolds (C n) (Stops (doubt_of d (got past) h))
hold-stop C d past n None new due = tt
hold-stop C d past n (Some h) new due = new n h due

hold-change : (C : NodeId → Record → Type 0) (d : DocumentData) (past : List Act) (a : Act) (n : NodeId) → AllDue d past
    → ((k : NodeId) (h : Head) → RecordDue d past k h → HoldsIn (C k) (record_of d (got past) h)) → IsDue d past a
    → ChangeHolds (C n) (change d (got past) a n)
hold-change C d past (act.Prepared m t p) n all new due = at-node (λ k c. ChangeHolds (C k) c) m n (Writes (prepared_by (got past) t p)) (new m (head.Prepared t p) due) (λ k. tt)
hold-change C d past (act.Ended m t o) n all new due = at-node (λ k c. ChangeHolds (C k) c) m n (Writes (Some (record'.Ended t o))) (new m (head.Ended t o) due) (λ k. tt)
hold-change C d past (act.Ceiling m c) n all new due = at-node (λ k c. ChangeHolds (C k) c) m n (Writes (Some (record'.Ceiling c))) (new m (head.Ceiling c) due) (λ k. tt)
hold-change C d past (act.Decided t f) n all new due = at-home d t (λ k c. ChangeHolds (C k) c) due.0 n (Writes (Some (record'.Decided t f (parts_in d (script_of t d.scripts))))) (home-is d t due.0 due.1.1.script due.1.1.at.script due.1.1.at.home) (new due.0 (head.Decided t f) due.1) (λ k. tt)
hold-change C d past (act.Closed t) n all new due = at-home d t (λ k c. ChangeHolds (C k) c) due.0 n (Writes (Some (record'.Closed t))) (closed-home d past due.0 t (nodes-fit d past all due.0) due.1.1) (new due.0 (head.Closed t) due.1) (λ k. tt)
hold-change C d past (act.Raised m sid) n all new due = at-node (λ k c. ChangeHolds (C k) c) m n (Raises sid) tt (λ k. tt)
hold-change C d past (act.Held m t op sid) n all new due = at-node (λ k c. ChangeHolds (C k) c) m n (Holds (held_by (got past) t op sid)) tt (λ k. tt)
hold-change C d past (act.Served m t op k sid vn v) n all new due = at-node (λ j c. ChangeHolds (C j) c) m n (freed (is_request (said_by (got past))) t op k sid) (hold-freed (C m) (is_request (said_by (got past))) t op k sid) (λ j. tt)
hold-change C d past (act.Down m h) n all new due = at-node (λ k c. ChangeHolds (C k) c) m n (Stops (doubt_of d (got past) h)) (hold-stop C d past m h new due) (λ k. tt)
hold-change C d past (act.Up m f) n all new due = at-node (λ k c. ChangeHolds (C k) c) m n (Starts (is_kept f)) tt (λ k. tt)
hold-change C d past (act.StillDown m) n all new due = at-node (λ k c. ChangeHolds (C k) c) m n Stays tt (λ k. tt)
hold-change C d past a n all new due = tt

all-hold-more : (P Q : Record → Type 0) (r : List Record) → ((y : Record) → P y → Q y) → AllHold P r → AllHold Q r
all-hold-more P Q [] go h = tt
all-hold-more P Q (y ∷ r) go h = (go y h.0, all-hold-more P Q r go h.1)

holds-in-more : (P Q : Record → Type 0) (o : Option Record) → ((y : Record) → P y → Q y) → HoldsIn P o → HoldsIn Q o
holds-in-more P Q None go h = tt
holds-in-more P Q (Some y) go h = go y h

-- each record of each node
pub records-hold : (C : List Act → NodeId → Record → Type 0) (d : DocumentData) (past : List Act)
    → ((now : List Act) (a : Act) (n : NodeId) (y : Record) → AllDue d (a ∷ now) → C now n y → C (a ∷ now) n y)
    → ((now : List Act) (n : NodeId) (h : Head) → AllDue d now → RecordDue d now n h
    → HoldsIn (C now n) (record_of d (got now) h)) → AllDue d past → (n : NodeId) → NodeHolds (C past n) (node d past n)
records-hold C d [] more new due n = record { journal = tt; doubt = tt }
records-hold C d (a ∷ past) more new due n =
    let before : NodeHolds (C past n) (node d past n) = records-hold C d past more new due.1 n in
    let now : NodeHolds (C past n) (node d (a ∷ past) n) = hold-changed (C past n) (node d past n) (change d (got past) a n) before (hold-change (C past) d past a n due.1 (λ k h r. new past k h due.1 r) due.0) in
    record {
      journal = all-hold-more (C past n) (C (a ∷ past) n) (node d (a ∷ past) n).journal (λ y h. more past a n y due h) now.journal;
      doubt = holds-in-more (C past n) (C (a ∷ past) n) (node d (a ∷ past) n).doubt (λ y h. more past a n y due h) now.doubt;
    }

-- what holds of each record holds of how a transaction ended
pub ended-holds : (C : Record → Type 0) (t : TxId) (o : Outcome) (r : List Record) → AllHold C r → ended t r ≡ Some o
    → C (record'.Ended t o)
ended-holds C t o [] says e = cc
ended-holds C t o (record'.Ended u w ∷ r) says e = elim (cases_eq u t) [
  | inl same ↦
      let now : Some w ≡ Some o = grind (arith, nat_tests, e) in
      let is : w ≡ o = cc in
      let P : TxId → Type 0 = λ v. C (record'.Ended v w) in
      let Q : Outcome → Type 0 = λ z. C (record'.Ended t z) in
      subst Q is (subst P same says.0)
  | inr other ↦ ended-holds C t o r says.1 (grind (arith, nat_tests, e))
]
ended-holds C t o (record'.Prepared u home parts sid p reads writes ∷ r) says e = ended-holds C t o r says.1 e
ended-holds C t o (record'.Ceiling c ∷ r) says e = ended-holds C t o r says.1 e
ended-holds C t o (record'.Decided u f parts ∷ r) says e = ended-holds C t o r says.1 e
ended-holds C t o (record'.Closed u ∷ r) says e = ended-holds C t o r says.1 e

-- ---- messages and records together

-- a claim on each message that was sent, on the one that was got last, and on each record of each node
pub record BothHold (C : NodeId → NodeId → Message → Type 0) (E : NodeId → Record → Type 0) (d : DocumentData)
    (past : List Act) : Type 0 where
  pub of_sent : (m : ℕ) (e : Envelope) → sent_at m (sent past) ≡ Some e → C e.from e.to e.message
  pub of_got : (e : Envelope) → got past ≡ Some e → C e.from e.to e.message
  pub of_records : (n : NodeId) → NodeHolds (E n) (node d past n)

both-sent : (C : List Act → NodeId → NodeId → Message → Type 0) (d : DocumentData) (past : List Act) (a : Act)
    → ((n y : NodeId) (said : Message) → C past n y said → C (a ∷ past) n y said)
    → ((n y : NodeId) (said : Message) → SendDue d past n y said → C past n y said)
    → IsDue d past a
    → ((m : ℕ) (e : Envelope) → sent_at m (sent past) ≡ Some e → C past e.from e.to e.message)
    → (m : ℕ) (e : Envelope) → sent_at m (sent (a ∷ past)) ≡ Some e → C (a ∷ past) e.from e.to e.message
both-sent C d past (act.Sent k x y said) more new due before m e is = elim (sent-last m (m == 0) (sent past) (record { from = x; to = y; message = said }) e is) [
  | inl old ↦ more e.from e.to e.message (before m e old)
  | inr same ↦ more e.from e.to e.message (let P : Envelope → Type 0 = λ z. C past z.from z.to z.message in subst P same (new x y said due))
]
both-sent C d past a more new due before m e is = more e.from e.to e.message (before m e is)

both-got : (C : List Act → NodeId → NodeId → Message → Type 0) (E : NodeId → Record → Type 0) (d : DocumentData)
    (past : List Act) (a : Act)
    → ((n y : NodeId) (said : Message) → C past n y said → C (a ∷ past) n y said)
    → BothHold (C past) E d past
    → (e : Envelope) → got (a ∷ past) ≡ Some e → C (a ∷ past) e.from e.to e.message
both-got C E d past (act.Got m) more before e is = more e.from e.to e.message (before.of_sent m e is)
both-got C E d past a more before e is = more e.from e.to e.message (before.of_got e is)

-- what each message says by the records behind it, and each record by the message behind it
pub both-hold : (C : List Act → NodeId → NodeId → Message → Type 0) (E : List Act → NodeId → Record → Type 0)
    (d : DocumentData) (past : List Act)
    → ((now : List Act) (a : Act) (n y : NodeId) (said : Message) → AllDue d (a ∷ now) → C now n y said
    → C (a ∷ now) n y said)
    → ((now : List Act) (a : Act) (n : NodeId) (y : Record) → AllDue d (a ∷ now) → E now n y → E (a ∷ now) n y)
    → ((now : List Act) (n y : NodeId) (said : Message) → AllDue d now → BothHold (C now) (E now) d now
    → SendDue d now n y said → C now n y said)
    → ((now : List Act) (n : NodeId) (h : Head) → AllDue d now → BothHold (C now) (E now) d now → RecordDue d now n h
    → HoldsIn (E now n) (record_of d (got now) h))
    → AllDue d past → BothHold (C past) (E past) d past
both-hold C E d [] more_said more_kept said kept due = record {
  of_sent = λ m e is. absurd (sent-none m (m == 0) e is);
  of_got = λ e is. cc;
  of_records = λ n. record { journal = tt; doubt = tt };
}
both-hold C E d (a ∷ past) more_said more_kept said kept due =
    let before : BothHold (C past) (E past) d past = both-hold C E d past more_said more_kept said kept due.1 in
    let changed_now : (n : NodeId) → NodeHolds (E past n) (node d (a ∷ past) n) = λ n. hold-changed (E past n) (node d past n) (change d (got past) a n) (before.of_records n) (hold-change (E past) d past a n due.1 (λ k h r. kept past k h due.1 before r) due.0) in
    record {
      of_sent = both-sent C d past a (λ n y w h. more_said past a n y w due h) (λ n y w h. said past n y w due.1 before h) due.0 before.of_sent;
      of_got = both-got C (E past) d past a (λ n y w h. more_said past a n y w due h) before;
      of_records = λ n. record {
        journal = all-hold-more (E past n) (E (a ∷ past) n) (node d (a ∷ past) n).journal (λ y h. more_kept past a n y due h) (changed_now n).journal;
        doubt = holds-in-more (E past n) (E (a ∷ past) n) (node d (a ∷ past) n).doubt (λ y h. more_kept past a n y due h) (changed_now n).doubt;
      };
    }
