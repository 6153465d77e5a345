-- What a read that arrives is answered, by the tests of the code.
use Rattle.std.proofs.Common.{◌≡◌, ℕ, ◌<◌, ◌≤◌, ◌+◌, ◌*◌, ◌/◌, Bool, true, false, max, refl, sym, ap, subst, ◌∙◌, IsTrue, List, nat_lt, arith}
use Rattle.std.proofs.lemmas.Bool.Decides.{nat_tests}
use Rattle.std.specs.Prelude.{◌↔◌, if◌then◌else◌}
use Rattle.score_base.specs.declared.ids.Ident.{Ident}
use Rattle.score_base.specs.declared.records.Record.{Record}
use Rattle.score_base.specs.declared.records.Record.TheVariants as record'
use Rattle.node_clock.specs.Clock.{IsCeiling}
use Rattle.journal_words.specs.Journals.{floor, fits, is_clear}
use Rattle.grid_model.specs.declared.stories.HeldRead.{HeldRead}
use Rattle.grid_model.specs.Rows.{ceiling_of}
use Rattle.grid_store.specs.Given.{Given, HasRoom, IsSame}
use Rattle.snapshot_read.specs.declared.dues.CeilingDue.{CeilingDue}
use Rattle.snapshot_read.specs.declared.answers.Arrived.{Arrived}
use Rattle.snapshot_read.specs.declared.answers.Arrived.TheVariants as arrived
use Rattle.snapshot_read.specs.declared.answers.Promised.{Promised}
use Rattle.snapshot_read.specs.declared.answers.Promised.TheVariants as promised
use Rattle.snapshot_read.specs.Held.{HeldReads}
use Rattle.snapshot_read.specs.Reads.{answer_to, at_once, ceiling_for, served_or_held, arrival}
use Rattle.snapshot_read.specs.Calls.{IsAnswered, IsReserved, Leaves}
use Rattle.snapshot_read.proofs.Ceilings.{ceiling-is, ceiling-fits}

-- the clock tells whether it rose
pub raised-is : (b : Bool) (a c : ℕ) → (IsTrue b ↔ (a < max a c)) → b ≡ nat_lt a c
raised-is true a c h = (let up : a < max a c = h.0 refl in grind (arith, nat_tests, up))
raised-is false a c h = go (nat_lt a c) refl
  where
    go : (b : Bool) → nat_lt a c ≡ b → false ≡ b
    go true e =
        let up : a < max a c = grind (arith, nat_tests, e) in
        (let q : false ≡ true = h.1 up in cc)
    go false e = refl

pub served-is : (s : Given) (h : HeldRead) (raised : Bool) → is_clear h.sid s.journal ≡ true
    → raised ≡ nat_lt s.next h.sid → promised.Serve (answer_to s h raised) ≡ served_or_held s h
served-is s h raised free is = rw (free, is) refl

pub held-is : (s : Given) (h : HeldRead) (raised : Bool) → is_clear h.sid s.journal ≡ false
    → raised ≡ nat_lt s.next h.sid → promised.Hold (record { sid = h.sid; raised = raised }) ≡ served_or_held s h
held-is s h raised held is = rw (held, is) refl

pub need-arrival : (s : Given) (h : HeldRead) (c : Ident) → floor s.journal < h.sid → IsCeiling 64 h.sid c
    → arrived.NeedCeiling (record { read = h }) (record'.Ceiling c) ≡ arrival s h
need-arrival s h c above is =
    let e : nat_lt (floor s.journal) h.sid ≡ true = grind (arith, nat_tests, above) in
    let P : Bool → Type 0 = λ b. arrived.NeedCeiling (record { read = h }) (record'.Ceiling c)
    ≡ (if b then arrived.NeedCeiling (record { read = h }) (ceiling_for h) else at_once (served_or_held s h)) in
    subst P (sym e) (ap (λ z. arrived.NeedCeiling (record { read = h }) (record'.Ceiling z)) (ceiling-is h.sid c is))

pub once-arrival : (s : Given) (h : HeldRead) → h.sid ≤ floor s.journal → at_once (served_or_held s h) ≡ arrival s h
once-arrival s h below =
    let e : nat_lt (floor s.journal) h.sid ≡ false = grind (arith, nat_tests, below) in
    let P : Bool → Type 0 = λ b. at_once (served_or_held s h)
    ≡ (if b then arrived.NeedCeiling (record { read = h }) (ceiling_for h) else at_once (served_or_held s h)) in
    subst P (sym e) refl

pub leaves-once : (p : Promised) (h : HeldRead) (s : Given) (w : HeldReads) (s' : Given) (w' : HeldReads)
    → IsAnswered p h s w s' w' → Leaves (at_once p) h s w s' w'
leaves-once (promised.Hold y) h s w s' w' is = is
leaves-once (promised.Serve a) h s w s' w' is = is

above-floor : (a b : ℕ) → (a ≤ b → true ≡ false) → b < a
above-floor a b not = go (nat_lt b a) refl
  where
    go : (x : Bool) → nat_lt b a ≡ x → b < a
    go true e = grind (arith, nat_tests, e)
    go false e =
        let le : a ≤ b = grind (arith, nat_tests, e) in
        absurd (let q : true ≡ false = not le in cc)

-- what is known where a clock asks for a ceiling
pub record Needed (s : Given) (h read : HeldRead) (due : CeilingDue) (c : Ident) : Type 0 where
  pub made : due.read ≡ read
  pub asked : read ≡ h
  pub above : read.sid ≤ floor s.journal → true ≡ false
  pub is : IsCeiling 64 read.sid c

pub need-answer : (s : Given) (h read : HeldRead) (due : CeilingDue) (c : Ident) → Needed s h read due c
    → arrived.NeedCeiling due (record'.Ceiling c) ≡ arrival s h
need-answer s h read due c n =
    let make : HeldRead → CeilingDue = λ z. record { read = z } in
    let same : due ≡ make read = ap make n.made in
    let answer = need-arrival s read c (above-floor read.sid (floor s.journal) n.above) n.is in
    ap (λ z. arrived.NeedCeiling z (record'.Ceiling c)) same ∙ answer ∙ ap (arrival s) n.asked

pub need-reserved : (s s' : Given) (w w' : HeldReads) (h read : HeldRead) (due : CeilingDue) (c : Ident)
    → Needed s h read due c → IsSame s s' → HasRoom (record'.Ceiling c) s'.room → 1 ≤ w'.spare → w'.reads ≡ w.reads
    → IsReserved due (record'.Ceiling c) h s w s' w'
need-reserved s s' w w' h read due c n same room place held =
    let is : c ≡ ceiling_of read.sid = ceiling-is read.sid c n.is in
    let above = above-floor read.sid (floor s.journal) n.above in
    let Q : List Record → Type 0 = λ r. floor r < read.sid in
    let P : Ident → Type 0 = λ z. fits s'.cluster s'.node s'.journal (record'.Ceiling z) ≡ true in
    let fit = ceiling-fits s'.cluster s'.node s'.journal read.sid (subst Q (sym same.journal) above) in
    let own : c ≡ ceiling_of due.read.sid = is ∙ ap (λ (z : HeldRead). ceiling_of z.sid) (sym n.made) in
    record {
      read = n.made ∙ n.asked;
      of = ap (λ z. record'.Ceiling z) own;
      record_due = record {
        fit = subst P (sym is) fit;
        spelt = tt;
        room = room;
      };
      place = place;
      store = same;
      held = held;
    }
