-- Every open transaction of these worked runs is excused: one waits for a vote, one for a reply, one for a held read,
-- and of one the home is down.
use Rattle.std.proofs.Common.{◌≡◌, ℕ, Bool, true, false, IsTrue, List, [], ◌∷◌, ◌++◌, Option, Some, None, refl, sym, ap, subst, arith, append_assoc, ◌==◌, ◌&&◌, ◌||◌, not, if◌then◌else◌}
use Rattle.std.proofs.lemmas.Bool.{false≢true, and_parts}
use Rattle.std.proofs.lemmas.Bool.Decides.{nat_tests}
use Rattle.std.proofs.lemmas.List.{append-nil}
use Rattle.std.proofs.lemmas.Option.{none-some}
use Rattle.score_base.specs.declared.ids.NodeId.{NodeId}
use Rattle.score_base.specs.declared.ids.TxId.{TxId}
use Rattle.script_lang.specs.Scripts.{ScriptData}
use Rattle.grid_model.specs.declared.acts.Act.{Act}
use Rattle.grid_model.specs.declared.acts.Act.TheVariants as act
use Rattle.grid_model.specs.declared.messages.Envelope.{Envelope}
use Rattle.grid_model.specs.declared.messages.Message.{Message}
use Rattle.grid_model.specs.Documents.{DocumentData}
use Rattle.grid_model.specs.Histories.{after, sent, sent_at}
use Rattle.grid_model.specs.Nodes.{node, script_of, is_home}
use Rattle.grid_model.specs.Stories.{phase, is_open}
use Rattle.grid_model.specs.Excuses.{Excused, ExcusedOf, home_is_down, reads, collects, WaitsForVote, WaitsForRead, GotAt, passes, has_sent, has_stopped, is_held_at, began_down, is_request_of, is_reply_of, is_prepare_of, is_vote_of}
use Rattle.grid_model.proofs.TransferActs.{asks, votes}
use Rattle.grid_model.proofs.RunsThatStop.{presumed_abort}
use Rattle.grid_model.proofs.RunsWithReads.{ceiling_after_crash, ceiling_after_crash_acts, held_read, held_read_front}
use Rattle.grid_model.proofs.RunsWithConflicts.{write_conflict, write_conflict_acts}

-- ---- each message that was got, by a test of the whole past

-- a message that is meant has what is claimed of its receiver and of the acts behind its Got
abbrev test_of : (NodeId → NodeId → Message → Bool) → (NodeId → List Act → Bool) → List Act → Option Envelope → Bool
test_of p q later None = true
test_of p q later (Some e) = not (p e.from e.to e.message) || q e.to later

-- so has each message that was got in the past, behind which these acts came
abbrev all_got : (NodeId → NodeId → Message → Bool) → (NodeId → List Act → Bool) → List Act → List Act → Bool
all_got p q later [] = true
all_got p q later (act.Got m ∷ past) =
    test_of p q later (sent_at m (sent past)) && all_got p q (later ++ act.Got m ∷ []) past
all_got p q later (x ∷ past) = all_got p q (later ++ x ∷ []) past

rest-got : (p : NodeId → NodeId → Message → Bool) (q : NodeId → List Act → Bool) (later : List Act) (x : Act)
    (past : List Act) → IsTrue (all_got p q later (x ∷ past)) → IsTrue (all_got p q (later ++ x ∷ []) past)
rest-got p q later (act.Got m) past h = (and_parts (test_of p q later (sent_at m (sent past))) (all_got p q (later ++ act.Got m ∷ []) past) h).1
rest-got p q later x past h = h

meant : (b c : Bool) → IsTrue (not b || c) → IsTrue b → IsTrue c
meant true c h is = h
meant false c h is = absurd (false≢true is)

one-got : (p : NodeId → NodeId → Message → Bool) (q : NodeId → List Act → Bool) (later : List Act) (n : NodeId)
    (o : Option Envelope) → IsTrue (test_of p q later o) → IsTrue (passes (λ x y said. y == n && p x y said) o)
    → IsTrue (q n later)
one-got p q later n None h is = absurd (false≢true is)
one-got p q later n (Some e) h is = (
    let both : IsTrue (e.to == n) × IsTrue (p e.from e.to e.message) = and_parts (e.to == n) (p e.from e.to e.message) is in
    let at : IsTrue (e.to == n) = both.0 in
    let same : e.to ≡ n = grind (arith, nat_tests, at) in
    let P : NodeId → Type 0 = λ m. IsTrue (q m later) in
    subst P same (meant (p e.from e.to e.message) (q e.to later) h both.1))

got-tested : (p : NodeId → NodeId → Message → Bool) (q : NodeId → List Act → Bool) (front later : List Act) (m : ℕ)
    (before : List Act) (n : NodeId) → IsTrue (all_got p q front (later ++ act.Got m ∷ before))
    → IsTrue (passes (λ x y said. y == n && p x y said) (sent_at m (sent before))) → IsTrue (q n (front ++ later))
got-tested p q front [] m before n h is = (
    let P : List Act → Type 0 = λ acts. IsTrue (q n acts) in
    let both : IsTrue (test_of p q front (sent_at m (sent before))) × IsTrue (all_got p q (front ++ act.Got m ∷ []) before) = and_parts (test_of p q front (sent_at m (sent before))) (all_got p q (front ++ act.Got m ∷ []) before) h in
    subst P (sym (append-nil front)) (one-got p q front n (sent_at m (sent before)) both.0 is))
got-tested p q front (x ∷ later) m before n h is = (
    let P : List Act → Type 0 = λ acts. IsTrue (q n acts) in
    subst P (append_assoc front (x ∷ []) later) (got-tested p q (front ++ x ∷ []) later m before n (rest-got p q front x (later ++ act.Got m ∷ before) h) is))

-- what the test says of each message that was got
each-got : (p : NodeId → NodeId → Message → Bool) (q : NodeId → List Act → Bool) (past : List Act)
    → IsTrue (all_got p q [] past) → (n : NodeId) (later : List Act) → GotAt p past n later → IsTrue (q n later)
each-got p q past all n later g =
    let P : List Act → Type 0 = λ acts. IsTrue (all_got p q [] acts) in
    got-tested p q [] later g.m g.before n (subst P g.there all) g.said

-- ---- each script of a document

-- each of these scripts meets a claim
abbrev EachScript : (ScriptData → Type 0) → List ScriptData → Type 0
EachScript P [] = Unit {0}
EachScript P (s ∷ ss) = P s × EachScript P ss

-- the script of an option, or this one
abbrev script_or : ScriptData → Option ScriptData → ScriptData
script_or s None = s
script_or s (Some x) = x

-- so does the one of a number
script-each : (P : ScriptData → Type 0) (ss : List ScriptData) → EachScript P ss → (t : TxId) (s : ScriptData)
    → script_of t ss ≡ Some s → P s
script-each P [] each t s e = absurd (none-some s e)
script-each P (x ∷ ss) each t s e = go (x.number == t) (λ f. script-each P ss each.1 t s f) e
  where
    go : (b : Bool) → (script_of t ss ≡ Some s → P s) → (if b then Some x else script_of t ss) ≡ Some s → P s
    go true rest e = subst P (ap (script_or x) e) each.0
    go false rest e = rest e

-- an open transaction is excused
abbrev pub IsExcused : DocumentData → List Act → ScriptData → Type 0
IsExcused d past s = IsTrue (is_open (phase d past s)) → ExcusedOf d past s

-- where each script of the document is excused, the claim holds
each-excused : (d : DocumentData) (h : List Act) → EachScript (IsExcused d (after [] h)) d.scripts → Excused d h
each-excused d h each s t here = script-each (IsExcused d (after [] h)) d.scripts each t s here

-- ---- worked runs

-- what is owed for a read request of operation j of t that n got
abbrev owed_read : DocumentData → List Act → TxId → ℕ → NodeId → List Act → Bool
owed_read d past t j n later =
    has_sent (λ x y said. x == n && (is_home d t y && is_reply_of t j said)) later
    || (has_stopped n later || is_held_at (node d past n) t j)

-- what is owed for a Prepare of t that its part n got
abbrev owed_vote : DocumentData → TxId → NodeId → List Act → Bool
owed_vote d t n later =
    began_down n later || has_sent (λ x y said. x == n && (is_home d t y && is_vote_of t said)) later

-- of two that write one key, the first waits for the vote of n2, which was sent and not got
abbrev conflict : List Act
conflict = after [] write_conflict_acts

conflict-waits : WaitsForVote write_conflict conflict 1
conflict-waits = record {
  part = 2;
  is_part = refl;
  asked = refl;
  quiet = refl;
  each = each-got (λ x y said. is_prepare_of 1 said) (owed_vote write_conflict 1) conflict refl 2;
}

-- and the second is aborted
pub conflict-excused : Excused write_conflict write_conflict_acts
conflict-excused = each-excused write_conflict write_conflict_acts ((λ opened. collects refl conflict-waits), ((λ opened. absurd (false≢true opened)), tt))

-- behind a crash of n2, the second of three waits for a reply that was sent and not got, the third for a vote
abbrev crashed : List Act
crashed = after [] ceiling_after_crash_acts

crashed-reads : WaitsForRead ceiling_after_crash crashed 2 1
crashed-reads = record {
  asked = refl;
  quiet = refl;
  each = each-got (λ x y said. is_request_of 2 1 said) (owed_read ceiling_after_crash crashed 2 1) crashed refl;
}

crashed-waits : WaitsForVote ceiling_after_crash crashed 3
crashed-waits = record {
  part = 2;
  is_part = refl;
  asked = refl;
  quiet = refl;
  each = each-got (λ x y said. is_prepare_of 3 said) (owed_vote ceiling_after_crash 3) crashed refl 2;
}

-- and the first is closed
pub crash-excused : Excused ceiling_after_crash ceiling_after_crash_acts
crash-excused = each-excused ceiling_after_crash ceiling_after_crash_acts ((λ opened. absurd (false≢true opened)), ((λ opened. reads 1 refl crashed-reads), ((λ opened. collects refl crashed-waits), tt)))

-- a read is held at n2, where another transaction is pending
abbrev held : List Act
held = after [] held_read_front

held-reads : WaitsForRead held_read held 2 2
held-reads = record {
  asked = refl;
  quiet = refl;
  each = each-got (λ x y said. is_request_of 2 2 said) (owed_read held_read held 2 2) held refl;
}

-- so that the second of two, which asked for it, is excused; the first is decided
pub held-excused : Excused held_read held_read_front
held-excused = each-excused held_read held_read_front ((λ opened. absurd (false≢true opened)), ((λ opened. reads 2 refl held-reads), tt))

-- the home is down while both votes are on the way
abbrev down_acts : List Act
down_acts = asks ++ (votes ++ act.Down 1 None ∷ [])

-- so that the one transaction, which is collecting, is excused
pub down-excused : Excused presumed_abort down_acts
down-excused = each-excused presumed_abort down_acts ((λ opened. home_is_down refl), tt)
