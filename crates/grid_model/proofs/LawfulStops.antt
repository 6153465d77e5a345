-- Which stops a lawful run may have: those by a fuse, and those that the rise of a disk's count explains.
use Rattle.std.proofs.Common.{ℕ, ◌≤◌, nat_lt, nat_le, Bool, true, false, ◌&&◌, ◌==◌, IsTrue, List, [], ◌∷◌, ◌++◌, None, ◌≡◌, refl, subst, arith, inl, inr}
use Rattle.std.proofs.lemmas.Bool.{cases_eq}
use Rattle.std.proofs.lemmas.Bool.Decides.{nat_tests}
use Rattle.score_base.specs.declared.ids.NodeId.{NodeId}
use Rattle.grid_model.specs.declared.acts.Act.{Act}
use Rattle.grid_model.specs.declared.acts.Act.TheVariants as act
use Rattle.grid_model.specs.declared.acts.Flag.TheVariants as flag
use Rattle.grid_model.specs.declared.items.Item.TheVariants as item
use Rattle.score_base.specs.declared.causes.Outcome.TheVariants as outcome
use Rattle.grid_model.specs.declared.messages.Message.TheVariants as message
use Rattle.grid_model.proofs.TransferActs.{copy_script}
use Rattle.grid_model.specs.Documents.{DocumentData}
use Rattle.grid_model.specs.Histories.{after}
use Rattle.grid_model.specs.Runs.{IsRun, Lawful, Explains, are_let, stops, as_number}
use Rattle.journal_words.proofs.TwoNodes.{two_nodes}
use Rattle.grid_model.proofs.Plays.{usually, unopened, all_open, played-run}
use Rattle.grid_model.proofs.Unarmed.{is_unarmed, unarmed-are_let, unstopped-explains, no_rise}
use Rattle.grid_model.proofs.RunsThatStop.{stop_at_the_decision, one_vote, decision_gone_acts, decision_kept_acts, stop_at_the_decision-gone, stop_at_the_decision-kept, failing_device_call, failing_device_call_acts, failing_device_call-run, opening_fails, opening_fails_acts, opening_fails-run}

-- ---- a disk fails by itself

-- the count of n2's disk rose by one
abbrev pub one_rise : NodeId → ℕ
one_rise n = as_number (2 == n)

pub failing_device_call-stops : (n : NodeId)
    → Explains failing_device_call (after [] failing_device_call_acts) n (one_rise n)
failing_device_call-stops n = elim (cases_eq 2 n) [
  | inl same ↦ rw (← same) (record { most = omega arith; some = λ rose same. omega arith })
  | inr other ↦ (
      let apart : (2 == n) ≡ false = grind (arith, nat_tests) in
      rw apart (unstopped-explains failing_device_call (after [] failing_device_call_acts) n (rw apart refl)))
]

-- the stop at a record of n2 is lawful where the count of its disk rose
pub failing_device_call-lawful : Lawful failing_device_call failing_device_call_acts one_rise
failing_device_call-lawful = record {
  run = failing_device_call-run;
  fuses = λ n. unarmed-are_let failing_device_call (after [] failing_device_call_acts) n refl;
  stops = failing_device_call-stops;
}

-- no fuse is armed, so that it is not lawful where no count rose
pub failing_device_call-unlawful : Lawful failing_device_call failing_device_call_acts no_rise → ⊥
failing_device_call-unlawful h = let less : 1 ≤ 0 = (h.stops 2).most in omega arith

-- nor is it where the count rose of a node that did not stop
pub failing_device_call-elsewhere : Lawful failing_device_call failing_device_call_acts (λ n. 1) → ⊥
failing_device_call-elsewhere h = (h.stops 1).some (λ same. omega arith) refl

-- ---- a disk fails at an opening

-- n2 is not opened behind a crash
abbrev pub unopened_node : DocumentData
unopened_node = record { cluster = two_nodes; scripts = []; items = item.Crash 2 0 ∷ item.Restart 2 ∷ [] }

abbrev pub unopened_node_acts : List Act
unopened_node_acts = act.Up 1 flag.Untouched ∷ act.Up 2 flag.Untouched ∷ act.Down 2 None ∷ act.StillDown 2 ∷ []

pub unopened_node-run : IsRun unopened_node unopened_node.items unopened_node_acts
unopened_node-run = played-run unopened_node all_open (usually (item.Crash 2 0 ∷ []) ++ ((item.Restart 2, unopened) ∷ [])) refl

-- without a fuse and with no rise it is not lawful
pub unopened_node-unlawful : Lawful unopened_node unopened_node_acts no_rise → ⊥
unopened_node-unlawful h = let less : 1 ≤ 0 = (h.stops 2).most in omega arith

-- where the first call of the opening is stopped by a fuse, no count rises
pub opening_fails-stops : (n : NodeId) → Explains opening_fails (after [] opening_fails_acts) n 0
opening_fails-stops n = elim (cases_eq 2 n) [
  | inl same ↦ rw (← same) (record { most = omega arith; some = λ rose. absurd (rose refl) })
  | inr other ↦ (
      let apart : (2 == n) ≡ false = grind (arith, nat_tests) in
      unstopped-explains opening_fails (after [] opening_fails_acts) n (rw apart refl))
]

pub opening_fails-fuses : (n : NodeId) → IsTrue (are_let opening_fails (after [] opening_fails_acts) n)
opening_fails-fuses n = elim (cases_eq 2 n) [
  | inl same ↦ subst (λ m. IsTrue (are_let opening_fails (after [] opening_fails_acts) m)) same refl
  | inr other ↦ unarmed-are_let opening_fails (after [] opening_fails_acts) n (grind (arith, nat_tests))
]

pub opening_fails-lawful : Lawful opening_fails opening_fails_acts no_rise
opening_fails-lawful = record { run = opening_fails-run; fuses = opening_fails-fuses; stops = opening_fails-stops }

-- ---- a fuse stops a record

abbrev pub gone_acts : ℕ → ℕ → List Act
gone_acts k how = one_vote k how ++ decision_gone_acts

abbrev pub kept_acts : ℕ → ℕ → List Act
kept_acts k how = one_vote k how ++ decision_kept_acts

-- the fuse stops one of the four calls of the record
abbrev pub is_in_record : ℕ → Bool
is_in_record k = nat_lt 0 k && nat_le k 4

pub stop_at_the_decision-other : (k : ℕ) (how : ℕ) (h : List Act) (n : NodeId) → IsTrue (is_unarmed n (after [] h))
    → stops (after [] h) n ≡ 0 → IsTrue (are_let (stop_at_the_decision k how) (after [] h) n)
    × Explains (stop_at_the_decision k how) (after [] h) n 0
stop_at_the_decision-other k how h n unarmed unstopped = (unarmed-are_let (stop_at_the_decision k how) (after [] h) n unarmed, unstopped-explains (stop_at_the_decision k how) (after [] h) n unstopped)

pub gone-at : (k : ℕ) (how : ℕ) → IsTrue (is_in_record k) → (n : NodeId)
    → IsTrue (are_let (stop_at_the_decision k how) (after [] (gone_acts k how)) n)
    × Explains (stop_at_the_decision k how) (after [] (gone_acts k how)) n 0
gone-at k how inside n = elim (cases_eq 1 n) [
  | inl same ↦ rw (← same) (refl, record { most = rw inside (omega arith); some = λ rose. absurd (rose refl) })
  | inr other ↦ (
      let apart : (1 == n) ≡ false = grind (arith, nat_tests) in
      stop_at_the_decision-other k how (gone_acts k how) n (rw apart refl) (rw apart refl))
]

-- the record may be gone wherever the fuse stops it
pub gone-lawful : (k : ℕ) (how : ℕ) → IsTrue (is_in_record k)
    → Lawful (stop_at_the_decision k how) (gone_acts k how) no_rise
gone-lawful k how inside = record {
  run = stop_at_the_decision-gone k how;
  fuses = λ n. (gone-at k how inside n).0;
  stops = λ n. (gone-at k how inside n).1;
}

-- the fuse stops the write of the gate, or its sync
abbrev pub is_at_gate : ℕ → Bool
is_at_gate k = nat_le 3 k && nat_le k 4

pub kept-lets : (k : ℕ) (how : ℕ) → IsTrue (is_at_gate k)
    → IsTrue (are_let (stop_at_the_decision k how) (after [] (kept_acts k how)) 1)
kept-lets k how inside = grind (arith, nat_tests)

pub kept-at : (k : ℕ) (how : ℕ) → IsTrue (is_at_gate k) → (n : NodeId)
    → IsTrue (are_let (stop_at_the_decision k how) (after [] (kept_acts k how)) n)
    × Explains (stop_at_the_decision k how) (after [] (kept_acts k how)) n 0
kept-at k how inside n = elim (cases_eq 1 n) [
  | inl same ↦ subst (λ m. IsTrue (are_let (stop_at_the_decision k how) (after [] (kept_acts k how)) m) × Explains (stop_at_the_decision k how) (after [] (kept_acts k how)) m 0) same (kept-lets k how inside, record { most = grind (arith, nat_tests); some = λ rose. absurd (rose refl) })
  | inr other ↦ (
      let apart : (1 == n) ≡ false = grind (arith, nat_tests) in
      stop_at_the_decision-other k how (kept_acts k how) n (rw apart refl) (rw apart refl))
]

-- the record may be kept where the fuse stops it behind its first sync
pub kept-lawful : (k : ℕ) (how : ℕ) → IsTrue (is_at_gate k)
    → Lawful (stop_at_the_decision k how) (kept_acts k how) no_rise
kept-lawful k how inside = record {
  run = stop_at_the_decision-kept k how;
  fuses = λ n. (kept-at k how inside n).0;
  stops = λ n. (kept-at k how inside n).1;
}

-- where the fuse stops the first sync, no image has the record, so that it is not kept
pub kept-unlawful : (how : ℕ) (rise : NodeId → ℕ) → Lawful (stop_at_the_decision 2 how) (kept_acts 2 how) rise → ⊥
kept-unlawful how rise h = let is : false ≡ true = h.fuses 1 in grind arith

-- a fuse for a later call does not stop this record
pub late_fuse-unlawful : (how : ℕ) → Lawful (stop_at_the_decision 5 how) (gone_acts 5 how) no_rise → ⊥
late_fuse-unlawful how h = let less : 1 ≤ 0 = (h.stops 1).most in omega arith

-- ---- a fuse does not let a record pass

-- the fuse of n1 is armed, and the decision is kept
abbrev pub armed_decision : ℕ → DocumentData
armed_decision k = record { cluster = two_nodes; scripts = copy_script ∷ []; items = item.Begin 1 ∷ item.Next 5 ∷ item.Fuse 1 k 0 ∷ item.Deliver 6 ∷ [] }

abbrev pub armed_decision_acts : ℕ → List Act
armed_decision_acts k =
    one_vote k 0 ++ (act.Got 6 ∷ act.Decided 1 1 ∷ act.Finished 1 ∷ act.Sent 7 1 1 (message.Tell 1 (outcome.Commit 1))
    ∷ act.Sent 8 1 2 (message.Tell 1 (outcome.Commit 1)) ∷ [])

pub armed_decision-run : (k : ℕ) → IsRun (armed_decision k) (armed_decision k).items (armed_decision_acts k)
armed_decision-run k = played-run (armed_decision k) all_open (usually (armed_decision k).items) refl

-- four calls may not pass a fuse for the fourth
pub fourth_call-unlawful : (rise : NodeId → ℕ) → Lawful (armed_decision 4) (armed_decision_acts 4) rise → ⊥
fourth_call-unlawful rise h = let is : false ≡ true = h.fuses 1 in grind arith

-- they pass one for the fifth
pub fifth_call-let : IsTrue (are_let (armed_decision 5) (after [] (armed_decision_acts 5)) 1)
fifth_call-let = refl
