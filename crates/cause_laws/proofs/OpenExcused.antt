-- Each transaction that is open at the end of a run waits for its home, for a read or for a vote.
use Rattle.cause_laws.proofs.AdvanceAsks.{AskedBy, IsAsked}
use Rattle.cause_laws.proofs.Askings.{all-asked}
use Rattle.cause_laws.proofs.HeldNodes.{has_read, is_waiting_read}
use Rattle.cause_laws.proofs.HeldRequests.{ReadsHeld, reads-held}
use Rattle.cause_laws.proofs.NoReplies.{quiet-read}
use Rattle.cause_laws.proofs.SentHomes.{replies-sent, requests-sent}
use Rattle.cause_laws.proofs.VoteExcuses.{OpenTold, open-told, unsettled-phase, waits-vote}
use Rattle.grid_laws.proofs.Causes.{AllDue}
use Rattle.grid_laws.proofs.OpenNotEnded.{open-not-ended}
use Rattle.grid_laws.proofs.RunsDue.{due-run}
use Rattle.grid_model.proofs.Undecided.{script-number}
use Rattle.grid_model.specs.Excuses.{Excused, ExcusedOf, WaitsForRead, collects, has_sent, has_stopped, home_is_down, is_held_at, is_reply_of, is_request_of, reads}
use Rattle.grid_model.specs.Documents.{DocumentData, IsOne}
use Rattle.grid_model.specs.Histories.{after}
use Rattle.journal_words.specs.Journals.{is_clear, later}
use Rattle.grid_model.specs.Nodes.{is_home, journal, node, script_of}
use Rattle.grid_model.specs.Runs.{IsRun}
use Rattle.grid_model.specs.Stories.{is_open, open_phase, phase}
use Rattle.script_runs.specs.Waits.{waiting}
use Rattle.grid_model.specs.declared.acts.Act.{Act}
use Rattle.grid_model.specs.declared.stories.HeldRead.{HeldRead}
use Rattle.grid_model.specs.declared.stories.Story.{Story}
use Rattle.score_base.specs.declared.ids.TxId.{TxId}
use Rattle.score_base.specs.declared.records.Record.{Record}
use Rattle.script_lang.specs.Scripts.{ScriptData}
use Rattle.std.proofs.Common.{Bool, List, None, Option, Some, [], ap, false, inl, inr, refl, subst, sym, true, ℕ, ◌||◌, ◌∙◌, ◌∷◌, ◌≡◌}
use Rattle.std.proofs.lemmas.Bool.{and_from, and_parts, or_cases, or_left, or_right}
use Rattle.std.specs.List.{list_all, list_any}
use Rattle.std.specs.Prelude.{not, ◌&&◌, ◌==◌}

read-held : (r : List Record) (t : TxId) (j : ℕ) (hs : List HeldRead) → list_all (is_waiting_read r) hs ≡ true
    → has_read t j hs ≡ true → list_any (λ h. h.t == t && (h.op == j && not (is_clear h.sid r))) hs ≡ true
read-held r t j [] w h = cc
read-held r t j (y ∷ hs) w h =
    let both = and_parts (is_waiting_read r y) (list_all (is_waiting_read r) hs) w in
    elim (or_cases (y.t == t && y.op == j) (has_read t j hs) h) [
      | inl here ↦
          let i = and_parts (y.t == t) (y.op == j) here in
          or_left (y.t == t && (y.op == j && not (is_clear y.sid r))) (list_any (λ h. h.t == t && (h.op == j && not (is_clear h.sid r))) hs) (and_from (y.t == t) (y.op == j && not (is_clear y.sid r)) i.0 (and_from (y.op == j) (not (is_clear y.sid r)) i.1 both.0))
      | inr later ↦ or_right (y.t == t && (y.op == j && not (is_clear y.sid r))) (list_any (λ h. h.t == t && (h.op == j && not (is_clear h.sid r))) hs) (read-held r t j hs both.1 later)
    ]

turned : (a e b c d : Bool) → (a ≡ true → e ≡ true) → (c ≡ true → d ≡ true) → ((a || b) || c) ≡ true
    → (e || (b || d)) ≡ true
turned true e b c d home go h = or_left e (b || d) (home refl)
turned false e true c d home go h = or_right e true refl
turned false e false c d home go h = or_right e d (go h)

-- the read that it waits for
waits-read : (d : DocumentData) (h : List Act) (s : ScriptData) (j : ℕ) → IsOne d → IsRun d d.items h
    → script_of s.number d.scripts ≡ Some s → (w : OpenTold d (after [] h) s)
    → waiting s.ops w.tale.progress.values ≡ Some j → WaitsForRead d (after [] h) s.number j
waits-read d h s j one run is w waits =
    record {
      asked = requests-sent d past s.number j one due asked_for;
      quiet = quiet-read d h s w.tale j one run is w.told w.unsettled waits;
      each = λ n later g. turned (has_sent (λ x y said. x == n && is_reply_of s.number j said) later) (has_sent (λ x y said. x == n && (is_home d s.number y && is_reply_of s.number j said)) later) (has_stopped n later) (has_read s.number j (node d past n).held) (is_held_at (node d past n) s.number j) (λ v. replies-sent d (λ x y said. is_request_of s.number j said) past s.number j n n later one due g v) (λ r. read-held (journal d past n) s.number j (node d past n).held (all.holds n).waits r) (all.served s.number j n later g);
    }
  where
    past : List Act
    past = after [] h

    due : AllDue d past
    due = due-run d d.items h run

    all : ReadsHeld d past
    all = reads-held d h one run

    asked_for : AskedBy d past s (Some j)
    asked_for = (let A : Option Story → Type 0 = λ o. IsAsked d past s o in let B : Option ℕ → Type 0 = λ o. AskedBy d past s o in subst B waits (subst A w.told (all-asked d h one run s is)))

excused-script : (d : DocumentData) (h : List Act) (s : ScriptData) → IsOne d → IsRun d d.items h
    → script_of s.number d.scripts ≡ Some s → is_open (phase d (after [] h) s) ≡ true → ExcusedOf d (after [] h) s
excused-script d h s one run is going = go (node d past s.home).up refl
  where
    past : List Act
    past = after [] h

    w : OpenTold d past s
    w = open-told d past s (due-run d d.items h run) going

    by : (o : Option ℕ) → waiting s.ops w.tale.progress.values ≡ o → (node d past s.home).up ≡ true → ExcusedOf d past s
    by (Some j) e up = reads j (unsettled-phase d past s w ∙ ap (λ o. open_phase o) e) (waits-read d h s j one run is w e)
    by None e up = collects (unsettled-phase d past s w ∙ ap (λ o. open_phase o) e) (waits-vote d h s one run is (λ n. open-not-ended d (after [] h) (due-run d d.items h run) s s.number is going n) up w e)

    go : (b : Bool) → (node d past s.home).up ≡ b → ExcusedOf d past s
    go false e = home_is_down e
    go true e = by (waiting s.ops w.tale.progress.values) refl e

-- each open transaction of a run is excused
pub excused : (d : DocumentData) (h : List Act) → IsOne d → IsRun d d.items h → Excused d h
excused d h one run s t is going =
    let number : s.number ≡ t = script-number t d.scripts s is in
    let P : TxId → Type 0 = λ u. script_of u d.scripts ≡ Some s in
    excused-script d h s one run (subst P (sym number) is) going
