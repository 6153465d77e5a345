-- Between events each open transaction asked for what it waits: the read, or the votes of all parts.
use Rattle.grid_laws.proofs.AnsweredRuns.{answer-reply}
use Rattle.grid_laws.proofs.StoryClaims.{is_untaking}
use Rattle.grid_laws.proofs.RowOuts.{kept-first}
use Rattle.cause_laws.proofs.AdvanceAsks.{AllAsked, IsAsked, asked-later, untaking-asked, self-asked}
use Rattle.cause_laws.proofs.UntakingTurns.{IsTurn, advance-untaking, answered_by, begun_by, untaking_turn, event-turn}
use Rattle.cause_laws.proofs.Events.{Event, run-holds}
use Rattle.grid_laws.proofs.UntakingActs.{untaking-starts}
use Rattle.grid_laws.proofs.DueAnswers.{stage-quiet, story-taken, with_reply}
use Rattle.grid_laws.proofs.DueHomes.{story-began}
use Rattle.grid_laws.proofs.Stages.{Opens, opens-reads}
use Rattle.grid_model.proofs.Undecided.{script-number}
use Rattle.grid_model.specs.Sessions.{floor_at, first_at}
use Rattle.grid_model.specs.Advances.{advance}
use Rattle.grid_model.specs.Documents.{DocumentData, IsOne}
use Rattle.grid_model.specs.Histories.{after, sent, sent_at}
use Rattle.grid_model.specs.Nodes.{script_of, node}
use Rattle.grid_model.specs.Rows.{answer, begin_outs}
use Rattle.grid_model.specs.Runs.{IsRun}
use Rattle.grid_model.specs.Schedules.{kept, next_number, numbered, start_row}
use Rattle.grid_model.specs.Stories.{begun_in, if_told, story, with_value, progressed}
use Rattle.grid_model.specs.Views.{Open, open_of, stage, view, participant}
use Rattle.grid_model.specs.declared.acts.Act.TheVariants as act
use Rattle.grid_model.specs.declared.acts.Act.{Act}
use Rattle.grid_model.specs.declared.events.Out.TheVariants as out
use Rattle.grid_model.specs.declared.messages.Message.TheVariants as message
use Rattle.grid_model.specs.declared.messages.ReadRep.{ReadRep}
use Rattle.grid_model.specs.declared.stories.Story.{Story}
use Rattle.placement.specs.Places.{others}
use Rattle.score_base.specs.declared.ids.Ident.{Ident}
use Rattle.score_base.specs.declared.ids.NodeId.{NodeId}
use Rattle.score_base.specs.declared.ids.TxId.{TxId}
use Rattle.script_lang.specs.Scripts.{ScriptData}
use Rattle.std.proofs.Common.{Bool, List, None, Option, Some, [], arith, false, inl, inr, refl, subst, sym, true, ℕ, ◌∙◌, ◌∷◌, ◌≡◌, ◌≢◌}
use Rattle.std.proofs.lemmas.Bool.Decides.{nat_tests}
use Rattle.std.proofs.lemmas.Bool.{cases_eq}
use Rattle.std.specs.List.{list_all, range_with_len}
use Rattle.std.specs.Prelude.{if◌then◌else◌, ◌==◌}

-- ---- the others

other-story : (d : DocumentData) (past : List Act) (s : ScriptData) (o p : Option Story) (b : Bool) → b ≡ false
    → IsAsked d past s p → IsAsked d past s (if b then o else p)
other-story d past s o p true e h = cc
other-story d past s o p false e h = h

other-if : (d : DocumentData) (past : List Act) (s : ScriptData) (b : Bool) (f : Story → Story) (o : Option Story)
    → b ≡ false → IsAsked d past s o → IsAsked d past s (if_told b f o)
other-if d past s b f None e h = h
other-if d past s true f (Some x) e h = cc
other-if d past s false f (Some x) e h = h

-- what an asker leaves
all-but : (d : DocumentData) (past now acts : List Act) (u : ScriptData) → script_of u.number d.scripts ≡ Some u
    → ((s : ScriptData) → u.number ≢ s.number → script_of s.number d.scripts ≡ Some s
    → IsAsked d now s (story d now s.number)) → list_all is_untaking acts ≡ true
    → IsAsked d (after now acts) u (story d (after now acts) u.number) → AllAsked d (after now acts)
all-but d past now acts u is others calm mine s script = elim (cases_eq u.number s.number) [
  | inl same ↦
      let P : TxId → Type 0 = λ t. script_of t d.scripts ≡ Some u in
      let e : u ≡ s = (let f : Some u ≡ Some s = sym (subst P same is) ∙ script in cc) in
      let Q : ScriptData → Type 0 = λ z. IsAsked d (after now acts) z (story d (after now acts) z.number) in
      subst Q e mine
  | inr other ↦ untaking-asked d now acts s calm (others s other script)
]

-- ---- each event

asked-begin : (d : DocumentData) (past acts : List Act) (u : ScriptData) (b : Bool) → IsOne d
    → script_of u.number d.scripts ≡ Some u → acts ≡ numbered (next_number past) u.home
    (kept b u.home (begin_outs u.home (participant (view d past u.home)) u (floor_at d past u))) → AllAsked d past
    → AllAsked d (after past acts)
asked-begin d past acts u b one is k all =
    let sid0 : Ident = first_at d past u in
    let now : List Act = act.Began u.number u.home sid0 ∷ past in
    let rest : List Act = numbered (next_number past) u.home (kept b u.home (advance d.cluster (open_of u (begun_in d (node d past) u.number sid0)) 0)) in
    let P : List Act → Type 0 = λ z. AllAsked d (after past z) in
    let e : acts ≡ act.Began u.number u.home sid0 ∷ rest = k ∙ began b in
    subst P (sym e) (all-but d past now rest u is
    (λ s other script. other-story d now s (Some (begun_in d (node d past) s.number sid0)) (story d past s.number) (u.number == s.number) (grind (arith, nat_tests, other)) (asked-later d past (act.Began u.number u.home sid0 ∷ []) s (story d past s.number) (all s script)))
    (advance-untaking d.cluster (open_of u (begun_in d (node d past) u.number sid0)) 0 b (next_number past) u.home)
    (self-asked d now (next_number past) u.home b u (begun_in d (node d past) u.number sid0) 0 one (story-began d past u.number u.home sid0)))
  where
    began : (b : Bool) → numbered (next_number past) u.home
        (kept b u.home (begin_outs u.home (participant (view d past u.home)) u (floor_at d past u)))
        ≡ act.Began u.number u.home (first_at d past u) ∷ numbered (next_number past) u.home
        (kept b u.home (advance d.cluster (open_of u (begun_in d (node d past) u.number (first_at d past u))) 0))
    began true = refl
    began false = refl

asked-taken : (d : DocumentData) (past : List Act) (m : ℕ) (n : NodeId) (b : Bool) (q : ReadRep) (o : Open)
    (w : Option ℕ) → IsOne d → Opens d past n q.t o w → AllAsked d past → AllAsked d (after past
    (numbered m n (kept b n (out.Act (act.Taken q.t q.op q.sid q.value) ∷ advance d.cluster (with_reply q o) q.op))))
asked-taken d past m n b q o w one h all =
    let u : ScriptData = h.script in
    let y : Story = progressed (with_value q.op q.sid q.value) h.story in
    let now : List Act = act.Taken q.t q.op q.sid q.value ∷ past in
    let rest : List Act = numbered m n (kept b n (advance d.cluster (open_of u y) q.op)) in
    let number : u.number ≡ q.t = script-number q.t d.scripts u h.at.script in
    let P : TxId → Type 0 = λ t. script_of t d.scripts ≡ Some u in
    let Q : TxId → Type 0 = λ t. story d now t ≡ Some y in
    let S : Open → Type 0 = λ z. AllAsked d (after now (numbered m n (kept b n (advance d.cluster (with_reply q z) q.op)))) in
    let T : List Act → Type 0 = λ acts. AllAsked d (after past acts) in
    let more : AllAsked d (after now rest) = all-but d past now rest u (subst P (sym number) h.at.script) (λ s other script. other-if d now s (q.t == s.number) (progressed (with_value q.op q.sid q.value)) (story d past s.number) (let ne : q.t ≢ s.number = (λ e. other (number ∙ e)) in grind (arith, nat_tests, ne)) (asked-later d past (act.Taken q.t q.op q.sid q.value ∷ []) s (story d past s.number) (all s script))) (advance-untaking d.cluster (open_of u y) q.op b m n) (self-asked d now m n b u y q.op one (subst Q (sym number) (story-taken d past q h.story h.at.story))) in
    subst T (sym (kept-first m n b (act.Taken q.t q.op q.sid q.value) (advance d.cluster (with_reply q o) q.op) refl))
    (subst S (sym h.is) more)

asked-answered : (d : DocumentData) (past acts : List Act) (k : ℕ) (n x : NodeId) (q : ReadRep) (b : Bool) → IsOne d
    → sent_at k (sent past) ≡ Some (record { from = x; to = n; message = message.ReadRep q })
    → acts ≡ act.Got k ∷ numbered (next_number past) n (kept b n (answer n (view d past n) x (message.ReadRep q)))
    → AllAsked d past → AllAsked d (after past acts)
asked-answered d past acts k n x q b one is e all =
    let now : List Act = act.Got k ∷ past in
    let same : stage (view d now n) q.t ≡ stage (view d past n) q.t = stage-quiet d past k x n (message.ReadRep q) q.t is refl in
    let here : AllAsked d now = (λ s script. untaking-asked d past (act.Got k ∷ []) s refl (all s script)) in
    let P : List Act → Type 0 = λ z. AllAsked d (after past z) in
    subst P (sym e)
    (answer-reply (λ z. AllAsked d (after now z)) (next_number past) n x b (view d past n) q here
    (λ y reads. asked-taken d now (next_number past) n b q y (Some q.op) one (opens-reads d now n q.t y q.op (same ∙ reads)) here))

asked-event : (d : DocumentData) (past acts : List Act) → IsOne d → Event d past acts → AllAsked d past
    → AllAsked d (after past acts)
asked-event d past acts one event all = go (event-turn d past acts event.is)
  where
    go : IsTurn d past acts → AllAsked d (after past acts)
    go (untaking_turn h) = λ s script. untaking-asked d past acts s h (all s script)
    go (begun_by u b is up k) = asked-begin d past acts u b one is k all
    go (answered_by m n x q b is k) = asked-answered d past acts m n x q b one is k all

-- at the end of a run
pub all-asked : (d : DocumentData) (h : List Act) → IsOne d → IsRun d d.items h → AllAsked d (after [] h)
all-asked d h one run =
    run-holds d (AllAsked d)
    (λ ups s script. untaking-asked d [] (start_row d.cluster.nodes ups) s (untaking-starts ups (range_with_len 1 d.cluster.nodes)) tt)
    (λ past acts event all. asked-event d past acts one event all)
    h one run
