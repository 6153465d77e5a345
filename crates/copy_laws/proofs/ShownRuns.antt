-- Between events each transaction was shown what its script reads by the values that it took.
use Rattle.grid_laws.proofs.AnsweredRuns.{answer-reply}
use Rattle.grid_laws.proofs.DueActs.{due-before}
use Rattle.std.proofs.Common.{◌≡◌, ℕ, Bool, true, false, List, [], ◌∷◌, ◌++◌, Option, Some, None, refl, sym, ap, subst, ◌∙◌}
use Rattle.std.proofs.lemmas.List.{append_assoc}
use Rattle.std.specs.Prelude.{filter, nat_lt, if◌then◌else◌}
use Rattle.std.specs.List.{flat_map, list_all, range_with_len}
use Rattle.score_base.specs.declared.ids.TxId.{TxId}
use Rattle.score_base.specs.declared.ids.NodeId.{NodeId}
use Rattle.score_base.specs.declared.ids.Ident.{Ident}
use Rattle.score_base.specs.declared.ids.Value.{Value}
use Rattle.script_lang.specs.Scripts.{ScriptData}
use Rattle.grid_model.specs.declared.acts.Act.{Act}
use Rattle.grid_model.specs.declared.acts.Act.TheVariants as act
use Rattle.grid_model.specs.declared.acts.Flag.{Flag}
use Rattle.grid_model.specs.declared.events.Out.{Out}
use Rattle.grid_model.specs.declared.events.Out.TheVariants as out
use Rattle.grid_model.specs.declared.items.Item.{Item}
use Rattle.grid_model.specs.declared.messages.Message.{Message}
use Rattle.grid_model.specs.declared.messages.Message.TheVariants as message
use Rattle.grid_model.specs.declared.messages.ReadRep.{ReadRep}
use Rattle.grid_model.specs.declared.stories.Story.{Story}
use Rattle.grid_model.specs.Sessions.{floor_at, first_at}
use Rattle.grid_model.specs.Documents.{DocumentData, number_order, script_numbers}
use Rattle.grid_model.specs.Histories.{after, sent, sent_at}
use Rattle.grid_model.specs.Nodes.{node, script_of}
use Rattle.grid_model.specs.Stories.{begun_in, story, with_value, progressed}
use Rattle.script_runs.specs.Waits.{waiting}
use Rattle.grid_model.specs.Views.{view, stage, Open, open_of, participant}
use Rattle.grid_model.specs.Advances.{advance}
use Rattle.script_runs.specs.Walks.{own_reads, unread}
use Rattle.grid_model.specs.Rows.{answer, begin_outs}
use Rattle.grid_model.specs.Disks.{is_compacting}
use Rattle.grid_model.specs.Schedules.{Choice, acts_of, events_in, flag_at, kept, next_number, numbered, opened_row, row, start_row}
use Rattle.grid_model.specs.Runs.{Rows, IsRun}
use Rattle.grid_model.specs.Copies.{shown}
use Rattle.grid_model.proofs.Undecided.{script-number}
use Rattle.grid_model.proofs.EventShapes.{Shape, idle, arms, crashes, restarts, begins, delivers, again, acts_by, by-shape, idle-pass}
use Rattle.script_runs.proofs.AllReads.{reads_by, first-reads, reads-next}
use Rattle.grid_laws.proofs.Causes.{AllDue}
use Rattle.grid_laws.proofs.Frames.{same-number}
use Rattle.grid_laws.proofs.Stages.{Opens, opens-reads}
use Rattle.grid_laws.proofs.DueHomes.{story-began}
use Rattle.grid_model.proofs.EventShapes.{after-append}
use Rattle.grid_laws.proofs.DueAnswers.{story-taken, with_reply, stage-quiet}
use Rattle.grid_laws.proofs.RunsDue.{due-run}
use Rattle.grid_laws.proofs.RowOuts.{Pass, is_reply, pass-acts, pass-again, pass-answer, pass-losses, pass-starts, kept-first}
use Rattle.copy_laws.proofs.ShownSteps.{AllShown, OthersShown, Says, ShownBy, other-began, other-took, is_unshowing, row-unshowing, unshowing-all, unshowing-by, story-order, story_reads}
use Rattle.copy_laws.proofs.ShownRows.{shown-advance}

-- ---- acts that begin, take and show nothing

unshowing-acts : (m : ℕ) (n : NodeId) (b : Bool) (os : List Out) → Pass is_unshowing os
    → list_all is_unshowing (numbered m n (kept b n os)) ≡ true
unshowing-acts m n b os h = pass-acts is_unshowing n (λ k y said. refl) (λ x. refl) m b os h

-- ---- a reply

taken-shown : (past : List Act) (t : TxId) (op : ℕ) (sid : Ident) (v : Value)
    → shown (act.Taken t op sid v ∷ past) t ≡ shown past t ++ (op, v) ∷ []
taken-shown past t op sid v = rw (same-number t) refl

others-took : (d : DocumentData) (past : List Act) (q : ReadRep) → AllShown d past
    → OthersShown d (act.Taken q.t q.op q.sid q.value ∷ past) q.t
others-took d past q all t s other e = other-took d past q.t t q.op q.sid q.value s other (all t s e)

-- the reply that was waited for is shown, and the own reads behind it are left
left-behind : (d : DocumentData) (past : List Act) (q : ReadRep) (s : ScriptData) (x : Story) → AllDue d past
    → script_of q.t d.scripts ≡ Some s → story d past q.t ≡ Some x → waiting s.ops x.progress.values ≡ Some q.op
    → ShownBy d past q.t s → shown (act.Taken q.t q.op q.sid q.value ∷ past) q.t
    ++ filter (λ y. nat_lt q.op y.0) (own_reads 1 [] unread (x.progress.values ++ (q.op, q.value) ∷ []) s.ops)
    ≡ reads_by (x.progress.values ++ (q.op, q.value) ∷ []) s.ops
left-behind d past q s x due is at reads mine =
    let order = story-order d past q.t s x due is at in
    let P : Option Story → Type 0 = λ o. Says s (shown past q.t) o in
    let before : shown past q.t ≡ reads_by x.progress.values s.ops = subst P at mine in
    let owns : List (ℕ × Value) = filter (λ y. nat_lt q.op y.0) (own_reads 1 [] unread (x.progress.values ++ (q.op, q.value) ∷ []) s.ops) in
    ap (λ zs. zs ++ owns) (taken-shown past q.t q.op q.sid q.value)
    ∙ append_assoc (shown past q.t) ((q.op, q.value) ∷ []) owns
    ∙ ap (λ zs. zs ++ ((q.op, q.value) ∷ owns)) before
    ∙ sym (reads-next q.op q.value x.progress.values order.0 s.ops order.1 reads)

shown-taken : (d : DocumentData) (past : List Act) (m : ℕ) (n : NodeId) (b : Bool) (q : ReadRep) (x : Open)
    → Opens d past n q.t x (Some q.op) → AllDue d past → AllShown d past → AllShown d (after past
    (numbered m n (kept b n (out.Act (act.Taken q.t q.op q.sid q.value) ∷ advance d.cluster (with_reply q x) q.op))))
shown-taken d past m n b q x o due all =
    let now : List Act = act.Taken q.t q.op q.sid q.value ∷ past in
    let y : Story = progressed (with_value q.op q.sid q.value) o.story in
    let number : o.script.number ≡ q.t = script-number q.t d.scripts o.script o.at.script in
    let at : story d now q.t ≡ Some y = story-taken d past q o.story o.at.story in
    let left = left-behind d past q o.script o.story due o.at.script o.at.story o.reads (all q.t o.script o.at.script) in
    let P : TxId → Type 0 = λ u. script_of u d.scripts ≡ Some o.script in
    let Q : TxId → Type 0 = λ u. story d now u ≡ Some y in
    let L : TxId → Type 0 = λ u. shown now u ++ filter (λ z. nat_lt q.op z.0) (own_reads 1 [] unread y.progress.values o.script.ops) ≡ reads_by y.progress.values o.script.ops in
    let R : TxId → Type 0 = λ u. OthersShown d now u in
    let S : Open → Type 0 = λ z. AllShown d (after now (numbered m n (kept b n (advance d.cluster (with_reply q z) q.op)))) in
    let T : List Act → Type 0 = λ acts. AllShown d (after past acts) in
    subst T (sym (kept-first m n b (act.Taken q.t q.op q.sid q.value) (advance d.cluster (with_reply q x) q.op) refl))
    (subst S (sym o.is) (shown-advance d now m n b o.script y q.op (subst P (sym number) o.at.script) (subst Q (sym number) at) (subst L (sym number) left) (subst R (sym number) (others-took d past q all))))

shown-answer : (d : DocumentData) (past : List Act) (k m : ℕ) (n x : NodeId) (b : Bool) (said : Message) (c : Bool)
    → is_reply said ≡ c → sent_at k (sent past) ≡ Some (record { from = x; to = n; message = said })
    → AllDue d (act.Got k ∷ past) → AllShown d (act.Got k ∷ past)
    → AllShown d (after (act.Got k ∷ past) (numbered m n (kept b n (answer n (view d past n) x said))))
shown-answer d past k m n x b (message.ReadRep q) c quiet is due all =
    let now : List Act = act.Got k ∷ past in
    let same : stage (view d now n) q.t ≡ stage (view d past n) q.t = stage-quiet d past k x n (message.ReadRep q) q.t is refl in
    answer-reply (λ acts. AllShown d (after now acts)) m n x b (view d past n) q all
    (λ y reads. shown-taken d now m n b q y (opens-reads d now n q.t y q.op (same ∙ reads)) due all)
shown-answer d past k m n x b said true quiet is due all = cc
shown-answer d past k m n x b said false quiet is due all = unshowing-all d (act.Got k ∷ past) (numbered m n (kept b n (answer n (view d past n) x said))) (unshowing-acts m n b (answer n (view d past n) x said) (pass-answer is_unshowing n (view d past n) x said (row-unshowing n said quiet))) all

-- ---- a begin

shown-begin : (d : DocumentData) (past : List Act) (m : ℕ) (b : Bool) (s : ScriptData)
    → script_of s.number d.scripts ≡ Some s → story d past s.number ≡ None → AllShown d past → AllShown d (after past
    (numbered m s.home (kept b s.home (begin_outs s.home (participant (view d past s.home)) s (floor_at d past s)))))
shown-begin d past m b s is new all =
    let sid0 : Ident = first_at d past s in
    let now : List Act = act.Began s.number s.home sid0 ∷ past in
    let P : Option Story → Type 0 = λ o. Says s (shown past s.number) o in
    let none : shown past s.number ≡ [] = subst P new (all s.number s is) in
    let owns : List (ℕ × Value) = filter (λ y. nat_lt 0 y.0) (own_reads 1 [] unread [] s.ops) in
    let left : shown now s.number ++ owns ≡ reads_by [] s.ops = ap (λ zs. zs ++ owns) none ∙ sym (first-reads s.ops) in
    let T : List Act → Type 0 = λ acts. AllShown d (after past acts) in
    subst T
    (sym (kept-first m s.home b (act.Began s.number s.home sid0) (advance d.cluster (open_of s (begun_in d (node d past) s.number sid0)) 0) refl))
    (shown-advance d now m s.home b s (begun_in d (node d past) s.number sid0) 0 is (story-began d past s.number s.home sid0) left (λ t w other e. other-began d past s.number t s.home sid0 w other (all t w e)))

-- ---- the shapes of an event

unshowing-restart : (d : DocumentData) (past : List Act) (n : NodeId) (f : Flag) (opens : Bool)
    → list_all is_unshowing (if opens then opened_row d past n f else act.StillDown n ∷ []) ≡ true
unshowing-restart d past n f true =
    pass-losses is_unshowing d (act.Up n f ∷ past) n (number_order (script_numbers d.scripts)) (λ t. refl)
unshowing-restart d past n f false = refl

shown-shape : (d : DocumentData) (past : List Act) (i : Item) (c : Choice) → AllDue d past → AllShown d past
    → (s : Shape d past i) → AllShown d (after past (acts_by d past i c s))
shown-shape d past i c due all (idle acts is) =
    unshowing-all d past acts (idle-pass is_unshowing (λ code. refl) (λ m. refl) (λ m. refl) acts is) all
shown-shape d past i c due all (arms n k how is) = unshowing-all d past (act.Armed n k how ∷ []) refl all
shown-shape d past i c due all (crashes n up) = unshowing-all d past (act.Down n None ∷ []) refl all
shown-shape d past i c due all (restarts n up) =
    let f : Flag = flag_at (is_compacting past n) (node d past n).doubt c.finds in
    unshowing-all d past (if c.opens then opened_row d past n f else act.StillDown n ∷ [])
    (unshowing-restart d past n f c.opens) all
shown-shape d past i c due all (begins s is new up quiet) = shown-begin d past (next_number past) c.keeps s is new all
shown-shape d past i c due all (delivers m e is up) =
    shown-answer d past m (next_number past) e.to e.from c.keeps e.message (is_reply e.message) refl is
    ((e, is, up), due) (λ t s f. unshowing-by d past (act.Got m) t s refl (all t s f))
shown-shape d past i c due all (again n os up is) =
    unshowing-all d past (acts_of past c n os)
    (unshowing-acts (next_number past) n c.keeps os (pass-again is_unshowing (λ m. refl) d past n os is)) all

-- an event leaves each transaction shown its reads
shown-row : (d : DocumentData) (past : List Act) (e : Item) (c : Choice) → AllDue d past → AllShown d past
    → AllShown d (after past (row d past e c))
shown-row d past e c due all = by-shape d past e c (λ acts. AllShown d (after past acts)) (shown-shape d past e c due all)

-- ---- a run

shown-rows : (d : DocumentData) (past : List Act) (es : List Item) (h : List Act) → AllDue d (after past h)
    → AllShown d past → Rows d past es h → AllShown d (after past h)
unfolding Rows
shown-rows d past [] h due all rows = rw rows all
shown-rows d past (e ∷ es) h due all rows =
    let acts : List Act = row d past e rows.0 in
    let D : List Act → Type 0 = λ p. AllDue d p in
    let whole : after past h ≡ after (after past acts) rows.1 = ap (after past) rows.2 ∙ after-append past acts rows.1 in
    let now : AllShown d (after past acts) = shown-row d past e rows.0 (due-before d past h due) all in
    let more : AllShown d (after (after past acts) rows.1) = shown-rows d (after past acts) es rows.1 (subst D whole due) now rows.3 in
    let P : List Act → Type 0 = λ p. AllShown d p in
    subst P (sym whole) more

all-shown : (d : DocumentData) (items : List Item) (h : List Act) → IsRun d items h → AllShown d (after [] h)
all-shown d items h run =
    let first : List Act = start_row d.cluster.nodes run.opens in
    let whole : after [] h ≡ after (after [] first) run.rest = ap (after []) run.start ∙ after-append [] first run.rest in
    let D : List Act → Type 0 = λ p. AllDue d p in
    let now : AllShown d (after [] first) = unshowing-all d [] first (pass-starts is_unshowing run.opens (range_with_len 1 d.cluster.nodes) (λ n. refl) (λ n. refl)) (λ t s e. refl) in
    let more : AllShown d (after (after [] first) run.rest) = shown-rows d (after [] first) (flat_map events_in items) run.rest (subst D whole (due-run d items h run)) now run.rows in
    let P : List Act → Type 0 = λ p. AllShown d p in
    subst P (sym whole) more

-- what a transaction was shown, between events, is what its script reads by the values taken
pub shown-reads : (d : DocumentData) (h : List Act) → IsRun d d.items h → (t : TxId) (s : ScriptData)
    → script_of t d.scripts ≡ Some s → shown (after [] h) t ≡ story_reads s (story d (after [] h) t)
shown-reads d h run t s is = all-shown d d.items h run t s is
