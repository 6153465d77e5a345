-- Each event leaves the read-only transactions whose reads all have their values answered.
use Rattle.std.proofs.lemmas.Bool.{eqb-true}
use Rattle.placement.specs.Clusters.{ClusterData}
use Rattle.grid_laws.proofs.StoryClaims.{is_untaking}
use Rattle.std.proofs.Common.{◌≡◌, ℕ, Bool, true, false, List, [], ◌∷◌, Option, Some, None, refl, sym, ap, subst, ◌∙◌, arith}
use Rattle.std.specs.Prelude.{◌==◌, if◌then◌else◌}
use Rattle.score_base.specs.declared.ids.TxId.{TxId}
use Rattle.score_base.specs.declared.ids.NodeId.{NodeId}
use Rattle.score_base.specs.declared.ids.Ident.{Ident}
use Rattle.script_lang.specs.Scripts.{ScriptData}
use Rattle.grid_model.specs.declared.acts.Act.{Act}
use Rattle.grid_model.specs.declared.acts.Act.TheVariants as act
use Rattle.grid_model.specs.declared.acts.Flag.{Flag}
use Rattle.grid_model.specs.declared.events.Out.TheVariants as out
use Rattle.grid_model.specs.declared.items.Item.{Item}
use Rattle.grid_model.specs.declared.messages.Message.{Message}
use Rattle.grid_model.specs.declared.messages.Message.TheVariants as message
use Rattle.grid_model.specs.declared.messages.ReadRep.{ReadRep}
use Rattle.grid_model.specs.Sessions.{floor_at, first_at}
use Rattle.grid_model.specs.Documents.{DocumentData, number_order, script_numbers}
use Rattle.grid_model.specs.Histories.{after, sent, sent_at}
use Rattle.grid_model.specs.Nodes.{node, script_of}
use Rattle.grid_model.specs.Stories.{begun_in, story, with_value, progressed}
use Rattle.grid_model.specs.Views.{view, stage, Stage, View, Open, Reads, open_of, participant}
use Rattle.grid_model.specs.Advances.{advance}
use Rattle.grid_model.specs.Fitness.{is_fit_at}
use Rattle.grid_model.specs.Rows.{answer, begin_outs, reply_outs}
use Rattle.grid_model.specs.Disks.{is_compacting}
use Rattle.grid_model.specs.Schedules.{Choice, acts_of, flag_at, kept, next_number, numbered, opened_row, row}
use Rattle.grid_model.proofs.Undecided.{script-number}
use Rattle.grid_model.proofs.EventShapes.{Shape, idle, arms, crashes, restarts, begins, delivers, again, acts_by, by-shape}
use Rattle.grid_laws.proofs.Stages.{Opens, opens-reads}
use Rattle.grid_laws.proofs.DueHomes.{story-began, ReadersAnswered}
use Rattle.grid_laws.proofs.DueAnswers.{story-taken, with_reply, stage-quiet}
use Rattle.grid_laws.proofs.Answered.{is_told, untaking-all, untaking-told, other-told, other-taken, AllTold, OthersTold}
use Rattle.grid_laws.proofs.AnsweredRows.{told-advance}
use Rattle.grid_laws.proofs.RowOuts.{is_reply, pass-again, kept-first, if-outs, kept-none}
use Rattle.grid_laws.proofs.UntakingActs.{untaking-acts, untaking-answer, untaking-idle, untaking-losses}

-- ---- a reply

others-taken : (d : DocumentData) (past : List Act) (q : ReadRep) → AllTold d past
    → OthersTold d (act.Taken q.t q.op q.sid q.value ∷ past) q.t
others-taken d past q all t s other e = other-taken s d past q.t t q.op q.sid q.value other (all t s e)

told-taken : (d : DocumentData) (past : List Act) (m : ℕ) (n : NodeId) (b : Bool) (q : ReadRep) (x : Open)
    (w : Option ℕ) → Opens d past n q.t x w → AllTold d past → AllTold d (after past
    (numbered m n (kept b n (out.Act (act.Taken q.t q.op q.sid q.value) ∷ advance d.cluster (with_reply q x) q.op))))
told-taken d past m n b q x w o all =
    let now : List Act = act.Taken q.t q.op q.sid q.value ∷ past in
    let number : o.script.number ≡ q.t = script-number q.t d.scripts o.script o.at.script in
    let at : story d now q.t ≡ Some (progressed (with_value q.op q.sid q.value) o.story) = story-taken d past q o.story o.at.story in
    let P : TxId → Type 0 = λ u. script_of u d.scripts ≡ Some o.script in
    let Q : TxId → Type 0 = λ u. story d now u ≡ Some (progressed (with_value q.op q.sid q.value) o.story) in
    let R : TxId → Type 0 = λ u. OthersTold d now u in
    let S : Open → Type 0 = λ z. AllTold d (after now (numbered m n (kept b n (advance d.cluster (with_reply q z) q.op)))) in
    let T : List Act → Type 0 = λ acts. AllTold d (after past acts) in
    subst T (sym (kept-first m n b (act.Taken q.t q.op q.sid q.value) (advance d.cluster (with_reply q x) q.op) refl))
    (subst S (sym o.is) (told-advance d now m n b o.script (progressed (with_value q.op q.sid q.value) o.story) q.op (subst P (sym number) o.at.script) (subst Q (sym number) at) (subst R (sym number) (others-taken d past q all))))

reply-outs : (P : List Act → Type 0) (c : ClusterData) (m : ℕ) (n : NodeId) (b : Bool) (q : ReadRep) (g : Stage) → P []
    → ((x : Open) → g ≡ Reads x q.op
    → P (numbered m n (kept b n (out.Act (act.Taken q.t q.op q.sid q.value) ∷ advance c (with_reply q x) q.op))))
    → P (numbered m n (kept b n (reply_outs c q g)))
reply-outs P c m n b q (Reads x j) none go =
    if-outs P m n b (j == q.op) (out.Act (act.Taken q.t q.op q.sid q.value) ∷ advance c (with_reply q x) q.op) none
    (λ same. go x (ap (Reads x) (eqb-true j q.op same)))
reply-outs P c m n b q g none go = rw (kept-none m n b) none

-- a reply that is got is taken where it was waited for, and else nothing is given
pub answer-reply : (P : List Act → Type 0) (m : ℕ) (n x : NodeId) (b : Bool) (v : View) (q : ReadRep) → P []
    → ((y : Open) → stage v q.t ≡ Reads y q.op → P (numbered m n
    (kept b n (out.Act (act.Taken q.t q.op q.sid q.value) ∷ advance v.cluster (with_reply q y) q.op))))
    → P (numbered m n (kept b n (answer n v x (message.ReadRep q))))
answer-reply P m n x b v q none go =
    if-outs P m n b (is_fit_at n (participant v) (stage v q.t) x (message.ReadRep q))
    (reply_outs v.cluster q (stage v q.t)) none
    (λ fit. reply-outs P v.cluster m n b q (stage v q.t) none go)

told-answer : (d : DocumentData) (past : List Act) (k m : ℕ) (n x : NodeId) (b : Bool) (said : Message) (c : Bool)
    → is_reply said ≡ c → sent_at k (sent past) ≡ Some (record { from = x; to = n; message = said })
    → AllTold d (act.Got k ∷ past)
    → AllTold d (after (act.Got k ∷ past) (numbered m n (kept b n (answer n (view d past n) x said))))
told-answer d past k m n x b (message.ReadRep q) c quiet is all =
    let now : List Act = act.Got k ∷ past in
    let same : stage (view d now n) q.t ≡ stage (view d past n) q.t = stage-quiet d past k x n (message.ReadRep q) q.t is refl in
    answer-reply (λ acts. AllTold d (after now acts)) m n x b (view d past n) q all
    (λ y reads. told-taken d now m n b q y (Some q.op) (opens-reads d now n q.t y q.op (same ∙ reads)) all)
told-answer d past k m n x b said true quiet is all = cc
told-answer d past k m n x b said false quiet is all =
    untaking-all d (act.Got k ∷ past) (numbered m n (kept b n (answer n (view d past n) x said)))
    (untaking-acts m n b (answer n (view d past n) x said) (untaking-answer n (view d past n) x said quiet)) all

-- ---- a begin

told-begin : (d : DocumentData) (past : List Act) (m : ℕ) (b : Bool) (s : ScriptData)
    → script_of s.number d.scripts ≡ Some s → AllTold d past → AllTold d (after past
    (numbered m s.home (kept b s.home (begin_outs s.home (participant (view d past s.home)) s (floor_at d past s)))))
told-begin d past m b s is all =
    let sid0 : Ident = first_at d past s in
    let now : List Act = act.Began s.number s.home sid0 ∷ past in
    let T : List Act → Type 0 = λ acts. AllTold d (after past acts) in
    subst T
    (sym (kept-first m s.home b (act.Began s.number s.home sid0) (advance d.cluster (open_of s (begun_in d (node d past) s.number sid0)) 0) refl))
    (told-advance d now m s.home b s (begun_in d (node d past) s.number sid0) 0 is (story-began d past s.number s.home sid0) (λ t w other e. other-told w d past (act.Void 0) s.number t s.home sid0 other (all t w e)))

-- ---- the shapes of an event

told-restart : (d : DocumentData) (past : List Act) (n : NodeId) (f : Flag) (opens : Bool) → AllTold d past
    → AllTold d (after past (if opens then opened_row d past n f else act.StillDown n ∷ []))
told-restart d past n f true all =
    untaking-all d past (opened_row d past n f)
    (untaking-losses d (act.Up n f ∷ past) n (number_order (script_numbers d.scripts))) all
told-restart d past n f false all = all

told-shape : (d : DocumentData) (past : List Act) (i : Item) (c : Choice) → AllTold d past → (s : Shape d past i)
    → AllTold d (after past (acts_by d past i c s))
told-shape d past i c all (idle acts is) = untaking-all d past acts (untaking-idle acts is) all
told-shape d past i c all (arms n k how is) = all
told-shape d past i c all (crashes n up) = λ t s e. untaking-told s d past (act.Down n None) t refl (all t s e)
told-shape d past i c all (restarts n up) =
    told-restart d past n (flag_at (is_compacting past n) (node d past n).doubt c.finds) c.opens all
told-shape d past i c all (begins s is new up quiet) = told-begin d past (next_number past) c.keeps s is all
told-shape d past i c all (delivers m e is up) =
    told-answer d past m (next_number past) e.to e.from c.keeps e.message (is_reply e.message) refl is
    (λ t s f. untaking-told s d past (act.Got m) t refl (all t s f))
told-shape d past i c all (again n os up is) =
    untaking-all d past (acts_of past c n os)
    (untaking-acts (next_number past) n c.keeps os (pass-again is_untaking (λ m. refl) d past n os is)) all

-- an event leaves all told
pub told-row : (d : DocumentData) (past : List Act) (e : Item) (c : Choice) → AllTold d past
    → AllTold d (after past (row d past e c))
told-row d past e c all = by-shape d past e c (λ acts. AllTold d (after past acts)) (told-shape d past e c all)

pub answered-told : (d : DocumentData) (past : List Act) → AllTold d past → ReadersAnswered d past
answered-told d past all t s x is at full reads = told (all t s is)
  where
    told : is_told s (story d past t) ≡ true → x.finished ≡ true
    told h = grind (arith, at, full, reads, h)
