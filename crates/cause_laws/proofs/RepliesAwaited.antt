-- Who is answered reads the operation that the reply names, or has its value.
use Rattle.grid_laws.proofs.DueActs.{due-before}
use Rattle.cause_laws.proofs.HeldClaims.{reply-hold}
use Rattle.grid_laws.proofs.Causes.{AllDue, RequestDue, Requested, SendDue, TakenDue}
use Rattle.grid_laws.proofs.Holds.{got-hold, sent-hold}
use Rattle.grid_laws.proofs.Snapshots.{OfStory, of-more}
use Rattle.script_runs.proofs.Walks.{taken-new, taken-stays, waiting-open}
use Rattle.grid_model.specs.Documents.{DocumentData}
use Rattle.grid_model.specs.Histories.{after, sent, sent_at}
use Rattle.grid_model.specs.Nodes.{script_of}
use Rattle.grid_model.specs.Stories.{asked, story}
use Rattle.script_runs.specs.Waits.{value_taken, waiting}
use Rattle.grid_model.specs.declared.acts.Act.{Act}
use Rattle.grid_model.specs.declared.messages.Message.TheVariants as message
use Rattle.grid_model.specs.declared.messages.Message.{Message}
use Rattle.grid_model.specs.declared.messages.ReadRep.{ReadRep}
use Rattle.grid_model.specs.declared.messages.ReadReq.{ReadReq}
use Rattle.grid_model.specs.declared.stories.HeldRead.{HeldRead}
use Rattle.grid_model.specs.declared.stories.Story.{Story}
use Rattle.score_base.specs.declared.ids.Ident.{Ident}
use Rattle.score_base.specs.declared.ids.NodeId.{NodeId}
use Rattle.score_base.specs.declared.ids.TxId.{TxId}
use Rattle.score_base.specs.declared.ids.Value.{Value}
use Rattle.script_lang.specs.Scripts.{ScriptData}
use Rattle.std.proofs.Common.{List, None, Option, Some, [], ap, inl, inr, refl, subst, sym, true, ℕ, ◌++◌, ◌∙◌, ◌∷◌, ◌≡◌, ◌⊎◌}
use Rattle.std.specs.Prelude.{is_some}

-- ---- values

-- a value of operation j was taken by t
abbrev pub HasTaken : DocumentData → List Act → TxId → ℕ → Type 0
HasTaken d past t j = OfStory ⊥ (λ o values. is_some (value_taken j values) ≡ true) (story d past t)

some-stays : (j op : ℕ) (v : Value) (values : List (ℕ × Value)) → is_some (value_taken j values) ≡ true
    → is_some (value_taken j (values ++ (op, v) ∷ [])) ≡ true
some-stays j op v values h = go (value_taken j values) refl h
  where
    go : (o : Option Value) → value_taken j values ≡ o → is_some o ≡ true
        → is_some (value_taken j (values ++ (op, v) ∷ [])) ≡ true
    go None e h = cc
    go (Some u) e h = rw (taken-stays j u values ((op, v) ∷ []) e) refl

taken-more : (d : DocumentData) (past : List Act) (a : Act) (t : TxId) (j : ℕ) → AllDue d (a ∷ past)
    → HasTaken d past t j → HasTaken d (a ∷ past) t j
taken-more d past a t j due k = of-more ⊥ (λ o values. is_some (value_taken j values) ≡ true) d past a t (λ n. absurd n) (λ op sid v w h. some-stays j op v w.story.progress.values h) due k

pub taken-later : (d : DocumentData) (past acts : List Act) (t : TxId) (j : ℕ) → AllDue d (after past acts)
    → HasTaken d past t j → HasTaken d (after past acts) t j
taken-later d past [] t j due k = k
taken-later d past (a ∷ acts) t j due k = taken-later d (a ∷ past) acts t j due (taken-more d past a t j (due-before d (a ∷ past) acts due) k)

-- ---- t came to operation j

abbrev CameTo : DocumentData → List Act → TxId → ScriptData → ℕ → Type 0
CameTo d past t s j =
    OfStory ⊥ (λ o values. (is_some (value_taken j values) ≡ true) ⊎ (waiting s.ops values ≡ Some j)) (story d past t)

-- t came to operation j: it reads it, or has its value
pub record Came (d : DocumentData) (past : List Act) (t : TxId) (j : ℕ) : Type 0 where
  pub script : ScriptData
  pub is : script_of t d.scripts ≡ Some script
  pub to : CameTo d past t script j

came-on : (d : DocumentData) (past : List Act) (t : TxId) (s : ScriptData) (j op : ℕ) (sid : Ident) (v : Value)
    → script_of t d.scripts ≡ Some s → (w : TakenDue d past t op sid v)
    → (is_some (value_taken j w.story.progress.values) ≡ true) ⊎ (waiting s.ops w.story.progress.values ≡ Some j)
    → (is_some (value_taken j (w.story.progress.values ++ (op, v) ∷ [])) ≡ true)
    ⊎ (waiting s.ops (w.story.progress.values ++ (op, v) ∷ []) ≡ Some j)
came-on d past t s j op sid v is w (inl taken) = inl (some-stays j op v w.story.progress.values taken)
came-on d past t s j op sid v is w (inr reads) =
    let same : s ≡ w.script = equal-script s w.script (sym is ∙ w.at.script) in
    let there : waiting w.script.ops w.story.progress.values ≡ Some j = ap (λ (z : ScriptData). waiting z.ops w.story.progress.values) (sym same) ∙ reads in
    let number : op ≡ j = equal-some op j (sym w.reads ∙ there) in
    let P : ℕ → Type 0 = λ i. is_some (value_taken i (w.story.progress.values ++ (op, v) ∷ [])) ≡ true in
    let none : value_taken op w.story.progress.values ≡ None = (waiting-open 1 op [] w.story.progress.values w.script.ops w.reads).untaken in
    inl (subst P number (rw (taken-new op v w.story.progress.values none) refl))
  where
    equal-script : (y z : ScriptData) → Some y ≡ Some z → y ≡ z
    equal-script y z e = cc

    equal-some : (a b : ℕ) → Some a ≡ Some b → a ≡ b
    equal-some a b e = cc

came-more : (d : DocumentData) (past : List Act) (a : Act) (t : TxId) (j : ℕ) → AllDue d (a ∷ past) → Came d past t j
    → Came d (a ∷ past) t j
came-more d past a t j due k =
    record {
      script = k.script;
      is = k.is;
      to = of-more ⊥ (λ o values. (is_some (value_taken j values) ≡ true) ⊎ (waiting k.script.ops values ≡ Some j)) d past a t (λ n. absurd n) (λ op sid v w h. came-on d past t k.script j op sid v k.is w h) due k.to;
    }

-- ---- requests and replies

request-came : (d : DocumentData) (past : List Act) (n y : NodeId) (q : ReadReq) → RequestDue d past n y q
    → Came d past q.t q.op
request-came d past n y q due =
    let P : Option Story → Type 0 = λ o. OfStory ⊥ (λ i values. (is_some (value_taken q.op values) ≡ true) ⊎ (waiting due.script.ops values ≡ Some q.op)) o in
    record { script = due.script; is = due.at.script; to = subst P (sym due.at.story) (inr due.reads) }

-- t came to the operation that a message names, where it names one
abbrev NamedCame : DocumentData → List Act → Option (TxId × ℕ) → Type 0
NamedCame d past (Some w) = Came d past w.0 w.1
NamedCame d past None = Unit {0}

named-more : (d : DocumentData) (past : List Act) (a : Act) (w : Option (TxId × ℕ)) → AllDue d (a ∷ past)
    → NamedCame d past w → NamedCame d (a ∷ past) w
named-more d past a (Some w) due h = came-more d past a w.0 w.1 due h
named-more d past a None due h = tt

-- what a request names
abbrev requested : Message → Option (TxId × ℕ)
requested (message.ReadReq q) = Some (q.t, q.op)
requested said = None

requests-due : (d : DocumentData) (past : List Act) (n y : NodeId) (said : Message) → SendDue d past n y said
    → NamedCame d past (requested said)
requests-due d past n y (message.ReadReq q) due = request-came d past n y q due
requests-due d past n y said due = tt

requested-came : (d : DocumentData) (past : List Act) (n : NodeId) (h : HeldRead) → AllDue d past → Requested d past n h
    → Came d past h.t h.op
requested-came d past n h due asked =
    let q : ReadReq = asked.request in
    let all : Came d past q.t q.op = got-hold (λ now n y said. NamedCame d now (requested said)) d past (λ now a n y said all h. named-more d now a (requested said) all h) (λ now n y said all h. requests-due d now n y said h) due (record { from = h.from; to = n; message = message.ReadReq q }) asked.got in
    let P : TxId → Type 0 = λ z. Came d past z h.op in
    let Q : ℕ → Type 0 = λ z. Came d past q.t z in
    subst P (sym asked.t) (subst Q (sym asked.op) all)

-- what a reply names
abbrev replied : Message → Option (TxId × ℕ)
replied (message.ReadRep q) = Some (q.t, q.op)
replied said = None

replies-due : (d : DocumentData) (past : List Act) (n y : NodeId) (said : Message) → AllDue d past
    → SendDue d past n y said → NamedCame d past (replied said)
replies-due d past n y (message.ReadRep q) all due = reply-hold (λ now k h. Came d now h.t h.op) d past (λ now a k h all c. came-more d now a h.t h.op all c) (λ now k h all asked. requested-came d now k h all asked) all n y q.t q.op q.sid q.value due
replies-due d past n y said all due = tt

-- who is answered came to that operation
pub reply-came : (d : DocumentData) (past : List Act) (m : ℕ) (x y : NodeId) (q : ReadRep) → AllDue d past
    → sent_at m (sent past) ≡ Some (record { from = x; to = y; message = message.ReadRep q }) → Came d past q.t q.op
reply-came d past m x y q due is = sent-hold (λ now n y said. NamedCame d now (replied said)) d past (λ now a n y said all h. named-more d now a (replied said) all h) (λ now n y said all h. replies-due d now n y said all h) due m (record { from = x; to = y; message = message.ReadRep q }) is
