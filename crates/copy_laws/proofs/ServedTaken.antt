-- Each value that a transaction took was served at its snapshot.
use Rattle.std.proofs.Common.{◌≡◌, ℕ, ◌⊎◌, inl, inr, Bool, true, false, List, [], ◌∷◌, ◌++◌, Option, Some, None, refl, ap, subst, arith}
use Rattle.std.proofs.lemmas.Bool.Decides.{nat_tests}
use Rattle.std.proofs.lemmas.Bool.{or_cases}
use Rattle.std.specs.Prelude.{◌==◌, ◌&&◌, if◌then◌else◌}
use Rattle.score_base.specs.declared.ids.TxId.{TxId}
use Rattle.score_base.specs.declared.ids.NodeId.{NodeId}
use Rattle.score_base.specs.declared.ids.Ident.{Ident}
use Rattle.score_base.specs.declared.ids.Value.{Value}
use Rattle.score_base.specs.declared.keys.Key.{Key}
use Rattle.grid_model.specs.declared.acts.Act.{Act}
use Rattle.grid_model.specs.declared.acts.Act.TheVariants as act
use Rattle.grid_model.specs.declared.messages.Message.TheVariants as message
use Rattle.grid_model.specs.declared.stories.Story.{Story}
use Rattle.grid_model.specs.Documents.{DocumentData}
use Rattle.grid_model.specs.Acts.{EachAct}
use Rattle.grid_model.specs.Facts.{has_served, Says}
use Rattle.grid_model.specs.Fitness.{is_same_ident}
use Rattle.grid_model.specs.Stories.{story, first_sid}
use Rattle.script_runs.specs.Waits.{value_taken}
use Rattle.grid_laws.proofs.EachActs.{each-act-more}
use Rattle.grid_laws.proofs.Causes.{AllDue, TakenDue}
use Rattle.grid_laws.proofs.Holds.{got-hold}
use Rattle.grid_laws.proofs.MessagesBacked.{says-more, says-due}
use Rattle.grid_laws.proofs.Snapshots.{OfStory, of-more}
use Rattle.copy_laws.proofs.Footing.{IsServed}
use Rattle.copy_laws.proofs.ServedOwn.{IsOwn, served-own}

-- ---- an act that served

-- n served this
record Serves (past : List Act) (n : NodeId) (t : TxId) (j : ℕ) (sid : Ident) (v : Value) : Type 0 where
  key : Key
  vn : Ident
  later : List Act
  before : List Act
  there : past ≡ later ++ act.Served n t j key sid vn v ∷ before

serves-more : (n : NodeId) (t : TxId) (j : ℕ) (sid : Ident) (v : Value) (a : Act) (past : List Act)
    → Serves past n t j sid v → Serves (a ∷ past) n t j sid v
serves-more n t j sid v a past s = record { key = s.key; vn = s.vn; later = a ∷ s.later; before = s.before; there = ap (λ p. a ∷ p) s.there }

serves-now : (n m : NodeId) (t u : TxId) (j i : ℕ) (k : Key) (sid s vn : Ident) (v w : Value) (past : List Act) → m ≡ n
    → u ≡ t → i ≡ j → s ≡ sid → w ≡ v → Serves (act.Served m u i k s vn w ∷ past) n t j sid v
serves-now n m t u j i k sid s vn v w past e e' e'' f f' = record { key = k; vn = vn; later = []; before = past; there = cc }

serves-act : (n : NodeId) (t : TxId) (j : ℕ) (sid : Ident) (v : Value) (past : List Act)
    → has_served n t j sid v past ≡ true → Serves past n t j sid v
serves-act n t j sid v [] h = cc
serves-act n t j sid v (act.Served m u i k s vn w ∷ past) h = elim (or_cases (m == n && (u == t && (i == j && (s == sid && w == v)))) (has_served n t j sid v past) h) [
  | inl here ↦ serves-now n m t u j i k sid s vn v w past (grind (arith, nat_tests, here)) (grind (arith, nat_tests, here)) (grind (arith, nat_tests, here)) (grind (arith, nat_tests, here)) (grind (arith, nat_tests, here))
  | inr more ↦ serves-more n t j sid v (act.Served m u i k s vn w) past (serves-act n t j sid v past more)
]
serves-act n t j sid v (a ∷ past) h = serves-more n t j sid v a past (serves-act n t j sid v past h)

has-served : (d : DocumentData) (past : List Act) (n : NodeId) (t : TxId) (j : ℕ) (sid : Ident) (v : Value)
    → AllDue d past → has_served n t j sid v past ≡ true → IsServed d past t j sid v
has-served d past n t j sid v due h =
    let s : Serves past n t j sid v = serves-act n t j sid v past h in
    let own : IsOwn d n t j s.key = served-own d past n t j s.key sid s.vn v s.later s.before due s.there in
    record { n = n; key = s.key; vn = s.vn; later = s.later; before = s.before; there = s.there; holds = own.holds; named = own.named }

served-more : (d : DocumentData) (past : List Act) (a : Act) (t : TxId) (j : ℕ) (sid : Ident) (v : Value)
    → IsServed d past t j sid v → IsServed d (a ∷ past) t j sid v
served-more d past a t j sid v s = record { n = s.n; key = s.key; vn = s.vn; later = a ∷ s.later; before = s.before; there = ap (λ p. a ∷ p) s.there; holds = s.holds; named = s.named }

-- ---- the replies that are taken

taken-due : (d : DocumentData) (past : List Act) (t : TxId) (j : ℕ) (sid : Ident) (v : Value) → AllDue d past
    → TakenDue d past t j sid v → IsServed d past t j sid v
taken-due d past t j sid v all due =
    let says : has_served due.from t j sid v past ≡ true = got-hold (λ now n y said. Says d now n said) d past (λ now a n y said all h. says-more d now a n said h) (λ now n y said all h. says-due d now n y said all h) all (record { from = due.from; to = due.n; message = message.ReadRep (record { t = t; op = j; sid = sid; value = v }) }) due.got in
    has-served d past due.from t j sid v all says

-- an act that takes a value takes one that was served
abbrev pub TakesServed : DocumentData → List Act → Act → Type 0
TakesServed d past (act.Taken t j sid v) = IsServed d past t j sid v
TakesServed d past a = Unit {0}

takes-more : (d : DocumentData) (past : List Act) (b a : Act) → TakesServed d past a → TakesServed d (b ∷ past) a
takes-more d past b (act.Taken t j sid v) h = served-more d past b t j sid v h
takes-more d past b a h = tt

takes-due : (d : DocumentData) (past : List Act) (a : Act) → AllDue d (a ∷ past) → TakesServed d (a ∷ past) a
takes-due d past (act.Taken t j sid v) due = served-more d past (act.Taken t j sid v) t j sid v (taken-due d past t j sid v due.1 due.0)
takes-due d past a due = tt

-- each act that takes a value
pub takens-served : (d : DocumentData) (past : List Act) → AllDue d past → EachAct (TakesServed d past) past
takens-served d [] due = tt
takens-served d (a ∷ past) due = (takes-due d past a due, each-act-more (TakesServed d past) (TakesServed d (a ∷ past)) past (λ b h. takes-more d past a b h) (takens-served d past due.1))

-- ---- the values of a story

-- each value was served, at the snapshot
abbrev AreServed : DocumentData → List Act → TxId → Option Ident → List (ℕ × Value) → Type 0
AreServed d past t o values =
    (j : ℕ) (v : Value) → value_taken j values ≡ Some v → (sid : Ident) × (o ≡ Some sid) × IsServed d past t j sid v

last-taken : (j op : ℕ) (v w : Value) (values : List (ℕ × Value)) → value_taken j (values ++ (op, w) ∷ []) ≡ Some v
    → (value_taken j values ≡ Some v) ⊎ ((op ≡ j) × (w ≡ v))
last-taken j op v w [] e = inr (grind (arith, nat_tests, e), grind (arith, nat_tests, e))
last-taken j op v w (x ∷ values) e = go (x.0 == j) e (last-taken j op v w values)
  where
    go : (b : Bool) → (if b then Some x.1 else value_taken j (values ++ (op, w) ∷ [])) ≡ Some v
        → (value_taken j (values ++ (op, w) ∷ []) ≡ Some v → (value_taken j values ≡ Some v) ⊎ ((op ≡ j) × (w ≡ v)))
        → ((if b then Some x.1 else value_taken j values) ≡ Some v) ⊎ ((op ≡ j) × (w ≡ v))
    go true e rest = inl e
    go false e rest = rest e

first-same : (o : Option Ident) (sid : Ident) → is_same_ident sid o ≡ true → Some (first_sid o sid) ≡ Some sid
first-same None sid h = refl
first-same (Some s) sid h = (let e : s ≡ sid = grind (arith, nat_tests, h) in ap (λ (z : Ident). Some z) e)

first-kept : (o : Option Ident) (sid s : Ident) → o ≡ Some s → Some (first_sid o sid) ≡ Some s
first-kept None sid s e = cc
first-kept (Some z) sid s e = e

served-step : (d : DocumentData) (past : List Act) (t : TxId) (op : ℕ) (sid : Ident) (v : Value) (o : Option Ident)
    (values : List (ℕ × Value)) → is_same_ident sid o ≡ true → IsServed d past t op sid v → AreServed d past t o values
    → AreServed d past t (Some (first_sid o sid)) (values ++ (op, v) ∷ [])
served-step d past t op sid v o values same now h j w e = elim (last-taken j op w v values e) [
  | inl old ↦ (let s = h j w old in (s.0, first-kept o sid s.0 s.1, s.2))
  | inr new ↦
      let P : ℕ → Type 0 = λ i. IsServed d past t i sid v in
      let Q : Value → Type 0 = λ z. IsServed d past t j sid z in
      (sid, first-same o sid same, subst Q new.1 (subst P new.0 now))
]

of-weaker : (P Q : Option Ident → List (ℕ × Value) → Type 0) (o : Option Story)
    → ((s : Option Ident) (values : List (ℕ × Value)) → P s values → Q s values) → OfStory (Unit {0}) P o
    → OfStory (Unit {0}) Q o
of-weaker P Q None go h = tt
of-weaker P Q (Some x) go h = go x.progress.sid x.progress.values h

stories-served : (d : DocumentData) (past : List Act) (t : TxId) → AllDue d past
    → OfStory (Unit {0}) (AreServed d past t) (story d past t)
stories-served d [] t due = tt
stories-served d (a ∷ past) t due =
    of-more (Unit {0}) (AreServed d (a ∷ past) t) d past a t (λ n j v e. cc)
    (λ op sid v w h. served-step d (a ∷ past) t op sid v w.story.progress.sid w.story.progress.values w.same (served-more d past a t op sid v (taken-due d past t op sid v due.1 w)) h)
    due
    (of-weaker (AreServed d past t) (AreServed d (a ∷ past) t) (story d past t) (λ s values h j v e. (let i = h j v e in (i.0, i.1, served-more d past a t j i.0 v i.2))) (stories-served d past t due.1))

-- each value of a story was served at its snapshot
pub taken-served : (d : DocumentData) (past : List Act) (t : TxId) (x : Story) (j : ℕ) (v : Value) → AllDue d past
    → story d past t ≡ Some x → value_taken j x.progress.values ≡ Some v
    → (sid : Ident) × (x.progress.sid ≡ Some sid) × IsServed d past t j sid v
taken-served d past t x j v due told e = (let P : Option Story → Type 0 = λ o. OfStory (Unit {0}) (AreServed d past t) o in let h : AreServed d past t x.progress.sid x.progress.values = subst P told (stories-served d past t due) in h j v e)
