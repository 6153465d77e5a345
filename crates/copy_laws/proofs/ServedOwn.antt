-- Each read that a node serves is of a key that it holds, and that the operation names.
use Rattle.grid_laws.proofs.Promises.{due-behind}
use Rattle.std.proofs.Common.{◌≡◌, ℕ, inl, inr, Bool, true, false, List, [], ◌∷◌, ◌++◌, Option, Some, None, refl, sym, ap, subst, ◌∙◌, arith}
use Rattle.std.proofs.lemmas.Bool.Decides.{nat_tests}
use Rattle.std.specs.Prelude.{◌==◌, IsTrue, if◌then◌else◌}
use Rattle.score_base.specs.declared.ids.TxId.{TxId}
use Rattle.score_base.specs.declared.ids.NodeId.{NodeId}
use Rattle.score_base.specs.declared.ids.Ident.{Ident}
use Rattle.score_base.specs.declared.ids.Value.{Value}
use Rattle.score_base.specs.declared.keys.Key.{Key}
use Rattle.placement.specs.Places.{holds}
use Rattle.grid_model.specs.declared.acts.Act.{Act}
use Rattle.grid_model.specs.declared.acts.Act.TheVariants as act
use Rattle.grid_model.specs.declared.messages.Message.{Message}
use Rattle.grid_model.specs.declared.messages.Message.TheVariants as message
use Rattle.grid_model.specs.declared.messages.ReadReq.{ReadReq}
use Rattle.grid_model.specs.declared.stories.HeldRead.{HeldRead}
use Rattle.grid_model.specs.Documents.{DocumentData}
use Rattle.grid_model.specs.Nodes.{got, held_by, with_held, script_of}
use Rattle.grid_model.specs.Copies.{key_at}
use Rattle.script_runs.specs.Walks.{op_key}
use Rattle.grid_laws.proofs.Causes.{AllDue, IsDue, IsIn, SendDue, RequestDue, Requested, MayServe, at_once, held, held_ever}
use Rattle.grid_laws.proofs.Frames.{in-append}
use Rattle.grid_laws.proofs.Holds.{got-hold}

-- n holds the key that operation j of t names
pub record IsOwn (d : DocumentData) (n : NodeId) (t : TxId) (j : ℕ) (k : Key) : Type 0 where
  pub holds : IsTrue (holds d.cluster.places n k)
  pub named : key_at (script_of t d.scripts) j ≡ Some k

-- ---- requests

request-due : (d : DocumentData) (past : List Act) (n y : NodeId) (q : ReadReq) → RequestDue d past n y q
    → IsOwn d y q.t q.op q.key
request-due d past n y q due = record { holds = due.holds; named = ap (λ o. key_at o q.op) due.at.script ∙ ap op_key due.named ∙ ap (λ (k : Key). Some k) (sym due.key) }

abbrev RequestsOwn : DocumentData → NodeId → Message → Type 0
RequestsOwn d y (message.ReadReq q) = IsOwn d y q.t q.op q.key
RequestsOwn d y said = Unit {0}

requests-due : (d : DocumentData) (past : List Act) (n y : NodeId) (said : Message) → SendDue d past n y said
    → RequestsOwn d y said
requests-due d past n y (message.ReadReq q) due = request-due d past n y q due
requests-due d past n y said due = tt

requested-own : (d : DocumentData) (past : List Act) (n : NodeId) (h : HeldRead) → AllDue d past → Requested d past n h
    → IsOwn d n h.t h.op h.key
requested-own d past n h due asked =
    let q : ReadReq = asked.request in
    let own : IsOwn d n q.t q.op q.key = got-hold (λ now x y said. RequestsOwn d y said) d past (λ now a x y said all i. i) (λ now x y said all s. requests-due d now x y said s) due (record { from = h.from; to = n; message = message.ReadReq q }) asked.got in
    let P : TxId → Type 0 = λ z. IsOwn d n z h.op h.key in
    let Q : ℕ → Type 0 = λ z. IsOwn d n q.t z h.key in
    let R : Key → Type 0 = λ z. IsOwn d n q.t q.op z in
    subst P (sym asked.t) (subst Q (sym asked.op) (subst R (sym asked.key) own))

-- ---- reads that are held

held-is : (d : DocumentData) (past : List Act) (n : NodeId) (h : HeldRead) → Requested d past n h
    → held_by (got past) h.t h.op h.sid ≡ Some h
held-is d past n h asked =
    let q : ReadReq = asked.request in
    let P : Key → Type 0 = λ k. Some (record { t = h.t; op = h.op; sid = h.sid; key = k; from = h.from }) ≡ Some h in
    rw asked.got (subst P asked.key refl)

held-at : (d : DocumentData) (n : NodeId) (h x : HeldRead) (ever : List HeldRead) (o : Option HeldRead) (b : Bool)
    → o ≡ Some x → (b ≡ true → IsOwn d n x.t x.op x.key) → (IsIn h ever → IsOwn d n h.t h.op h.key)
    → IsIn h (if b then with_held o ever else ever) → IsOwn d n h.t h.op h.key
held-at d n h x ever o false is own go i = go i
held-at d n h x ever None true is own go i = cc
held-at d n h x ever (Some y) true is own go i =
    let same : y ≡ x = cc in
    elim (in-append h y ever i) [
      | inl j ↦ go j
      | inr e ↦ (let P : HeldRead → Type 0 = λ z. IsOwn d n z.t z.op z.key in subst P (sym same ∙ e) (own refl))
    ]

held-before : (d : DocumentData) (past : List Act) (a : Act) (n : NodeId) (h : HeldRead) → AllDue d past
    → IsDue d past a → (IsIn h (held_ever d past n) → IsOwn d n h.t h.op h.key) → IsIn h (held_ever d (a ∷ past) n)
    → IsOwn d n h.t h.op h.key
held-before d past (act.Held m t op sid) n h all due go i =
    let x : HeldRead = record { t = t; op = op; sid = sid; key = due.0; from = due.1 } in
    let own : IsOwn d m t op due.0 = requested-own d past m x all due.2.requested in
    held-at d n h x (held_ever d past n) (held_by (got past) t op sid) (m == n) (held-is d past m x due.2.requested) (λ e. (let same : m ≡ n = grind (arith, nat_tests, e) in let P : NodeId → Type 0 = λ k. IsOwn d k t op due.0 in subst P same own)) go i
held-before d past a n h all due go i = go i

held-own : (d : DocumentData) (past : List Act) → AllDue d past → (n : NodeId) (h : HeldRead)
    → IsIn h (held_ever d past n) → IsOwn d n h.t h.op h.key
held-own d [] due n h i = absurd i
held-own d (a ∷ past) due n h i = held-before d past a n h due.1 due.0 (held-own d past due.1 n h) i

-- ---- reads that are served

may-own : (d : DocumentData) (past : List Act) (n : NodeId) (h : HeldRead) → AllDue d past → MayServe d past n h
    → IsOwn d n h.t h.op h.key
may-own d past n h due (at_once asked cover) = requested-own d past n h due asked
may-own d past n h due (held i) = held-own d past due n h i

-- the acts before an act were due
-- what n served is a key that it holds, and the one that the operation names
pub served-own : (d : DocumentData) (past : List Act) (n : NodeId) (t : TxId) (j : ℕ) (k : Key) (sid vn : Ident)
    (v : Value) (later before : List Act) → AllDue d past → past ≡ later ++ act.Served n t j k sid vn v ∷ before
    → IsOwn d n t j k
served-own d past n t j k sid vn v later before due is =
    let P : List Act → Type 0 = λ p. AllDue d p in
    let here : AllDue d (act.Served n t j k sid vn v ∷ before) = due-behind d later (act.Served n t j k sid vn v ∷ before) (subst P is due) in
    may-own d before n (record { t = t; op = j; sid = sid; key = k; from = here.0.0 }) here.1 here.0.1.may
