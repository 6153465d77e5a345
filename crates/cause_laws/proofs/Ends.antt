-- Each message but an outcome goes between the home of its transaction and one of the parts.
use Rattle.grid_laws.proofs.PartsOfKeys.{op-part}
use Rattle.grid_laws.proofs.Causes.{AllDue, Asked, IsDue, IsIn, MayServe, PrepareDue, ReplyDue, RequestDue, Requested, SendDue, at_once, held, held_ever}
use Rattle.grid_laws.proofs.DueAnswers.{home-is}
use Rattle.grid_laws.proofs.Frames.{in-append}
use Rattle.grid_laws.proofs.Holds.{got-hold, sent-hold}
use Rattle.grid_laws.proofs.PreparesSay.{PrepareSays, PreparedSays, first-prepared, prepare-got, prepared-say}
use Rattle.grid_laws.proofs.NodesFit.{AllHold}
use Rattle.journal_words.proofs.TwoNodes.{a, b}
use Rattle.grid_model.specs.Documents.{DocumentData, IsOne}
use Rattle.grid_model.specs.Facts.{parts_at}
use Rattle.grid_model.specs.Histories.{sent, sent_at}
use Rattle.journal_words.specs.Journals.{Prepared, home_in, home_of, names_part, prepared_of}
use Rattle.grid_model.specs.Nodes.{got, held_by, is_home, journal, parts_in, parts_of, with_held}
use Rattle.grid_model.specs.Stories.{asked}
use Rattle.grid_model.specs.declared.acts.Act.TheVariants as act
use Rattle.grid_model.specs.declared.acts.Act.{Act}
use Rattle.grid_model.specs.declared.messages.Envelope.{Envelope}
use Rattle.grid_model.specs.declared.messages.Message.TheVariants as message
use Rattle.grid_model.specs.declared.messages.Message.{Message}
use Rattle.grid_model.specs.declared.messages.Prepare.{Prepare}
use Rattle.grid_model.specs.declared.messages.ReadRep.{ReadRep}
use Rattle.grid_model.specs.declared.messages.ReadReq.{ReadReq}
use Rattle.grid_model.specs.declared.stories.HeldRead.{HeldRead}
use Rattle.placement.specs.Places.{holds, is_among}
use Rattle.score_base.specs.declared.causes.Ballot.TheVariants as ballot
use Rattle.score_base.specs.declared.ids.Ident.{Ident}
use Rattle.score_base.specs.declared.ids.NodeId.{NodeId}
use Rattle.score_base.specs.declared.ids.TxId.{TxId}
use Rattle.score_base.specs.declared.ids.Value.{Value}
use Rattle.score_base.specs.declared.records.Record.TheVariants as record'
use Rattle.score_base.specs.declared.records.Record.{Record}
use Rattle.std.proofs.lemmas.Bool.{cases_eq}
use Rattle.score_base.specs.declared.keys.Key.{Key}
use Rattle.std.proofs.Common.{Bool, List, None, Option, Some, [], ap, arith, false, inl, inr, refl, subst, sym, true, ℕ, ◌∷◌, ◌≡◌}
use Rattle.std.proofs.lemmas.Bool.Decides.{nat_tests}
use Rattle.std.specs.Prelude.{if◌then◌else◌, ◌==◌}

-- x is the home of t, and y holds a key of t
pub record HomeAndPart (d : DocumentData) (t : TxId) (x y : NodeId) : Type 0 where
  pub home : is_home d t x ≡ true
  pub part : is_among y (parts_at d t) ≡ true

-- both hold a key of t
pub record BothParts (d : DocumentData) (t : TxId) (x y : NodeId) : Type 0 where
  pub asker : is_among x (parts_at d t) ≡ true
  pub asked : is_among y (parts_at d t) ≡ true

-- a home requests reads and votes, and is answered; a part asks its home or another part
abbrev pub HasEnds : DocumentData → NodeId → NodeId → Message → Type 0
HasEnds d x y (message.ReadReq q) = HomeAndPart d q.t x y
HasEnds d x y (message.ReadRep q) = HomeAndPart d q.t y x
HasEnds d x y (message.Prepare q) = HomeAndPart d q.t x y
HasEnds d x y (message.Vote t b) = HomeAndPart d t y x
HasEnds d x y (message.Tell t o) = Unit {0}
HasEnds d x y (message.Ack t) = HomeAndPart d t y x
HasEnds d x y (message.Ask t) = HomeAndPart d t y x
HasEnds d x y (message.AskPeer t) = BothParts d t x y

same-ends : (d : DocumentData) (t u : TxId) (x y : NodeId) → t ≡ u → HomeAndPart d u x y → HomeAndPart d t x y
same-ends d t u x y same h = let P : TxId → Type 0 = λ z. HomeAndPart d z x y in subst P (sym same) h

-- ---- requests

request-ends : (d : DocumentData) (past : List Act) (n y : NodeId) (q : ReadReq) → IsOne d → RequestDue d past n y q
    → HomeAndPart d q.t n y
request-ends d past n y q one due =
    let P : Key → Type 0 = λ k. holds d.cluster.places y k ≡ true in
    let parts : parts_at d q.t ≡ parts_of d due.script = ap (parts_in d) due.at.script in
    record {
      home = home-is d q.t n due.script due.at.script due.at.home;
      part = rw parts (op-part d due.script q.op due.op y one due.named (subst P due.key due.holds));
    }

abbrev RequestEnds : DocumentData → NodeId → NodeId → Message → Type 0
RequestEnds d x y (message.ReadReq q) = HomeAndPart d q.t x y
RequestEnds d x y said = Unit {0}

requests-due : (d : DocumentData) (past : List Act) (n y : NodeId) (said : Message) → IsOne d → SendDue d past n y said
    → RequestEnds d n y said
requests-due d past n y (message.ReadReq q) one due = request-ends d past n y q one due
requests-due d past n y said one due = tt

-- the request of a read
requested-ends : (d : DocumentData) (past : List Act) (n : NodeId) (h : HeldRead) → IsOne d → AllDue d past
    → Requested d past n h → HomeAndPart d h.t h.from n
requested-ends d past n h one due asked = same-ends d h.t asked.request.t h.from n asked.t (got-hold (λ now k y said. RequestEnds d k y said) d past (λ now a k y said all g. g) (λ now k y said all g. requests-due d now k y said one g) due (record { from = h.from; to = n; message = message.ReadReq asked.request }) asked.got)

-- ---- held reads

held-is : (d : DocumentData) (past : List Act) (m : NodeId) (t : TxId) (op : ℕ) (sid : Ident) (k : Key) (x : NodeId)
    (asked : Requested d past m (record { t = t; op = op; sid = sid; key = k; from = x }))
    → held_by (got past) t op sid ≡ Some (record { t = t; op = op; sid = sid; key = asked.request.key; from = x })
held-is d past m t op sid k x asked = rw asked.got refl

held-new : (d : DocumentData) (past : List Act) (m n : NodeId) (h y : HeldRead) (ever : List HeldRead)
    (o : Option HeldRead) → o ≡ Some y → HomeAndPart d y.t y.from m → (IsIn h ever → HomeAndPart d h.t h.from n) → m ≡ n
    → IsIn h (with_held o ever) → HomeAndPart d h.t h.from n
held-new d past m n h y ever None is new go same i = cc
held-new d past m n h y ever (Some z) is new go same i = elim (in-append h z ever i) [
  | inl before ↦ go before
  | inr last ↦
      let e : y ≡ h = cc in
      let P : HeldRead → Type 0 = λ w. HomeAndPart d w.t w.from m in
      let Q : NodeId → Type 0 = λ k. HomeAndPart d h.t h.from k in
      subst Q same (subst P e new)
]

held-before : (d : DocumentData) (past : List Act) (a : Act) (n : NodeId) (h : HeldRead) → IsOne d → AllDue d past
    → IsDue d past a → (IsIn h (held_ever d past n) → HomeAndPart d h.t h.from n) → IsIn h (held_ever d (a ∷ past) n)
    → HomeAndPart d h.t h.from n
held-before d past (act.Held m t op sid) n h one all due go i = at (m == n) refl i
  where
    at : (b : Bool) → (m == n) ≡ b
        → IsIn h (if b then with_held (held_by (got past) t op sid) (held_ever d past n) else held_ever d past n)
        → HomeAndPart d h.t h.from n
    at true e i = held-new d past m n h (record { t = t; op = op; sid = sid; key = due.2.requested.request.key; from = due.1 }) (held_ever d past n) (held_by (got past) t op sid) (held-is d past m t op sid due.0 due.1 due.2.requested) (requested-ends d past m (record { t = t; op = op; sid = sid; key = due.0; from = due.1 }) one all due.2.requested) go (grind (arith, nat_tests, e)) i
    at false e i = go i
held-before d past a n h one all due go i = go i

-- the request of each read that was held
held-ends : (d : DocumentData) (past : List Act) → IsOne d → AllDue d past → (n : NodeId) (h : HeldRead)
    → IsIn h (held_ever d past n) → HomeAndPart d h.t h.from n
held-ends d [] one due n h i = absurd i
held-ends d (a ∷ past) one due n h i = held-before d past a n h one due.1 due.0 (held-ends d past one due.1 n h) i

may-ends : (d : DocumentData) (past : List Act) (n : NodeId) (h : HeldRead) → IsOne d → AllDue d past
    → MayServe d past n h → HomeAndPart d h.t h.from n
may-ends d past n h one due (at_once asked cover) = requested-ends d past n h one due asked
may-ends d past n h one due (held i) = held-ends d past one due n h i

reply-ends : (d : DocumentData) (past : List Act) (n y : NodeId) (q : ReadRep) → IsOne d → AllDue d past
    → ReplyDue d past n y q.t q.op q.sid q.value → HomeAndPart d q.t y n
reply-ends d past n y q one all due =
    let P : List Act → Type 0 = λ p. AllDue d p in
    let before : AllDue d (act.Served n q.t q.op due.key q.sid due.vn q.value ∷ due.before) = subst P due.is all in
    may-ends d due.before n (record { t = q.t; op = q.op; sid = q.sid; key = due.key; from = y }) one before.1 due.may

-- ---- Prepares

says-ends : (d : DocumentData) (past : List Act) (x n : NodeId) (q : Prepare) → PrepareSays d past x n q
    → HomeAndPart d q.t x n
says-ends d past x n q s =
    let parts : parts_at d q.t ≡ parts_of d s.script = ap (parts_in d) s.full.at.script in
    record { home = home-is d q.t x s.script s.full.at.script s.full.at.home; part = rw parts s.part }

asked-ends : (d : DocumentData) (past : List Act) (n x : NodeId) (t : TxId) → AllDue d past → Asked d past n x t
    → HomeAndPart d t x n
asked-ends d past n x t all a = same-ends d t a.prepare.t x n a.is (says-ends d past x n a.prepare (prepare-got d past n x a.prepare all a.got))

prepare-ends : (d : DocumentData) (past : List Act) (n y : NodeId) (q : Prepare) → PrepareDue d past n y q
    → HomeAndPart d q.t n y
prepare-ends d past n y q due =
    let parts : parts_at d q.t ≡ parts_of d due.script = ap (parts_in d) due.at.script in
    record { home = home-is d q.t n due.script due.at.script due.at.home; part = rw parts due.part }

-- the home that the records of n name
named-ends : (d : DocumentData) (past : List Act) (n y : NodeId) (t : TxId) → AllDue d past
    → home_of t (journal d past n) ≡ Some y → HomeAndPart d t y n
named-ends d past n y t all e = go (prepared_of t (journal d past n)) refl e
  where
    go : (o : Option Prepared) → prepared_of t (journal d past n) ≡ o → home_in o ≡ Some y → HomeAndPart d t y n
    go None is e = cc
    go (Some x) is e =
        let f = first-prepared d past n t x (journal d past n) (prepared-say d past all n).journal is in
        let home : x.home ≡ y = cc in
        let P : NodeId → Type 0 = λ k. HomeAndPart d t k n in
        subst P home (same-ends d t f.prepare.t x.home n f.t (says-ends d past x.home n f.prepare f.says))

-- the parts that a Prepared names are those of the document
named-here : (d : DocumentData) (past : List Act) (n y : NodeId) (t u : TxId) (home : NodeId) (parts : List NodeId)
    (sid p : Ident) (reads : List Key) (writes : List (Key × Value)) → u ≡ t
    → PreparedSays d past n (record'.Prepared u home parts sid p reads writes) → is_among y parts ≡ true
    → BothParts d t n y
named-here d past n y t u home parts sid p reads writes same s i =
    let is : record'.Prepared u home parts sid p reads writes ≡ record'.Prepared s.prepare.t home s.prepare.parts s.prepare.sid p s.prepare.reads s.prepare.writes = s.is in
    let told : parts ≡ s.prepare.parts = cc in
    let q : s.prepare.parts ≡ parts_of d s.says.script = ap (λ (z : Prepare). z.parts) s.says.is in
    let at : parts_at d s.prepare.t ≡ parts_of d s.says.script = ap (parts_in d) s.says.full.at.script in
    let P : TxId → Type 0 = λ w. BothParts d w n y in
    let Q : List NodeId → Type 0 = λ ns. is_among y ns ≡ true in
    subst P same (subst P (sym s.t) (record { asker = rw at s.says.part; asked = rw at (subst Q q (subst Q told i)) }))

named-parts : (d : DocumentData) (past : List Act) (n y : NodeId) (t : TxId) (r : List Record)
    → AllHold (PreparedSays d past n) r → names_part t y r ≡ true → BothParts d t n y
named-parts d past n y t [] says e = cc
named-parts d past n y t (record'.Prepared u home parts sid p reads writes ∷ r) says e = elim (cases_eq u t) [
  | inl same ↦ named-here d past n y t u home parts sid p reads writes same says.0 (grind (arith, nat_tests, e))
  | inr other ↦ named-parts d past n y t r says.1 (grind (arith, nat_tests, e))
]
named-parts d past n y t (record'.Ended u o ∷ r) says e = named-parts d past n y t r says.1 e
named-parts d past n y t (record'.Ceiling c ∷ r) says e = named-parts d past n y t r says.1 e
named-parts d past n y t (record'.Decided u f parts ∷ r) says e = named-parts d past n y t r says.1 e
named-parts d past n y t (record'.Closed u ∷ r) says e = named-parts d past n y t r says.1 e

-- ---- every message

-- a message that is due goes between home and part, or between parts
pub ends-due : (d : DocumentData) (past : List Act) (n y : NodeId) (said : Message) → IsOne d → AllDue d past
    → SendDue d past n y said → HasEnds d n y said
ends-due d past n y (message.ReadReq q) one all due = request-ends d past n y q one due
ends-due d past n y (message.ReadRep q) one all due = reply-ends d past n y q one all due
ends-due d past n y (message.Prepare q) one all due = prepare-ends d past n y q due
ends-due d past n y (message.Vote t (ballot.Yes p)) one all due = asked-ends d past n y t all due.0
ends-due d past n y (message.Vote t (ballot.No why)) one all due = asked-ends d past n y t all due.0
ends-due d past n y (message.Tell t o) one all due = tt
ends-due d past n y (message.Ack t) one all due = named-ends d past n y t all due.1
ends-due d past n y (message.Ask t) one all due = named-ends d past n y t all due.1
ends-due d past n y (message.AskPeer t) one all due = named-parts d past n y t (journal d past n) (prepared-say d past all n).journal due.1

-- each message that was sent
pub sent-ends : (d : DocumentData) (past : List Act) → IsOne d → AllDue d past → (m : ℕ) (e : Envelope)
    → sent_at m (sent past) ≡ Some e → HasEnds d e.from e.to e.message
sent-ends d past one due m e is = sent-hold (λ now k y said. HasEnds d k y said) d past (λ now a k y said all h. h) (λ now k y said all h. ends-due d now k y said one all h) due m e is
