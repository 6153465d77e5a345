-- How far an act that is due may name an identifier: 64 for each proposal so far.
use Rattle.std.proofs.Common.{◌≡◌, ℕ, ◌+◌, ◌*◌, ◌≤◌, Bool, true, false, List, [], ◌∷◌, Option, Some, None, refl, subst, arith}
use Rattle.std.proofs.lemmas.Bool.Decides.{nat_tests}
use Rattle.std.specs.Prelude.{max, nat_le, nat_lt, if◌then◌else◌}
use Rattle.score_base.specs.declared.ids.TxId.{TxId}
use Rattle.score_base.specs.declared.ids.NodeId.{NodeId}
use Rattle.score_base.specs.declared.ids.Ident.{Ident}
use Rattle.score_base.specs.declared.ids.Value.{Value}
use Rattle.score_base.specs.declared.keys.Key.{Key}
use Rattle.score_base.specs.declared.causes.Ballot.TheVariants as ballot
use Rattle.score_base.specs.declared.causes.Cause.{Cause}
use Rattle.score_base.specs.declared.causes.Cause.TheVariants as cause
use Rattle.score_base.specs.declared.causes.Date.{Date}
use Rattle.score_base.specs.declared.causes.Date.TheVariants as date
use Rattle.score_base.specs.declared.causes.Outcome.TheVariants as outcome
use Rattle.score_base.specs.declared.records.Record.{Record}
use Rattle.grid_model.specs.declared.acts.Act.{Act}
use Rattle.grid_model.specs.declared.acts.Act.TheVariants as act
use Rattle.grid_model.specs.declared.acts.Head.{Head}
use Rattle.grid_model.specs.declared.acts.Head.TheVariants as head
use Rattle.grid_model.specs.declared.messages.Message.{Message}
use Rattle.grid_model.specs.declared.messages.Message.TheVariants as message
use Rattle.grid_model.specs.declared.messages.Prepare.{Prepare}
use Rattle.grid_model.specs.declared.stories.HeldRead.{HeldRead}
use Rattle.grid_model.specs.declared.stories.Story.{Story}
use Rattle.journal_words.specs.declared.versions.Version.{Version}
use Rattle.grid_model.specs.Documents.{DocumentData}
use Rattle.journal_words.specs.Journals.{applied, best, commit_id, floor, greatest, is_behind, later, newer, newest, up_to, wrote_in, prepared_of}
use Rattle.grid_model.specs.Nodes.{journal, node}
use Rattle.grid_model.specs.Stories.{story}
use Rattle.grid_model.specs.Advances.{date_by}
use Rattle.grid_model.specs.Fitness.{date_ident}
use Rattle.grid_model.specs.Acts.{EachAct}
use Rattle.grid_model.specs.Facts.{IsAtMost, act_ident, cause_ident, head_ident, message_ident, outcome_ident}
use Rattle.grid_model.specs.Rows.{ceiling_of, dated, greatest_vote, version_for}
use Rattle.grid_laws.proofs.Causes.{CommitDue, by_home, by_part, AllDue, IsDue, SendDue, RecordDue, StopDue, Requested, MayServe, at_once, held, RefusedFor}
use Rattle.journal_words.proofs.Floors.{pending-floor}
use Rattle.journal_words.proofs.Applied.{commit_id-floor}
use Rattle.grid_laws.proofs.NodesFitActs.{undone-decision}
use Rattle.grid_laws.proofs.Promises.{ever-covered}
use Rattle.grid_model.specs.Sessions.{first_at}
use Rattle.grid_laws.proofs.FloorsLow.{floor_at-low}
use Rattle.grid_laws.proofs.Holds.{ended-holds}
use Rattle.grid_laws.proofs.LowWords.{IsLowRecord, IsLowStory, floor-low, nodes-low, decision-low, got-low, stories-low, snapshot-low}

-- ---- versions

later-low : (m f : Ident) (u : TxId) (o : Option Value) (b : Version) → f ≤ m → b.ident ≤ m → (later f u o b).ident ≤ m
later-low m f u None b h k = k
later-low m f u (Some v) b h k = go (is_behind f u b)
  where
    pick : Bool → Version
    pick c = if c then record { ident = f; of = u; value = v } else b

    go : (c : Bool) → (if c then record { ident = f; of = u; value = v } else b).ident ≤ m
    go true = h
    go false = k

best-low : (r : List Record) (k : Key) (v : Value) (xs : List (TxId × Ident)) → (best r k v xs).ident ≤ greatest xs
best-low r k v [] = omega arith
best-low r k v (x ∷ xs) = later-low (max x.1 (greatest xs)) x.1 x.0 (wrote_in (prepared_of x.0 r) k) (best r k v xs) (omega arith) (omega (arith, best-low r k v xs))

up_to-low : (s : Ident) (xs : List (TxId × Ident)) → greatest (up_to s xs) ≤ s
up_to-low s [] = omega arith
up_to-low s (x ∷ xs) = go (nat_le x.1 s) refl (up_to-low s xs)
  where
    go : (b : Bool) → nat_le x.1 s ≡ b → greatest (up_to s xs) ≤ s
        → greatest (if b then x ∷ up_to s xs else up_to s xs) ≤ s
    go true e h = let le : x.1 ≤ s = grind (arith, nat_tests) in omega arith
    go false e h = h

newer-low : (r : List Record) (ks : List Key) (sid : Ident) (y : Key × Ident) → newer r ks sid ≡ Some y
    → y.1 ≤ commit_id r
newer-low r [] sid y e = cc
newer-low r (k ∷ ks) sid y e = go (nat_lt sid (newest r k)) e (λ i. newer-low r ks sid y i)
  where
    go : (b : Bool) → (if b then Some (k, newest r k) else newer r ks sid) ≡ Some y
        → (newer r ks sid ≡ Some y → y.1 ≤ commit_id r) → y.1 ≤ commit_id r
    go true i rest =
        let z : (let w : Key × Ident = (k, newest r k) in w ≡ y) = cc in
        let P : Key × Ident → Type 0 = λ w. w.1 ≤ commit_id r in
        subst P z (best-low r k 0 (applied r))
    go false i rest = rest i

-- ---- words

node-floor : (m : ℕ) (d : DocumentData) (past : List Act) (n : NodeId) → EachAct (IsAtMost m) past
    → floor (journal d past n) ≤ m
node-floor m d past n low = floor-low m (journal d past n) (nodes-low m d past low n).journal

node-commit : (m : ℕ) (d : DocumentData) (past : List Act) (n : NodeId) → EachAct (IsAtMost m) past
    → commit_id (journal d past n) ≤ m
node-commit m d past n low = omega (arith, commit_id-floor (journal d past n), node-floor m d past n low)

dated-low : (m : ℕ) (q : Date) (c : Ident) → date_ident q ≤ m → c ≤ m → dated q c ≤ m
dated-low m (date.First sid0) c h k = omega arith
dated-low m (date.At sid) c h k = h

read-low : (m : ℕ) (d : DocumentData) (past : List Act) (n : NodeId) (h : HeldRead) → EachAct (IsAtMost m) past
    → Requested d past n h → h.sid ≤ m
read-low m d past n h low asked =
    let is = asked.sid in
    rw is (dated-low m asked.request.date (commit_id (journal d past n)) (got-low m past low (record { from = h.from; to = n; message = message.ReadReq asked.request }) asked.got) (node-commit m d past n low))

may-low : (m : ℕ) (d : DocumentData) (past : List Act) (n : NodeId) (h : HeldRead) → AllDue d past
    → EachAct (IsAtMost m) past → MayServe d past n h → h.sid ≤ m
may-low m d past n h all low (at_once asked cover) = read-low m d past n h low asked
may-low m d past n h all low (held i) = (let f = (ever-covered d past all n h i).floor in omega (arith, f, node-floor m d past n low))

date-low : (m : ℕ) (x : Story) (q : Date) → IsLowStory m (Some x) → q ≡ date_by x.progress.sid0 x.progress.sid
    → date_ident q ≤ m
date-low m x q low is = rw is (by x.progress.sid low)
  where
    by : (o : Option Ident) → IsLowStory m (Some (record x { progress = record x.progress { sid = o } }))
        → date_ident (date_by x.progress.sid0 o) ≤ m
    by None h = h.0
    by (Some sid) h = h.1

story-low : (m : ℕ) (d : DocumentData) (past : List Act) (t : TxId) (x : Story) → EachAct (IsAtMost m) past
    → story d past t ≡ Some x → IsLowStory m (Some x)
story-low m d past t x low is = let P : Option Story → Type 0 = λ o. IsLowStory m o in subst P is (stories-low m d past low t)

-- ---- messages

commit-low : (m : ℕ) (d : DocumentData) (past : List Act) (n y : NodeId) (t : TxId) (f : Ident)
    → EachAct (IsAtMost m) past → CommitDue d past n y t f → f ≤ m
commit-low m d past n y t f low (by_home x is final) =
    let P : Ident → Type 0 = λ g. g ≤ m in
    subst P final (decision-low m t x (journal d past n) (nodes-low m d past low n).journal (undone-decision t x (journal d past n) is))
commit-low m d past n y t f low (by_part got is) = ended-holds (IsLowRecord m) t (outcome.Commit f) (journal d past n) (nodes-low m d past low n).journal is

send-low : (m : ℕ) (d : DocumentData) (past : List Act) (n y : NodeId) (said : Message) → EachAct (IsAtMost m) past
    → SendDue d past n y said → message_ident said ≤ m
send-low m d past n y (message.ReadReq q) low due = date-low m due.story q.date (story-low m d past q.t due.story low due.at.story) due.date
send-low m d past n y (message.ReadRep q) low due =
    let P : List Act → Type 0 = λ p. EachAct (IsAtMost m) p in
    let here = (subst P due.is low).0 in
    omega (arith, here)
send-low m d past n y (message.Prepare q) low due = let is = due.is in rw is (snapshot-low m due.story (story-low m d past q.t due.story low due.at.story))
send-low m d past n y (message.Vote t (ballot.Yes p)) low due = omega (arith, pending-floor t p (journal d past n) due.1, node-floor m d past n low)
send-low m d past n y (message.Vote t (ballot.No why)) low due = (let P : List Act → Type 0 = λ p. EachAct (IsAtMost m) p in (subst P due.2 low).0)
send-low m d past n y (message.Tell t (outcome.Commit f)) low due = commit-low m d past n y t f low due
send-low m d past n y said low due = omega arith

-- ---- acts

abbrev pub head_weight : Head → ℕ
head_weight (head.Prepared t p) = 1
head_weight h = 0

-- a proposal, whether or not its record was kept
abbrev pub weight : Act → ℕ
weight (act.Prepared n t p) = 1
weight (act.Down n (Some h)) = head_weight h
weight a = 0

-- the proposals of a past
abbrev pub proposals : List Act → ℕ
proposals [] = 0
proposals (a ∷ past) = weight a + proposals past

ceiling-low : (k : ℕ) (sid : Ident) → sid ≤ 64 * k → ceiling_of sid ≤ 64 * k
ceiling-low k sid h = omega arith

record-low : (k : ℕ) (d : DocumentData) (past : List Act) (n : NodeId) (h : Head) → EachAct (IsAtMost (64 * k)) past
    → RecordDue d past n h → head_ident (Some h) ≤ 64 * (head_weight h + k)
record-low k d past n (head.Prepared t p) low due =
    let q : Prepare = due.1.asked.prepare in
    let sid : q.sid ≤ 64 * k = got-low (64 * k) past low (record { from = due.1.from; to = n; message = message.Prepare q }) due.1.asked.got in
    let next : (node d past n).next ≤ 64 * k = (nodes-low (64 * k) d past low n).next in
    let is : p ≡ 1 + max (node d past n).next q.sid = due.1.proposal in
    omega arith
record-low k d past n (head.Ended t o) low due = (let h : outcome_ident o ≤ 64 * k = got-low (64 * k) past low (record { from = due.1.from; to = n; message = message.Tell t o }) due.1.got in omega arith)
record-low k d past n (head.Ceiling c) low due =
    let h : due.1.read.sid ≤ 64 * k = read-low (64 * k) d past n due.1.read low due.1.requested in
    let e : ceiling_of due.1.read.sid ≤ 64 * k = ceiling-low k due.1.read.sid h in
    let is : c ≡ ceiling_of due.1.read.sid = due.1.is in
    omega arith
record-low k d past n (head.Decided t f) low due =
    let s = story-low (64 * k) d past t due.1.story low due.1.at.story in
    let most : greatest_vote due.1.story.progress.votes ≤ 64 * k = s.2 in
    let is : f ≡ greatest_vote due.1.story.progress.votes = due.1.some.0 in
    omega arith
record-low k d past n (head.Closed t) low due = omega arith
record-low k d past n head.Compact low due = omega arith

stop-low : (k : ℕ) (d : DocumentData) (past : List Act) (n : NodeId) (h : Option Head)
    → EachAct (IsAtMost (64 * k)) past → StopDue d past n h → head_ident h ≤ 64 * (weight (act.Down n h) + k)
stop-low k d past n None low due = omega arith
stop-low k d past n (Some h) low due = record-low k d past n h low due

refused-low : (m : ℕ) (d : DocumentData) (past : List Act) (n : NodeId) (t : TxId) (q : Prepare) (why : Cause)
    → EachAct (IsAtMost m) past → RefusedFor (journal d past n) t q why → cause_ident why ≤ m
refused-low m d past n t q (cause.Holder u) low due = omega arith
refused-low m d past n t q (cause.Newer key f) low due = (let h : f ≤ commit_id (journal d past n) = newer-low (journal d past n) q.reads q.sid (key, f) due.1 in omega (arith, node-commit m d past n low))

ident-due : (k : ℕ) (d : DocumentData) (past : List Act) (a : Act) → AllDue d past → EachAct (IsAtMost (64 * k)) past
    → IsDue d past a → act_ident a ≤ 64 * (weight a + k)
ident-due k d past (act.Began t n sid0) all low due = (let is : sid0 ≡ first_at d past due.script = due.ident in omega (arith, node-commit (64 * k) d past due.script.home low, floor_at-low (64 * k) d past due.script low))
ident-due k d past (act.Sent m x y said) all low due = omega (arith, send-low (64 * k) d past x y said low due)
ident-due k d past (act.Raised n sid) all low due = (let h : sid ≤ floor (journal d past n) = due.1 in omega (arith, node-floor (64 * k) d past n low))
ident-due k d past (act.Served n t op key sid vn v) all low due =
    let h : sid ≤ 64 * k = may-low (64 * k) d past n (record { t = t; op = op; sid = sid; key = key; from = due.0 }) all low due.1.may in
    let is : vn ≡ (version_for d.cluster (journal d past n) key sid).ident = due.1.ident in
    let e : (version_for d.cluster (journal d past n) key sid).ident ≤ greatest (up_to sid (applied (journal d past n))) = best-low (journal d past n) key _ (up_to sid (applied (journal d past n))) in
    omega (arith, up_to-low sid (applied (journal d past n)))
ident-due k d past (act.Held n t op sid) all low due = omega (arith, read-low (64 * k) d past n (record { t = t; op = op; sid = sid; key = due.0; from = due.1 }) low due.2.requested)
ident-due k d past (act.Taken t op sid v) all low due = omega (arith, got-low (64 * k) past low (record { from = due.from; to = due.n; message = message.ReadRep (record { t = t; op = op; sid = sid; value = v }) }) due.got)
ident-due k d past (act.Prepared n t p) all low due = record-low k d past n (head.Prepared t p) low due
ident-due k d past (act.Refused n t why) all low due = omega (arith, refused-low (64 * k) d past n t due.1.prepare why low due.2)
ident-due k d past (act.Ended n t o) all low due = record-low k d past n (head.Ended t o) low due
ident-due k d past (act.Ceiling n c) all low due = record-low k d past n (head.Ceiling c) low due
ident-due k d past (act.Decided t f) all low due = record-low k d past due.0 (head.Decided t f) low due.1
ident-due k d past (act.Aborted t n why) all low due = (let h : cause_ident why ≤ 64 * k = got-low (64 * k) past low (record { from = n; to = due.n; message = message.Vote t (ballot.No why) }) due.got in omega arith)
ident-due k d past (act.Down n h) all low due = stop-low k d past n h low due
ident-due k d past a all low due = omega arith

pub each-higher : (m k : ℕ) (past : List Act) → m ≤ k → EachAct (IsAtMost m) past → EachAct (IsAtMost k) past
each-higher m k [] le h = tt
each-higher m k (a ∷ past) le h = (omega (arith, le, h.0), each-higher m k past le h.1)

-- no act names an identifier above 64 for each proposal
pub acts-low : (d : DocumentData) (past : List Act) → AllDue d past → EachAct (IsAtMost (64 * proposals past)) past
acts-low d [] due = tt
acts-low d (a ∷ past) due =
    let low : EachAct (IsAtMost (64 * proposals past)) past = acts-low d past due.1 in
    (ident-due (proposals past) d past a due.1 low due.0, each-higher (64 * proposals past) (64 * (weight a + proposals past)) past (omega arith) low)
