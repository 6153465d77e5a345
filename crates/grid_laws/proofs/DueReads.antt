-- The rows that serve and hold reads: what they give is due.
use Rattle.std.proofs.Common.{◌≡◌, ℕ, ◌+◌, ◌≤◌, ◌<◌, inl, inr, Bool, true, false, List, [], ◌∷◌, ◌++◌, refl, sym, ap, subst, ◌∙◌, arith}
use Rattle.std.proofs.lemmas.Bool.Decides.{nat_tests}
use Rattle.std.specs.Prelude.{max, nat_lt, if◌then◌else◌}
use Rattle.score_base.specs.declared.ids.TxId.{TxId}
use Rattle.score_base.specs.declared.ids.NodeId.{NodeId}
use Rattle.score_base.specs.declared.ids.Ident.{Ident}
use Rattle.score_base.specs.declared.ids.Value.{Value}
use Rattle.score_base.specs.declared.keys.Key.{Key}
use Rattle.score_base.specs.declared.records.Record.{Record}
use Rattle.score_base.specs.declared.records.Record.TheVariants as record'
use Rattle.grid_model.specs.declared.acts.Act.{Act}
use Rattle.grid_model.specs.declared.acts.Act.TheVariants as act
use Rattle.grid_model.specs.declared.events.Out.{Out}
use Rattle.grid_model.specs.declared.events.Out.TheVariants as out
use Rattle.grid_model.specs.declared.messages.Message.TheVariants as message
use Rattle.grid_model.specs.declared.messages.ReadReq.{ReadReq}
use Rattle.grid_model.specs.declared.stories.HeldRead.{HeldRead}
use Rattle.journal_words.specs.declared.versions.Version.{Version}
use Rattle.grid_model.specs.Documents.{DocumentData}
use Rattle.journal_words.specs.Journals.{applied, applied_of, best, commits, commit_id, floor, greatest, is_clear, up_to, version_at}
use Rattle.grid_model.specs.Nodes.{node, journal}
use Rattle.grid_model.specs.Views.{View, participant}
use Rattle.grid_model.specs.Rows.{served, release, ceiling_of, raises, answered, read_outs, version_for}
use Rattle.grid_laws.proofs.Causes.{IsUp, IsGot, IsIn, held_ever, Requested, Covered, MayServe, at_once, held}
use Rattle.grid_laws.proofs.Frames.{up-stays, journal-stays, same-number}
use Rattle.grid_laws.proofs.DueActs.{OutsDue}

-- ---- a ceiling changes no version

applied-ceiling : (c : Ident) (r : List Record) (xs : List (TxId × Ident))
    → applied_of (record'.Ceiling c ∷ r) xs ≡ applied_of r xs
applied-ceiling c r [] = refl
applied-ceiling c r (x ∷ xs) = ap (λ ys. if is_clear x.1 r then x ∷ ys else ys) (applied-ceiling c r xs)

best-ceiling : (c : Ident) (r : List Record) (k : Key) (v : Value) (xs : List (TxId × Ident))
    → best (record'.Ceiling c ∷ r) k v xs ≡ best r k v xs
best-ceiling c r k v [] = refl
best-ceiling c r k v (x ∷ xs) = rw (best-ceiling c r k v xs) refl

pub commit_id-ceiling : (c : Ident) (r : List Record) → commit_id (record'.Ceiling c ∷ r) ≡ commit_id r
commit_id-ceiling c r = ap greatest (applied-ceiling c r (commits r))

pub version-ceiling : (c : Ident) (r : List Record) (k : Key) (v : Value) (s : Ident)
    → version_at (record'.Ceiling c ∷ r) k v s ≡ version_at r k v s
version-ceiling c r k v s = best-ceiling c r k v (up_to s (applied (record'.Ceiling c ∷ r))) ∙ ap (λ xs. best r k v (up_to s xs)) (applied-ceiling c r (commits r))

-- ---- a read that is served

pub due-served : (d : DocumentData) (past : List Act) (n : NodeId) (m : ℕ) (h : HeldRead) (w : Version)
    (rest : List Out) → IsUp d past n → MayServe d past n h → is_clear h.sid (journal d past n) ≡ true
    → w ≡ version_for d.cluster (journal d past n) h.key h.sid → OutsDue d
    (act.Sent m n h.from (message.ReadRep (record { t = h.t; op = h.op; sid = h.sid; value = w.value }))
    ∷ (act.Served n h.t h.op h.key h.sid w.ident w.value ∷ past)) n (m + 1) rest
    → OutsDue d past n m (served n h.t h.op h.key h.sid h.from w ++ rest)
due-served d past n m h w rest up may clear is more = (
  (h.from, record { up = up; may = may; clear = clear; ident = ap (λ (b : Version). b.ident) is; value = ap (λ (b : Version). b.value) is }),
  (record { key = h.key; vn = w.ident; before = past; is = refl; may = may }, more),
)

-- ---- the reads that an end frees

release-one : (d : DocumentData) (past : List Act) (n : NodeId) (m : ℕ) (r : List Record) (h : HeldRead)
    (rest : List Out) (b : Bool) → IsUp d past n → journal d past n ≡ r → IsIn h (held_ever d past n)
    → is_clear h.sid r ≡ b → ((now : List Act) (k : ℕ) → IsUp d now n → journal d now n ≡ r
    → held_ever d now n ≡ held_ever d past n → OutsDue d now n k rest) → OutsDue d past n m
    ((if b then served n h.t h.op h.key h.sid h.from (version_for d.cluster r h.key h.sid) else []) ++ rest)
release-one d past n m r h rest true up is ever e go =
    let w : Version = version_for d.cluster r h.key h.sid in
    let serve : Act = act.Served n h.t h.op h.key h.sid w.ident w.value in
    let reply : Act = act.Sent m n h.from (message.ReadRep (record { t = h.t; op = h.op; sid = h.sid; value = w.value })) in
    due-served d past n m h w rest up (held ever) (rw is e) (rw is refl) (go (reply ∷ (serve ∷ past)) (m + 1) (up-stays d past serve n refl ∙ up) (journal-stays d past serve n refl ∙ is) refl)
release-one d past n m r h rest false up is ever e go = go past m up is refl

pub due-release : (d : DocumentData) (past : List Act) (n : NodeId) (m : ℕ) (r : List Record) (hs : List HeldRead)
    → IsUp d past n → journal d past n ≡ r → ((h : HeldRead) → IsIn h hs → IsIn h (held_ever d past n))
    → OutsDue d past n m (release d.cluster r n hs)
due-release d past n m r [] up is ever = tt
due-release d past n m r (h ∷ hs) up is ever =
    release-one d past n m r h (release d.cluster r n hs) (is_clear h.sid r) up is (ever h (inl refl)) refl
    (λ now k up' is' same. due-release d now n k r hs up' is' (λ i j. let P : List HeldRead → Type 0 = λ l. IsIn i l in subst P (sym same) (ever i (inr j))))

-- ---- a request

abbrev pub read_by : NodeId → ReadReq → Ident → HeldRead
read_by x q sid = record { t = q.t; op = q.op; sid = sid; key = q.key; from = x }

due-answered : (d : DocumentData) (past : List Act) (n : NodeId) (m : ℕ) (x : NodeId) (q : ReadReq) (sid : Ident)
    (w : Version) (b : Bool) → IsUp d past n → Requested d past n (read_by x q sid) → Covered d past n sid
    → is_clear sid (journal d past n) ≡ b → w ≡ version_for d.cluster (journal d past n) q.key sid
    → OutsDue d past n m (answered b n x q sid w)
due-answered d past n m x q sid w true up asked cover clear is = due-served d past n m (read_by x q sid) w [] up (at_once asked cover) clear is tt
due-answered d past n m x q sid w false up asked cover clear is = ((q.key, x, record { up = up; requested = asked; covered = cover; waits = clear }), tt)

next-raised : (d : DocumentData) (past : List Act) (n : NodeId) (sid : Ident)
    → (node d (act.Raised n sid ∷ past) n).next ≡ max sid (node d past n).next
next-raised d past n sid = rw (same-number n) refl

requested-more : (d : DocumentData) (past : List Act) (a : Act) (n : NodeId) (h : HeldRead)
    → commit_id (journal d (a ∷ past) n) ≡ commit_id (journal d past n) → Requested d past n h
    → ((x : NodeId) (q : ReadReq) → IsGot past n x (message.ReadReq q) → IsGot (a ∷ past) n x (message.ReadReq q))
    → Requested d (a ∷ past) n h
requested-more d past a n h same asked go =
    record { request = asked.request; got = go h.from asked.request asked.got; fit = asked.fit; t = asked.t; op = asked.op; key = asked.key; sid = rw same asked.sid }

due-raises : (d : DocumentData) (past : List Act) (n : NodeId) (m : ℕ) (x : NodeId) (q : ReadReq) (sid : Ident)
    (w : Version) (r : List Record) (next : Ident) → IsUp d past n → Requested d past n (read_by x q sid)
    → sid ≤ floor (journal d past n) → (node d past n).next ≡ next → is_clear sid (journal d past n) ≡ is_clear sid r
    → w ≡ version_for d.cluster (journal d past n) q.key sid
    → OutsDue d past n m (raises n next sid ++ answered (is_clear sid r) n x q sid w)
due-raises d past n m x q sid w r next up asked low is clear version = go (nat_lt next sid) refl
  where
    go : (b : Bool) → nat_lt next sid ≡ b → OutsDue d past n m
        ((if b then out.Act (act.Raised n sid) ∷ [] else []) ++ answered (is_clear sid r) n x q sid w)
    go true e =
        let a : Act = act.Raised n sid in
        let same : journal d (a ∷ past) n ≡ journal d past n = journal-stays d past a n refl in
        let cover : Covered d (a ∷ past) n sid = record { floor = rw same low; next = rw (next-raised d past n sid) (omega arith) } in
        ((up, low), due-answered d (a ∷ past) n m x q sid w (is_clear sid r) (up-stays d past a n refl ∙ up) (requested-more d past a n (read_by x q sid) (ap commit_id same) asked (λ y p g. g)) cover (rw same clear) (rw same version))
    go false e = due-answered d past n m x q sid w (is_clear sid r) up asked (record { floor = low; next = grind (arith, nat_tests) }) clear version

journal-ceiling : (d : DocumentData) (past : List Act) (n : NodeId) (c : Ident)
    → journal d (act.Ceiling n c ∷ past) n ≡ record'.Ceiling c ∷ journal d past n
journal-ceiling d past n c = rw (same-number n, journal) refl

next-ceiling : (d : DocumentData) (past : List Act) (n : NodeId) (c : Ident)
    → (node d (act.Ceiling n c ∷ past) n).next ≡ (node d past n).next
next-ceiling d past n c = rw (same-number n) refl

pub ceiling-above : (sid : Ident) → sid ≤ ceiling_of sid
ceiling-above sid = omega arith

-- a request that n dates so
pub due-read : (d : DocumentData) (past : List Act) (n : NodeId) (m : ℕ) (v : View) (x : NodeId) (q : ReadReq)
    (sid : Ident) → v.cluster ≡ d.cluster → v.journal ≡ journal d past n → v.next ≡ (node d past n).next → IsUp d past n
    → Requested d past n (read_by x q sid) → OutsDue d past n m (read_outs n (participant v) x q sid)
due-read d past n m v x q sid cluster is clock up asked = rw (cluster, is, clock) (go (nat_lt (floor (journal d past n)) sid) refl)
  where
    r : List Record
    r = journal d past n

    w : Version
    w = version_for d.cluster r q.key sid

    rest : List Out
    rest = raises n (node d past n).next sid ++ answered (is_clear sid r) n x q sid w

    go : (b : Bool) → nat_lt (floor r) sid ≡ b
        → OutsDue d past n m ((if b then out.Act (act.Ceiling n (ceiling_of sid)) ∷ [] else []) ++ rest)
    go true e =
        let c : Ident = ceiling_of sid in
        let a : Act = act.Ceiling n c in
        let same : journal d (a ∷ past) n ≡ record'.Ceiling c ∷ r = journal-ceiling d past n c in
        let above : floor r < sid = grind (arith, nat_tests) in (
          (refl, (up, record { read = read_by x q sid; requested = asked; above = above; is = refl })),
          due-raises d (a ∷ past) n m x q sid w r (node d past n).next (up-stays d past a n refl ∙ up) (requested-more d past a n (read_by x q sid) (ap commit_id same ∙ commit_id-ceiling c r) asked (λ y p g. g)) (rw same (omega (arith, ceiling-above sid))) (next-ceiling d past n c) (rw same refl) (rw same (sym (version-ceiling c r q.key _ sid))),
        )
    go false e = due-raises d past n m x q sid w r (node d past n).next up asked (grind (arith, nat_tests)) refl refl refl
