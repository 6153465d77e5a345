-- A transaction with a Closed is over: every part has ended it with commit.
use Rattle.std.proofs.Common.{◌≡◌, ℕ, Bool, true, false, List, [], ◌∷◌, ◌++◌, Option, Some, None, refl, sym, subst, arith}
use Rattle.std.proofs.lemmas.Bool.Decides.{nat_tests}
use Rattle.std.specs.Prelude.{is_some, ◌==◌, ◌&&◌, ◌||◌, if◌then◌else◌}
use Rattle.std.specs.List.{list_all}
use Rattle.std.proofs.lemmas.Bool.{and_parts, and_from}
use Rattle.score_base.specs.declared.ids.TxId.{TxId}
use Rattle.score_base.specs.declared.ids.NodeId.{NodeId}
use Rattle.score_base.specs.declared.records.Record.{Record}
use Rattle.score_base.specs.declared.records.Record.TheVariants as record'
use Rattle.script_lang.specs.Scripts.{ScriptData}
use Rattle.placement.specs.Places.{is_among}
use Rattle.grid_model.specs.declared.acts.Act.{Act}
use Rattle.grid_model.specs.declared.acts.Act.TheVariants as act
use Rattle.grid_model.specs.declared.acts.Head.{Head}
use Rattle.grid_model.specs.declared.acts.Head.TheVariants as head
use Rattle.grid_model.specs.declared.messages.Message.TheVariants as message
use Rattle.grid_model.specs.declared.stories.Story.{Story}
use Rattle.grid_model.specs.Documents.{DocumentData}
use Rattle.journal_words.specs.Journals.{Decision, is_closed, undone, has_commit}
use Rattle.grid_model.specs.Nodes.{Node, got, is_home_in, journal, node, script_of, record_of}
use Rattle.grid_model.specs.Stories.{story}
use Rattle.script_runs.specs.Waits.{waiting}
use Rattle.grid_model.specs.Views.{Open, Commits, acks_at, acks_by, open_at, open_stage, stage_by}
use Rattle.grid_model.specs.Facts.{is_over, parts_at}
use Rattle.grid_model.specs.Rows.{are_all_among}
use Rattle.grid_laws.proofs.Causes.{AllDue, ClosedDue, RecordDue}
use Rattle.grid_laws.proofs.Stages.{stage-commits}
use Rattle.grid_laws.proofs.NodesFitActs.{nodes-fit, prepared-is, decision-home, undone-decision}
use Rattle.grid_laws.proofs.MessagesBacked.{commit-more}
use Rattle.grid_laws.proofs.Holds.{NodeHolds, records-hold}
use Rattle.grid_laws.proofs.VotesBacked.{StoryBacked, AllAcks, acks-last, stories-backed, says-sent, acked-each, ack-found}
use Rattle.grid_laws.proofs.NodesFit.{AllHold, HoldsIn}

-- ---- over

all-among : (P : NodeId → Bool) (ns : List NodeId) → ((n : NodeId) → is_among n ns ≡ true → P n ≡ true)
    → list_all P ns ≡ true
all-among P [] go = refl
all-among P (n ∷ ns) go = and_from (P n) (list_all P ns) (go n (grind (arith, nat_tests))) (all-among P ns (λ k i. go k (grind (arith, i))))

all-more : (P Q : NodeId → Bool) (ns : List NodeId) → ((n : NodeId) → P n ≡ true → Q n ≡ true) → list_all P ns ≡ true
    → list_all Q ns ≡ true
all-more P Q [] go h = refl
all-more P Q (n ∷ ns) go h = and_from (Q n) (list_all Q ns) (go n (and_parts (P n) (list_all P ns) h).0) (all-more P Q ns go (and_parts (P n) (list_all P ns) h).1)

pub over-more : (d : DocumentData) (past : List Act) (a : Act) (t : TxId) → is_over d past t ≡ true
    → is_over d (a ∷ past) t ≡ true
over-more d past a t h =
    let then' : NodeId → Bool = λ n. has_commit t (journal d past n) in
    let now' : NodeId → Bool = λ n. has_commit t (journal d (a ∷ past) n) in
    let both = and_parts (is_some (script_of t d.scripts)) (list_all then' (parts_at d t)) h in
    and_from (is_some (script_of t d.scripts)) (list_all now' (parts_at d t)) both.0 (all-more then' now' (parts_at d t) (λ n i. commit-more d past a n t i) both.1)

-- ---- a Closed says that the transaction is over

home-script : (s : Option ScriptData) (n : NodeId) → is_home_in s n ≡ true → is_some s ≡ true
home-script None n h = cc
home-script (Some s) n h = refl

commits-acks : (u : Option Decision) (o : Option Open) (some : List NodeId) (y : Decision) (acks : List NodeId)
    → stage_by u o some ≡ Commits y acks → some ≡ acks
commits-acks (Some z) o some y acks e = cc
commits-acks None (Some x) some y acks e = other (waiting x.script.ops x.progress.values) e
  where
    other : (w : Option ℕ) → open_stage x w ≡ Commits y acks → some ≡ acks
    other None e = cc
    other (Some j) e = cc
commits-acks None None some y acks e = cc

backed-acks : (d : DocumentData) (past : List Act) (n : NodeId) (h : Node) (t : TxId) (s : Option ScriptData)
    (o : Option Story) → StoryBacked d past t o → AllAcks d past t (acks_at n h t s o)
backed-acks d past n h t None o k = tt
backed-acks d past n h t (Some s) o k = go ((s.home == n) && is_some (undone t h.journal)) o k
  where
    go : (b : Bool) (o : Option Story) → StoryBacked d past t o → AllAcks d past t (if b then acks_by o else [])
    go false o k = tt
    go true None k = tt
    go true (Some x) k = k.1

closed-over : (d : DocumentData) (past : List Act) (n : NodeId) (t : TxId) → AllDue d past → ClosedDue d past n t
    → is_over d past t ≡ true
closed-over d past n t all due =
    let P : List Act → Type 0 = λ p. AllDue d p in
    let Q : List Act → Type 0 = λ p. is_over d p t ≡ true in
    let before : List Act = due.before in
    let there : AllDue d (act.Got due.m ∷ before) = subst P due.is all in
    let is : undone t (node d before n).journal ≡ Some due.decision = stage-commits d before n t due.decision due.acks due.stage in
    let here = decision-home d n t due.decision (node d before n).journal (nodes-fit d before there.1 n).homes (undone-decision t due.decision (node d before n).journal is) in
    let parts : due.decision.parts ≡ parts_at d t = here.parts in
    let same : acks_at n (node d before n) t (script_of t d.scripts) (story d before t) ≡ due.acks = commits-acks (undone t (node d before n).journal) (open_at n (node d before n) (script_of t d.scripts) (story d before t)) (acks_at n (node d before n) t (script_of t d.scripts) (story d before t)) due.decision due.acks due.stage in
    let R : List NodeId → Type 0 = λ ks. AllAcks d before t ks in
    let backed : AllAcks d before t due.acks = subst R same (backed-acks d before n (node d before n) t (script_of t d.scripts) (story d before t) (stories-backed d before there.1 t)) in
    let last : has_commit t (journal d before due.from) ≡ true = says-sent d before there.1 due.m (record { from = due.from; to = n; message = message.Ack t }) due.got in
    let acks : List NodeId = due.acks ++ due.from ∷ [] in
    let each : AllAcks d before t acks = acks-last d before t due.acks due.from backed last in
    let S : List NodeId → Type 0 = λ ns. are_all_among ns acks ≡ true in
    let full : are_all_among (parts_at d t) acks ≡ true = subst S parts due.all in
    let ended = all-among (λ k. has_commit t (journal d before k)) (parts_at d t) (λ k i. ack-found d before t k acks each (acked-each k (parts_at d t) acks full i)) in
    let over : is_over d before t ≡ true = and_from _ _ (home-script (script_of t d.scripts) n here.home) ended in
    subst Q (sym due.is) (over-more d before (act.Got due.m) t over)

abbrev pub ClosedSays : DocumentData → List Act → NodeId → Record → Type 0
ClosedSays d past n (record'.Closed t) = is_over d past t ≡ true
ClosedSays d past n y = Unit {0}

closed-more : (d : DocumentData) (past : List Act) (a : Act) (n : NodeId) (y : Record) → ClosedSays d past n y
    → ClosedSays d (a ∷ past) n y
closed-more d past a n (record'.Closed t) s = over-more d past a t s
closed-more d past a n y s = tt

closed-due : (d : DocumentData) (past : List Act) (n : NodeId) (h : Head) → AllDue d past → RecordDue d past n h
    → HoldsIn (ClosedSays d past n) (record_of d (got past) h)
closed-due d past n (head.Closed t) all due = closed-over d past n t all due.1
closed-due d past n (head.Prepared t p) all due = let P : Option Record → Type 0 = λ o. HoldsIn (ClosedSays d past n) o in subst P (sym (prepared-is d past n t p due.1)) tt
closed-due d past n h all due = tt

pub closed-say : (d : DocumentData) (past : List Act) → AllDue d past → (n : NodeId)
    → NodeHolds (ClosedSays d past n) (node d past n)
closed-say d past due n = records-hold (ClosedSays d) d past (λ now a k y all h. closed-more d now a k y h) (λ now k h all r. closed-due d now k h all r) due n

closed-here : (d : DocumentData) (past : List Act) (t u : TxId) (b rest : Bool) → (u == t) ≡ b → is_over d past u ≡ true
    → (b || rest) ≡ true → (rest ≡ true → is_over d past t ≡ true) → is_over d past t ≡ true
closed-here d past t u true rest same over e go =
    let is : u ≡ t = grind (arith, nat_tests) in
    let P : TxId → Type 0 = λ w. is_over d past w ≡ true in
    subst P is over
closed-here d past t u false rest same over e go = go e

pub closed-stands : (d : DocumentData) (past : List Act) (n : NodeId) (t : TxId) (r : List Record)
    → AllHold (ClosedSays d past n) r → is_closed t r ≡ true → is_over d past t ≡ true
closed-stands d past n t [] says e = cc
closed-stands d past n t (record'.Closed u ∷ r) says e = closed-here d past t u (u == t) (is_closed t r) refl says.0 e (λ i. closed-stands d past n t r says.1 i)
closed-stands d past n t (record'.Decided u f parts ∷ r) says e = closed-stands d past n t r says.1 (not-decided (u == t) (is_closed t r) e)
  where
    not-decided : (b c : Bool) → (if b then false else c) ≡ true → c ≡ true
    not-decided true c i = cc
    not-decided false c i = i
closed-stands d past n t (record'.Prepared u home parts sid p reads writes ∷ r) says e = closed-stands d past n t r says.1 e
closed-stands d past n t (record'.Ended u o ∷ r) says e = closed-stands d past n t r says.1 e
closed-stands d past n t (record'.Ceiling c ∷ r) says e = closed-stands d past n t r says.1 e
