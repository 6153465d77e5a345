-- The votes and the acknowledgements that a home took stand in the records of their senders.
use Rattle.std.proofs.Common.{◌≡◌, ℕ, ◌≤◌, ◌<◌, Bool, true, false, List, [], ◌∷◌, ◌++◌, Option, Some, None, refl, subst, ◌∙◌, arith}
use Rattle.std.proofs.lemmas.Bool.Decides.{nat_tests}
use Rattle.std.specs.Prelude.{max, ◌==◌, ◌&&◌, ◌||◌, if◌then◌else◌, nat_le}
use Rattle.std.proofs.lemmas.Bool.{and_parts, eqb-true}
use Rattle.score_base.specs.declared.ids.TxId.{TxId}
use Rattle.score_base.specs.declared.ids.NodeId.{NodeId}
use Rattle.score_base.specs.declared.ids.Ident.{Ident}
use Rattle.score_base.specs.declared.causes.Ballot.TheVariants as ballot
use Rattle.score_base.specs.declared.records.Record.{Record}
use Rattle.script_lang.specs.Scripts.{ScriptData}
use Rattle.placement.specs.Places.{is_among}
use Rattle.grid_model.specs.declared.acts.Act.{Act}
use Rattle.grid_model.specs.declared.acts.Act.TheVariants as act
use Rattle.grid_model.specs.declared.messages.Envelope.{Envelope}
use Rattle.grid_model.specs.declared.messages.Message.{Message}
use Rattle.grid_model.specs.declared.messages.Message.TheVariants as message
use Rattle.grid_model.specs.declared.stories.Story.{Story}
use Rattle.grid_model.specs.declared.stories.Voted.{Voted}
use Rattle.grid_model.specs.Documents.{DocumentData}
use Rattle.grid_model.specs.Histories.{sent, sent_at}
use Rattle.grid_model.specs.Nodes.{Node, node, journal, script_of, parts_of, is_home}
use Rattle.grid_model.specs.Stories.{Phase, Collecting, story, asked, heard, heard_at, if_told, phase_at, with_vote, with_ack, has_voted, is_counted_vote, is_counted_ack, begun_in, progressed}
use Rattle.journal_words.specs.Journals.{has_prepared, has_commit}
use Rattle.grid_model.specs.Facts.{parts_at, Says}
use Rattle.grid_model.specs.Rows.{greatest_vote, have_voted, are_all_among}
use Rattle.grid_model.proofs.Undecided.{script-number}
use Rattle.grid_laws.proofs.Causes.{AllDue}
use Rattle.grid_laws.proofs.Holds.{sent-hold}
use Rattle.grid_laws.proofs.MessagesBacked.{says-more, says-due, prepared-more, commit-more}

-- each message that was sent, with its sender
pub says-sent : (d : DocumentData) (past : List Act) → AllDue d past → (m : ℕ) (e : Envelope)
    → sent_at m (sent past) ≡ Some e → Says d past e.from e.message
says-sent d past due = sent-hold (λ now n y said. Says d now n said) d past (λ now a n y said all h. says-more d now a n said h) (λ now n y said all h. says-due d now n y said all h) due

-- ---- what a story has

abbrev pub VoteHolds : DocumentData → List Act → TxId → Voted → Type 0
VoteHolds d past t v = (has_prepared t v.p (journal d past v.from) ≡ true) × (is_among v.from (parts_at d t) ≡ true)

abbrev pub AllVotes : DocumentData → List Act → TxId → List Voted → Type 0
AllVotes d past t [] = Unit {0}
AllVotes d past t (v ∷ vs) = VoteHolds d past t v × AllVotes d past t vs

abbrev pub AllAcks : DocumentData → List Act → TxId → List NodeId → Type 0
AllAcks d past t [] = Unit {0}
AllAcks d past t (k ∷ ks) = (has_commit t (journal d past k) ≡ true) × AllAcks d past t ks

abbrev pub StoryBacked : DocumentData → List Act → TxId → Option Story → Type 0
StoryBacked d past t None = Unit {0}
StoryBacked d past t (Some x) = AllVotes d past t x.progress.votes × AllAcks d past t x.acks

votes-last : (d : DocumentData) (past : List Act) (t : TxId) (vs : List Voted) (v : Voted) → AllVotes d past t vs
    → VoteHolds d past t v → AllVotes d past t (vs ++ v ∷ [])
votes-last d past t [] v h k = (k, tt)
votes-last d past t (w ∷ vs) v h k = (h.0, votes-last d past t vs v h.1 k)

pub acks-last : (d : DocumentData) (past : List Act) (t : TxId) (ks : List NodeId) (k : NodeId) → AllAcks d past t ks
    → has_commit t (journal d past k) ≡ true → AllAcks d past t (ks ++ k ∷ [])
acks-last d past t [] k h i = (i, tt)
acks-last d past t (j ∷ ks) k h i = (h.0, acks-last d past t ks k h.1 i)

votes-more : (d : DocumentData) (past : List Act) (a : Act) (t : TxId) (vs : List Voted) → AllVotes d past t vs
    → AllVotes d (a ∷ past) t vs
votes-more d past a t [] h = tt
votes-more d past a t (v ∷ vs) h = ((prepared-more d past a v.from t v.p h.0.0, h.0.1), votes-more d past a t vs h.1)

acks-more : (d : DocumentData) (past : List Act) (a : Act) (t : TxId) (ks : List NodeId) → AllAcks d past t ks
    → AllAcks d (a ∷ past) t ks
acks-more d past a t [] h = tt
acks-more d past a t (k ∷ ks) h = (commit-more d past a k t h.0, acks-more d past a t ks h.1)

story-more : (d : DocumentData) (past : List Act) (a : Act) (t : TxId) (o : Option Story) → StoryBacked d past t o
    → StoryBacked d (a ∷ past) t o
story-more d past a t None h = tt
story-more d past a t (Some x) h = (votes-more d past a t x.progress.votes h.0, acks-more d past a t x.acks h.1)

-- ---- one act

if-backed : (d : DocumentData) (past : List Act) (t : TxId) (b : Bool) (f : Story → Story) (o : Option Story)
    → (b ≡ true → (x : Story) → StoryBacked d past t (Some x) → StoryBacked d past t (Some (f x)))
    → StoryBacked d past t o → StoryBacked d past t (if_told b f o)
if-backed d past t b f None go h = h
if-backed d past t true f (Some x) go h = go refl x h
if-backed d past t false f (Some x) go h = h

either-backed : (d : DocumentData) (past : List Act) (t : TxId) (b : Bool) (o p : Option Story)
    → (b ≡ true → StoryBacked d past t o) → StoryBacked d past t p → StoryBacked d past t (if b then o else p)
either-backed d past t true o p h k = h refl
either-backed d past t false o p h k = k

with-vote : (d : DocumentData) (past : List Act) (t : TxId) (n : NodeId) (p : Ident) (x : Story) (b : Bool) → VoteHolds d past t (record { from = n; p = p }) → StoryBacked d past t (Some x) → StoryBacked d past t (Some (record x { progress = record x.progress { votes = if b then x.progress.votes else x.progress.votes ++ record { from = n; p = p } ∷ [] } }))
with-vote d past t n p x true v h = h
with-vote d past t n p x false v h = (votes-last d past t x.progress.votes (record { from = n; p = p }) h.0 v, h.1)

with-ack : (d : DocumentData) (past : List Act) (t : TxId) (n : NodeId) (x : Story) (b : Bool)
    → has_commit t (journal d past n) ≡ true → StoryBacked d past t (Some x)
    → StoryBacked d past t (Some (record x { acks = if b then x.acks else x.acks ++ n ∷ [] }))
with-ack d past t n x true v h = h
with-ack d past t n x false v h = (h.0, acks-last d past t x.acks n h.1 v)

counted-part : (ns : List NodeId) (p : Phase) (r : List Record) (next : Ident) (x : NodeId) (q : Ident)
    → is_counted_vote ns p r next x q ≡ true → is_among x ns ≡ true
counted-part ns Collecting r next x q h = grind (arith, h)
counted-part ns w r next x q h = cc

backed-heard : (d : DocumentData) (past : List Act) (t : TxId) (s : ScriptData) (p : Phase) (h : Node) (x : NodeId)
    (said : Message) (o : Option Story) → script_of t d.scripts ≡ Some s → Says d past x said → StoryBacked d past t o
    → StoryBacked d past t (heard (parts_of d s) p h s.number x said o)
backed-heard d past t s p h x (message.Vote u (ballot.Yes q)) o is says k =
    if-backed d past t ((u == s.number) && is_counted_vote (parts_of d s) p h.journal h.next x q) (progressed (with_vote x q)) o
    (λ e y i.
    let number : s.number ≡ t = script-number t d.scripts s is in
    let here : u ≡ s.number = eqb-true u s.number (and_parts (u == s.number) (is_counted_vote (parts_of d s) p h.journal h.next x q) e).0 in
    let part : is_among x (parts_of d s) ≡ true = counted-part (parts_of d s) p h.journal h.next x q (and_parts (u == s.number) (is_counted_vote (parts_of d s) p h.journal h.next x q) e).1 in
    let P : TxId → Type 0 = λ w. has_prepared w q (journal d past x) ≡ true in
    with-vote d past t x q y (has_voted x y.progress.votes) (subst P (here ∙ number) says, rw is part) i)
    k
backed-heard d past t s p h x (message.Ack u) o is says k =
    if-backed d past t ((u == s.number) && is_counted_ack (parts_of d s) p h.journal h.next x) (with_ack x) o
    (λ e y i.
    let number : s.number ≡ t = script-number t d.scripts s is in
    let here : u ≡ s.number = eqb-true u s.number (and_parts (u == s.number) (is_counted_ack (parts_of d s) p h.journal h.next x) e).0 in
    let P : TxId → Type 0 = λ w. has_commit w (journal d past x) ≡ true in
    with-ack d past t x y (is_among x y.acks) (subst P (here ∙ number) says) i)
    k
backed-heard d past t s p h x said o is says k = k

backed-got : (d : DocumentData) (now past : List Act) (t : TxId) (w : Option ScriptData) (m : Option Envelope)
    (o : Option Story) → script_of t d.scripts ≡ w → ((e : Envelope) → m ≡ Some e → Says d now e.from e.message)
    → StoryBacked d now t o → StoryBacked d now t (heard_at d past w m o)
backed-got d now past t None m o is says k = k
backed-got d now past t (Some s) None o is says k = k
backed-got d now past t (Some s) (Some e) o is says k = either-backed d now t (e.to == s.home) (heard (parts_of d s) (phase_at s o (node d past s.home)) (node d past s.home) s.number e.from e.message o) o (λ i. backed-heard d now t s (phase_at s o (node d past s.home)) (node d past s.home) e.from e.message o is (says e refl) k) k

backed-asked : (d : DocumentData) (past : List Act) (t : TxId) (said : Message) (o : Option Story)
    → StoryBacked d past t o → StoryBacked d past t (asked d t said o)
backed-asked d past t (message.ReadReq q) o k = if-backed d past t (q.t == t) _ o (λ e x i. i) k
backed-asked d past t said o k = k

backed-told : (d : DocumentData) (past : List Act) (a : Act) (t : TxId) → AllDue d past
    → StoryBacked d (a ∷ past) t (story d past t) → StoryBacked d (a ∷ past) t (story d (a ∷ past) t)
backed-told d past (act.Began u n sid0) t all k = either-backed d (act.Began u n sid0 ∷ past) t (u == t) (Some (begun_in d (node d past) t sid0)) (story d past t) (λ e. (tt, tt)) k
backed-told d past (act.Sent m x y said) t all k = backed-asked d (act.Sent m x y said ∷ past) t said (story d past t) k
backed-told d past (act.Got m) t all k = backed-got d (act.Got m ∷ past) past t (script_of t d.scripts) (sent_at m (sent past)) (story d past t) refl (λ e is. says-more d past (act.Got m) e.from e.message (says-sent d past all m e is)) k
backed-told d past (act.Taken u j sid v) t all k = if-backed d (act.Taken u j sid v ∷ past) t (u == t) _ (story d past t) (λ e x i. i) k
backed-told d past (act.Finished u) t all k = if-backed d (act.Finished u ∷ past) t (u == t) _ (story d past t) (λ e x i. i) k
backed-told d past (act.Aborted u n why) t all k = if-backed d (act.Aborted u n why ∷ past) t (u == t) _ (story d past t) (λ e x i. i) k
backed-told d past (act.Lost u) t all k = if-backed d (act.Lost u ∷ past) t (u == t) _ (story d past t) (λ e x i. i) k
backed-told d past (act.Down n h) t all k = if-backed d (act.Down n h ∷ past) t (is_home d t n) _ (story d past t) (λ e x i. (tt, tt)) k
backed-told d past a t all k = k

-- the story of each transaction
pub stories-backed : (d : DocumentData) (past : List Act) → AllDue d past → (t : TxId)
    → StoryBacked d past t (story d past t)
stories-backed d [] due t = tt
stories-backed d (a ∷ past) due t = backed-told d past a t due.1 (story-more d past a t (story d past t) (stories-backed d past due.1 t))

-- ---- what was counted

abbrev pub FoundVote : DocumentData → List Act → TxId → NodeId → Ident → Type 0
FoundVote d past t n most = (p : Ident) × (has_prepared t p (journal d past n) ≡ true) × (p ≤ most)

found-here : (d : DocumentData) (past : List Act) (t : TxId) (n : NodeId) (v : Voted) (vs : List Voted) (b : Bool)
    → (v.from == n) ≡ b → VoteHolds d past t v → (b || has_voted n vs) ≡ true
    → (has_voted n vs ≡ true → FoundVote d past t n (greatest_vote vs))
    → FoundVote d past t n (max v.p (greatest_vote vs))
found-here d past t n v vs true same h e go =
    let is : v.from ≡ n = grind (arith, nat_tests) in
    let P : NodeId → Type 0 = λ k. has_prepared t v.p (journal d past k) ≡ true in
    (v.p, subst P is h.0, omega arith)
found-here d past t n v vs false same h e go = let w = go e in (w.0, w.1, omega (arith, w.2))

-- the proposal of a node whose vote was taken
pub vote-found : (d : DocumentData) (past : List Act) (t : TxId) (n : NodeId) (vs : List Voted) → AllVotes d past t vs
    → has_voted n vs ≡ true → FoundVote d past t n (greatest_vote vs)
vote-found d past t n [] h e = cc
vote-found d past t n (v ∷ vs) h e = found-here d past t n v vs (v.from == n) refl h.0 e (λ i. vote-found d past t n vs h.1 i)

abbrev pub FoundPart : DocumentData → List Act → TxId → Ident → Type 0
FoundPart d past t f = (n : NodeId) × (is_among n (parts_at d t) ≡ true) × (has_prepared t f (journal d past n) ≡ true)

part-here : (d : DocumentData) (past : List Act) (t : TxId) (v : Voted) (vs : List Voted) (b : Bool)
    → nat_le (greatest_vote vs) v.p ≡ b → VoteHolds d past t v → 1 ≤ max v.p (greatest_vote vs)
    → (1 ≤ greatest_vote vs → FoundPart d past t (greatest_vote vs)) → FoundPart d past t (max v.p (greatest_vote vs))
part-here d past t v vs true e h least go =
    let is : v.p ≡ max v.p (greatest_vote vs) = (let le : greatest_vote vs ≤ v.p = grind (arith, nat_tests) in omega arith) in
    let P : Ident → Type 0 = λ f. has_prepared t f (journal d past v.from) ≡ true in
    (v.from, h.1, subst P is h.0)
part-here d past t v vs false e h least go =
    let lt : v.p < greatest_vote vs = grind (arith, nat_tests) in
    let is : greatest_vote vs ≡ max v.p (greatest_vote vs) = omega arith in
    let P : Ident → Type 0 = λ f. FoundPart d past t f in
    subst P is (go (omega arith))

-- the part whose proposal is the greatest
pub vote-greatest : (d : DocumentData) (past : List Act) (t : TxId) (vs : List Voted) → AllVotes d past t vs
    → 1 ≤ greatest_vote vs → FoundPart d past t (greatest_vote vs)
vote-greatest d past t [] h least = absurd (omega arith)
vote-greatest d past t (v ∷ vs) h least = part-here d past t v vs (nat_le (greatest_vote vs) v.p) refl h.0 least (λ i. vote-greatest d past t vs h.1 i)

pub voted-each : (n : NodeId) (ns : List NodeId) (vs : List Voted) → have_voted ns vs ≡ true → is_among n ns ≡ true
    → has_voted n vs ≡ true
voted-each n [] vs all e = cc
voted-each n (m ∷ ns) vs all e = grind (arith, nat_tests, all, e, voted-each n ns vs)

pub acked-each : (n : NodeId) (ns ms : List NodeId) → are_all_among ns ms ≡ true → is_among n ns ≡ true
    → is_among n ms ≡ true
acked-each n [] ms all e = cc
acked-each n (m ∷ ns) ms all e = grind (arith, nat_tests, all, e, acked-each n ns ms)

ack-here : (d : DocumentData) (past : List Act) (t : TxId) (n k : NodeId) (ks : List NodeId) (b : Bool) → (k == n) ≡ b
    → has_commit t (journal d past k) ≡ true → (b || is_among n ks) ≡ true
    → (is_among n ks ≡ true → has_commit t (journal d past n) ≡ true) → has_commit t (journal d past n) ≡ true
ack-here d past t n k ks true same h e go =
    let is : k ≡ n = grind (arith, nat_tests) in
    let P : NodeId → Type 0 = λ j. has_commit t (journal d past j) ≡ true in
    subst P is h
ack-here d past t n k ks false same h e go = go e

pub ack-found : (d : DocumentData) (past : List Act) (t : TxId) (n : NodeId) (ks : List NodeId) → AllAcks d past t ks
    → is_among n ks ≡ true → has_commit t (journal d past n) ≡ true
ack-found d past t n [] h e = cc
ack-found d past t n (k ∷ ks) h e = ack-here d past t n k ks (k == n) refl h.0 e (λ i. ack-found d past t n ks h.1 i)
