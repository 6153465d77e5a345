-- Which acts the outs of each row may have: one walk over the rows, for every test on acts.
use Rattle.std.proofs.Common.{◌≡◌, ℕ, ◌+◌, Bool, true, false, List, [], ◌∷◌, ◌++◌, Option, Some, None, refl, ◌∙◌}
use Rattle.std.specs.Prelude.{map, filter, is_some, nat_lt, ◌==◌, ◌&&◌, ◌||◌, if◌then◌else◌}
use Rattle.std.specs.List.{flat_map, list_all}
use Rattle.std.proofs.lemmas.Bool.{and_parts, and_from}
use Rattle.std.proofs.lemmas.List.Folds.{list_all-append}
use Rattle.score_base.specs.declared.ids.TxId.{TxId}
use Rattle.score_base.specs.declared.ids.NodeId.{NodeId}
use Rattle.score_base.specs.declared.ids.Ident.{Ident}
use Rattle.score_base.specs.declared.ids.Value.{Value}
use Rattle.score_base.specs.declared.keys.Key.{Key}
use Rattle.score_base.specs.declared.causes.Ballot.{Ballot}
use Rattle.score_base.specs.declared.causes.Ballot.TheVariants as ballot
use Rattle.score_base.specs.declared.causes.Outcome.{Outcome}
use Rattle.score_base.specs.declared.causes.Outcome.TheVariants as outcome
use Rattle.score_base.specs.declared.records.Record.{Record}
use Rattle.score_base.specs.declared.records.Record.TheVariants as record'
use Rattle.script_lang.specs.Scripts.{ScriptData}
use Rattle.script_lang.specs.declared.scripts.Op.{Op}
use Rattle.script_lang.specs.Reads.{is_update}
use Rattle.placement.specs.Places.{is_among, others}
use Rattle.placement.specs.Clusters.{ClusterData}
use Rattle.journal_words.specs.declared.versions.Version.{Version}
use Rattle.journal_words.specs.Journals.{names_part, ended, floor, home_of, is_clear, is_commit, pending}
use Rattle.script_runs.specs.Walks.{op_at, own_reads, unread}
use Rattle.script_runs.specs.Waits.{waiting}
use Rattle.grid_model.specs.declared.acts.Act.{Act}
use Rattle.grid_model.specs.declared.acts.Act.TheVariants as act
use Rattle.grid_model.specs.declared.acts.Flag.TheVariants as flag
use Rattle.grid_model.specs.declared.acts.Head.{Head}
use Rattle.grid_model.specs.declared.events.Out.{Out}
use Rattle.grid_model.specs.declared.events.Out.TheVariants as out
use Rattle.grid_model.specs.declared.messages.Message.{Message}
use Rattle.grid_model.specs.declared.messages.Message.TheVariants as message
use Rattle.grid_model.specs.declared.messages.Prepare.{Prepare}
use Rattle.grid_model.specs.declared.messages.ReadReq.{ReadReq}
use Rattle.grid_model.specs.declared.messages.ReadRep.{ReadRep}
use Rattle.grid_model.specs.declared.stories.HeldRead.{HeldRead}
use Rattle.grid_model.specs.declared.stories.Voted.{Voted}
use Rattle.grid_model.specs.Documents.{DocumentData}
use Rattle.grid_model.specs.Nodes.{script_of}
use Rattle.grid_model.specs.Stories.{has_voted, is_open, phase, with_value}
use Rattle.grid_model.specs.Views.{Apart, Collects, Commits, Open, Reads, Stage, View, participant, stage, view}
use Rattle.journal_words.specs.Participants.{Participant}
use Rattle.grid_model.specs.Advances.{advance, advance_end, owns, parts_now, prepares, request_of, to_node}
use Rattle.grid_model.specs.Fitness.{is_fit_at, tx_in}
use Rattle.grid_model.specs.Rows.{peer_outs, first_ident, abort_outs, ack_outs, answer, answered, are_all_among, asked_outs, ballot_outs, begin_outs, begun_at, ceiling_of, ceilings, closed_outs, commit_outs, decides, freed_by, greatest_vote, have_voted, if_pending, judged, not_among, not_voted, prepared_outs, raises, read_outs, release, reply_outs, retry_outs, message_outs, served, tell_outs, tells, version_for, vote_outs}
use Rattle.grid_model.specs.Schedules.{broken, head_at, head_of, kept, lost_at, numbered, start_act, stopped}
use Rattle.grid_model.proofs.EventShapes.{IsAgain, asks, asks_peer, compacts, retries}
use Rattle.grid_laws.proofs.Frames.{same-number}

-- ---- a test on acts

-- a test on acts, of an out: a message passes
abbrev pub on_act : (Act → Bool) → Out → Bool
on_act f (out.Act a) = f a
on_act f (out.Send to said) = true

-- each act among these outs passes
abbrev pub Pass : (Act → Bool) → List Out → Type 0
Pass f os = list_all (on_act f) os ≡ true

-- what passes one test passes a weaker one
pub pass-more : (f g : Act → Bool) → ((a : Act) → f a ≡ true → g a ≡ true) → (os : List Out) → Pass f os → Pass g os
pass-more f g go [] h = refl
pass-more f g go (out.Send y said ∷ os) h = pass-more f g go os h
pass-more f g go (out.Act a ∷ os) h =
    let both = and_parts (f a) (list_all (on_act f) os) h in
    and_from (g a) (list_all (on_act g) os) (go a both.0) (pass-more f g go os both.1)

pub pass-append : (f : Act → Bool) (xs ys : List Out) → Pass f xs → Pass f ys → Pass f (xs ++ ys)
pass-append f xs ys h k =
    list_all-append (on_act f) xs ys ∙ and_from (list_all (on_act f) xs) (list_all (on_act f) ys) h k

pub pass-if : (f : Act → Bool) (b : Bool) (xs ys : List Out) → Pass f xs → Pass f ys → Pass f (if b then xs else ys)
pass-if f true xs ys h k = h
pass-if f false xs ys h k = k

pass-act : (f : Act → Bool) (a : Act) (os : List Out) → f a ≡ true → Pass f os → Pass f (out.Act a ∷ os)
pass-act f a os h k = and_from (f a) (list_all (on_act f) os) h k

pass-stopped : (f : Act → Bool) (n : NodeId) (h : Option Head) (o : Out) (os : List Out)
    → ((x : Head) → f (act.Down n (Some x)) ≡ true) → on_act f o ≡ true → Pass f os → Pass f (stopped n h o os)
pass-stopped f n None o os down here rest = and_from (on_act f o) (list_all (on_act f) os) here rest
pass-stopped f n (Some x) o os down here rest = pass-act f (act.Down n (Some x)) [] (down x) refl

pass-broken : (f : Act → Bool) (n : NodeId) (os : List Out) → ((x : Head) → f (act.Down n (Some x)) ≡ true)
    → Pass f os → Pass f (broken n os)
pass-broken f n [] down h = refl
pass-broken f n (o ∷ os) down h =
    let both = and_parts (on_act f o) (list_all (on_act f) os) h in
    pass-stopped f n (head_at o) o (broken n os) down both.0 (pass-broken f n os down both.1)

-- the acts of outs pass where their messages do
pub pass-numbered : (f : Act → Bool) (n : NodeId)
    → ((k : ℕ) (y : NodeId) (said : Message) → f (act.Sent k n y said) ≡ true)
    → (m : ℕ) (os : List Out) → Pass f os → list_all f (numbered m n os) ≡ true
pass-numbered f n sent m [] h = refl
pass-numbered f n sent m (out.Act a ∷ os) h =
    let both = and_parts (f a) (list_all (on_act f) os) h in
    and_from (f a) (list_all f (numbered m n os)) both.0 (pass-numbered f n sent m os both.1)
pass-numbered f n sent m (out.Send y said ∷ os) h =
    and_from (f (act.Sent m n y said)) (list_all f (numbered (m + 1) n os)) (sent m y said)
    (pass-numbered f n sent (m + 1) os h)

-- with a stop in a record or without
pub pass-acts : (f : Act → Bool) (n : NodeId) → ((k : ℕ) (y : NodeId) (said : Message) → f (act.Sent k n y said) ≡ true)
    → ((x : Head) → f (act.Down n (Some x)) ≡ true)
    → (m : ℕ) (b : Bool) (os : List Out) → Pass f os → list_all f (numbered m n (kept b n os)) ≡ true
pass-acts f n sent down m true os h = pass-numbered f n sent m os h
pass-acts f n sent down m false os h = pass-numbered f n sent m (broken n os) (pass-broken f n os down h)

-- an act that stands for no record comes first, with a stop behind it or without
pub kept-first : (m : ℕ) (n : NodeId) (b : Bool) (a : Act) (os : List Out) → head_of a ≡ None
    → numbered m n (kept b n (out.Act a ∷ os)) ≡ a ∷ numbered m n (kept b n os)
kept-first m n true a os none = refl
kept-first m n false a os none = rw none refl

-- no outs, and outs under a test
pub kept-none : (m : ℕ) (n : NodeId) (b : Bool) → numbered m n (kept b n []) ≡ []
kept-none m n true = refl
kept-none m n false = refl

pub if-outs : (P : List Act → Type 0) (m : ℕ) (n : NodeId) (b c : Bool) (os : List Out) → P []
    → (c ≡ true → P (numbered m n (kept b n os))) → P (numbered m n (kept b n (if c then os else [])))
if-outs P m n b true os none go = go refl
if-outs P m n b false os none go = rw (kept-none m n b) none

-- ---- messages alone

pub pass-to_node : (f : Act → Bool) (w : Option NodeId) (said : Message) → Pass f (to_node w said)
pass-to_node f None said = refl
pass-to_node f (Some n) said = refl

pass-request : (f : Act → Bool) (c : ClusterData) (x : Open) (j q : ℕ) (o : Option Op) → Pass f (request_of c x j q o)
pass-request f c x j q None = refl
pass-request f c x j q (Some o) = pass-to_node f _ _

pub pass-prepares : (f : Act → Bool) (c : ClusterData) (x : Open) (ns : List NodeId) → Pass f (prepares c x ns)
pass-prepares f c x [] = refl
pass-prepares f c x (n ∷ ns) = pass-prepares f c x ns

pass-tells : (f : Act → Bool) (t : TxId) (o : Outcome) (ns : List NodeId) → Pass f (tells t o ns)
pass-tells f t o [] = refl
pass-tells f t o (n ∷ ns) = pass-tells f t o ns

pass-retry : (f : Act → Bool) (c : ClusterData) (t : TxId) (g : Stage) → Pass f (retry_outs c t g)
pass-retry f c t (Reads x j) = pass-request f c x j x.progress.turn (op_at x.script.ops j)
pass-retry f c t (Collects x) = pass-prepares f c x (not_voted (parts_now c x) x.progress.votes)
pass-retry f c t (Commits y acks) = pass-tells f t (outcome.Commit y.final) (not_among y.parts acks)
pass-retry f c t Apart = refl

-- what a home sends again and what a node asks have no act, and a compaction has one
pub pass-again : (f : Act → Bool) → ((m : NodeId) → f (act.Compacted m) ≡ true)
    → (d : DocumentData) (past : List Act) (n : NodeId)
    (os : List Out) → IsAgain d past n os → Pass f os
pass-again f compacted d past n os (retries t is) = rw is (pass-retry f d.cluster t (stage (view d past n) t))
pass-again f compacted d past n os (asks t is) =
    let p : Participant = participant (view d past n) in
    rw is
    (pass-if f (is_some (pending t p.journal)) (to_node (home_of t p.journal) (message.Ask t)) [] (pass-to_node f (home_of t p.journal) (message.Ask t)) refl)
pass-again f compacted d past n os (asks_peer t m is) =
    let p : Participant = participant (view d past n) in
    rw is
    (pass-if f (is_some (pending t p.journal) && names_part t m p.journal) (out.Send m (message.AskPeer t) ∷ []) [] refl refl)
pass-again f compacted d past n os (compacts is) = rw is (pass-act f (act.Compacted n) [] (compacted n) refl)

-- ---- Advance

-- what stands at the end of Advance
pub pass-end : (f : Act → Bool) → ((t : TxId) → f (act.Finished t) ≡ true)
    → (c : ClusterData) (x : Open) (w : Option ℕ) → Pass f (advance_end c x w)
pass-end f finished c x (Some j) = pass-request f c x j 0 (op_at x.script.ops j)
pass-end f finished c x None =
    pass-if f (is_update x.script.ops) (prepares c x (parts_now c x)) (out.Act (act.Finished x.script.number) ∷ [])
    (pass-prepares f c x (parts_now c x)) (pass-act f (act.Finished x.script.number) [] (finished x.script.number) refl)

pass-owns : (f : Act → Bool) → ((t : TxId) (j : ℕ) (v : Value) → f (act.Own t j v) ≡ true)
    → (t : TxId) (ys : List (ℕ × Value)) → Pass f (map (λ y. out.Act (act.Own t y.0 y.1)) ys)
pass-owns f own t [] = refl
pass-owns f own t (y ∷ ys) =
    pass-act f (act.Own t y.0 y.1) (map (λ z. out.Act (act.Own t z.0 z.1)) ys) (own t y.0 y.1) (pass-owns f own t ys)

pub pass-advance : (f : Act → Bool) → ((t : TxId) (j : ℕ) (v : Value) → f (act.Own t j v) ≡ true)
    → ((t : TxId) → f (act.Finished t) ≡ true) → (c : ClusterData) (x : Open) (i : ℕ) → Pass f (advance c x i)
pass-advance f own finished c x i =
    let ys : List (ℕ × Value) = own_reads 1 [] unread x.progress.values x.script.ops in
    pass-append f (owns x.script.number i ys) (advance_end c x (waiting x.script.ops x.progress.values))
    (pass-owns f own x.script.number (filter (λ y. nat_lt i y.0) ys))
    (pass-end f finished c x (waiting x.script.ops x.progress.values))

-- ---- the row of a message

-- a read reply
abbrev pub is_reply : Message → Bool
is_reply (message.ReadRep q) = true
is_reply said = false

-- a read request
abbrev pub is_read_request : Message → Bool
is_read_request (message.ReadReq q) = true
is_read_request said = false

-- a Prepare
abbrev pub is_prepare : Message → Bool
is_prepare (message.Prepare q) = true
is_prepare said = false

-- a vote
abbrev pub is_vote : Message → Bool
is_vote (message.Vote t b) = true
is_vote said = false

-- an outcome
abbrev pub is_outcome : Message → Bool
is_outcome (message.Tell t o) = true
is_outcome said = false

-- an acknowledgement
abbrev pub is_ack : Message → Bool
is_ack (message.Ack t) = true
is_ack said = false

-- a request or an outcome
abbrev pub is_touching : Message → Bool
is_touching (message.ReadReq q) = true
is_touching (message.Tell t o) = true
is_touching said = false

-- an act that may stand in the row of this message at n
abbrev pub is_of_row : NodeId → Message → Act → Bool
is_of_row n said (act.Ceiling m c) = is_read_request said && (m == n)
is_of_row n said (act.Raised m sid) = is_read_request said && (m == n)
is_of_row n said (act.Held m t j sid) = is_read_request said && (m == n)
is_of_row n said (act.Served m t j k sid vn v) = is_touching said && (m == n)
is_of_row n said (act.Ended m t o) = is_outcome said && (m == n)
is_of_row n said (act.Taken t j sid v) = is_reply said
is_of_row n said (act.Own t j v) = is_reply said
is_of_row n said (act.Finished t) = is_reply said || is_vote said
is_of_row n said (act.Prepared m t p) = is_prepare said && (m == n)
is_of_row n said (act.Refused m t why) = is_prepare said && (m == n)
is_of_row n said (act.Decided t f) = is_vote said
is_of_row n said (act.Aborted t m why) = is_vote said
is_of_row n said (act.Closed t) = is_ack said
is_of_row n said a = false

-- the outs of the row of this message
abbrev OfRow : NodeId → Message → List Out → Type 0
OfRow n said os = Pass (is_of_row n said) os

-- an act of n itself
own-act : (n : NodeId) → ((n == n) && true) ≡ true
own-act n = and_from (n == n) true (same-number n) refl

answered-row : (b : Bool) (n x : NodeId) (q : ReadReq) (sid : Ident) (w : Version)
    → OfRow n (message.ReadReq q) (answered b n x q sid w)
answered-row true n x q sid w = own-act n
answered-row false n x q sid w = own-act n

read-row : (n : NodeId) (p : Participant) (x : NodeId) (q : ReadReq) (sid : Ident)
    → OfRow n (message.ReadReq q) (read_outs n p x q sid)
read-row n p x q sid =
    let f : Act → Bool = is_of_row n (message.ReadReq q) in
    let w : Version = version_for p.cluster p.journal q.key sid in
    pass-append f (ceilings n (floor p.journal) sid)
    (raises n p.next sid ++ answered (is_clear sid p.journal) n x q sid w)
    (pass-if f (nat_lt (floor p.journal) sid) (out.Act (act.Ceiling n (ceiling_of sid)) ∷ []) [] (own-act n) refl)
    (pass-append f (raises n p.next sid) (answered (is_clear sid p.journal) n x q sid w)
    (pass-if f (nat_lt p.next sid) (out.Act (act.Raised n sid) ∷ []) [] (own-act n) refl)
    (answered-row (is_clear sid p.journal) n x q sid w))

reply-row : (n : NodeId) (c : ClusterData) (q : ReadRep) (g : Stage) → OfRow n (message.ReadRep q) (reply_outs c q g)
reply-row n c q (Reads x j) =
    let f : Act → Bool = is_of_row n (message.ReadRep q) in
    let y : Open = record x { progress = with_value q.op q.sid q.value x.progress } in
    pass-if f (j == q.op) (out.Act (act.Taken q.t q.op q.sid q.value) ∷ advance c y q.op) []
    (pass-advance f (λ t k v. refl) (λ t. refl) c y q.op) refl
reply-row n c q w = refl

judged-row : (n x : NodeId) (q : Prepare) (u : Option TxId) (y : Option (Key × Ident)) (p : Ident)
    → OfRow n (message.Prepare q) (judged n x q.t u y p)
judged-row n x q (Some u) y p = own-act n
judged-row n x q None (Some y) p = own-act n
judged-row n x q None None p = own-act n

prepare-row : (n x : NodeId) (q : Prepare) (o : Option Outcome) (mine : Option Ident) (u : Option TxId)
    (y : Option (Key × Ident)) (p : Ident)
    → OfRow n (message.Prepare q) (prepared_outs n x q.t o mine u y p)
prepare-row n x q (Some o) mine u y p = refl
prepare-row n x q None (Some mine) u y p = refl
prepare-row n x q None None u y p = judged-row n x q u y p

ballot-row : (n : NodeId) (t : TxId) (ns : List NodeId) (vs : List Voted) (x : NodeId) (b : Ballot)
    → OfRow n (message.Vote t b) (ballot_outs t ns vs x b)
ballot-row n t ns vs x (ballot.Yes p) =
    let f : Act → Bool = is_of_row n (message.Vote t (ballot.Yes p)) in
    let votes : List Voted = vs ++ record { from = x; p = p } ∷ [] in
    pass-if f (have_voted ns votes) (decides t (greatest_vote votes) ns) []
    (pass-tells f t (outcome.Commit (greatest_vote votes)) ns) refl
ballot-row n t ns vs x (ballot.No why) =
    pass-tells (is_of_row n (message.Vote t (ballot.No why))) t outcome.Abort (others x ns)

vote-row : (n : NodeId) (c : ClusterData) (t : TxId) (x : NodeId) (b : Ballot) (g : Stage)
    → OfRow n (message.Vote t b) (vote_outs c t x b g)
vote-row n c t x b (Collects o) =
    pass-if (is_of_row n (message.Vote t b)) (has_voted x o.progress.votes) [] (ballot_outs t (parts_now c o) o.progress.votes x b) refl
    (ballot-row n t (parts_now c o) o.progress.votes x b)
vote-row n c t x b w = refl

ack-row : (n : NodeId) (t : TxId) (x : NodeId) (g : Stage) → OfRow n (message.Ack t) (ack_outs t x g)
ack-row n t x (Commits y acks) =
    let f : Act → Bool = is_of_row n (message.Ack t) in
    pass-if f (is_among x acks) [] (closed_outs t y.parts (acks ++ x ∷ [])) refl
    (pass-if f (are_all_among y.parts (acks ++ x ∷ [])) (out.Act (act.Closed t) ∷ []) [] refl refl)
ack-row n t x w = refl

ask-row : (n : NodeId) (t : TxId) (x : NodeId) (g : Stage) → OfRow n (message.Ask t) (asked_outs t x g)
ask-row n t x (Reads o j) = refl
ask-row n t x (Collects o) = refl
ask-row n t x (Commits y acks) = refl
ask-row n t x Apart = refl

peer-row : (n : NodeId) (t : TxId) (x : NodeId) (o : Option Outcome) → OfRow n (message.AskPeer t) (peer_outs t x o)
peer-row n t x None = refl
peer-row n t x (Some o) = refl

release-row : (n : NodeId) (t : TxId) (o : Outcome) (c : ClusterData) (r : List Record) (hs : List HeldRead)
    → OfRow n (message.Tell t o) (release c r n hs)
release-row n t o c r [] = refl
release-row n t o c r (h ∷ hs) =
    let f : Act → Bool = is_of_row n (message.Tell t o) in
    let w : Version = version_for c r h.key h.sid in
    pass-append f (if is_clear h.sid r then served n h.t h.op h.key h.sid h.from w else []) (release c r n hs)
    (pass-if f (is_clear h.sid r) (served n h.t h.op h.key h.sid h.from w) [] (own-act n) refl)
    (release-row n t o c r hs)

commit-row : (n : NodeId) (t : TxId) (f : Ident) (p : Option Ident) (b : Bool) (ack freed : List Out)
    → OfRow n (message.Tell t (outcome.Commit f)) ack → OfRow n (message.Tell t (outcome.Commit f)) freed
    → OfRow n (message.Tell t (outcome.Commit f)) (commit_outs n t f p b ack ++ if_pending p freed)
commit-row n t f (Some p) b ack freed h k =
    let g : Act → Bool = is_of_row n (message.Tell t (outcome.Commit f)) in
    pass-act g (act.Ended n t (outcome.Commit f)) (ack ++ freed) (same-number n) (pass-append g ack freed h k)
commit-row n t f None true ack freed h k = pass-append (is_of_row n (message.Tell t (outcome.Commit f))) ack [] h refl
commit-row n t f None false ack freed h k = refl

abort-row : (n : NodeId) (t : TxId) (p : Option Ident) (freed : List Out) → OfRow n (message.Tell t outcome.Abort) freed
    → OfRow n (message.Tell t outcome.Abort) (abort_outs n t p ++ if_pending p freed)
abort-row n t (Some p) freed k =
    pass-act (is_of_row n (message.Tell t outcome.Abort)) (act.Ended n t outcome.Abort) freed (same-number n) k
abort-row n t None freed k = refl

tell-row : (n : NodeId) (p : Participant) (held : List HeldRead) (t : TxId) (o : Outcome)
    → OfRow n (message.Tell t o) (tell_outs n p held t o)
tell-row n p held t (outcome.Commit f) =
    commit-row n t f (pending t p.journal) (is_commit (ended t p.journal))
    (to_node (home_of t p.journal) (message.Ack t))
    (freed_by n p held t (outcome.Commit f))
    (pass-to_node (is_of_row n (message.Tell t (outcome.Commit f))) (home_of t p.journal) (message.Ack t))
    (release-row n t (outcome.Commit f) p.cluster (record'.Ended t (outcome.Commit f) ∷ p.journal) held)
tell-row n p held t outcome.Abort =
    abort-row n t (pending t p.journal) (freed_by n p held t outcome.Abort)
    (release-row n t outcome.Abort p.cluster (record'.Ended t outcome.Abort ∷ p.journal) held)

each-row : (n : NodeId) (p : Participant) (held : List HeldRead) (g : Stage) (x : NodeId) (said : Message)
    → OfRow n said (message_outs n p held g x said)
each-row n p held g x (message.ReadReq q) = read-row n p x q _
each-row n p held g x (message.ReadRep q) = reply-row n p.cluster q g
each-row n p held g x (message.Prepare q) = prepare-row n x q _ _ _ _ _
each-row n p held g x (message.Vote t b) = vote-row n p.cluster t x b g
each-row n p held g x (message.Tell t o) = tell-row n p held t o
each-row n p held g x (message.Ack t) = ack-row n t x g
each-row n p held g x (message.Ask t) = ask-row n t x g
each-row n p held g x (message.AskPeer t) = peer-row n t x (ended t p.journal)

-- the answer to a message passes a test that each act of its row passes
pub pass-answer : (f : Act → Bool) (n : NodeId) (v : View) (x : NodeId) (said : Message)
    → ((a : Act) → is_of_row n said a ≡ true → f a ≡ true) → Pass f (answer n v x said)
pass-answer f n v x said go =
    let p : Participant = participant v in
    let g : Stage = stage v (tx_in said) in
    pass-if f (is_fit_at n p g x said) (message_outs n p v.held g x said) []
    (pass-more (is_of_row n said) f go (message_outs n p v.held g x said) (each-row n p v.held g x said)) refl

-- so do the outs of a begin
pub pass-begin : (f : Act → Bool) → ((t : TxId) (n : NodeId) (sid0 : Ident) → f (act.Began t n sid0) ≡ true)
    → ((t : TxId) (j : ℕ) (v : Value) → f (act.Own t j v) ≡ true) → ((t : TxId) → f (act.Finished t) ≡ true)
    → (n : NodeId) (p : Participant) (s : ScriptData) (floor : Ident) → Pass f (begin_outs n p s floor)
pass-begin f began own finished n p s floor =
    let sid0 : Ident = first_ident p floor in
    pass-act f (act.Began s.number n sid0) (advance p.cluster (begun_at s sid0) 0) (began s.number n sid0)
    (pass-advance f own finished p.cluster (begun_at s sid0) 0)

-- ---- acts that no row of a message has

pass-loss : (f : Act → Bool) (d : DocumentData) (past : List Act) (n : NodeId) (s : Option ScriptData)
    → ((t : TxId) → f (act.Lost t) ≡ true) → list_all f (lost_at d past n s) ≡ true
pass-loss f d past n None h = refl
pass-loss f d past n (Some s) h = go ((s.home == n) && is_open (phase d past s))
  where
    go : (b : Bool) → list_all f (if b then act.Lost s.number ∷ [] else []) ≡ true
    go true = and_from (f (act.Lost s.number)) true (h s.number) refl
    go false = refl

-- the losses of a node that is opened
pub pass-losses : (f : Act → Bool) (d : DocumentData) (past : List Act) (n : NodeId) (ts : List TxId)
    → ((t : TxId) → f (act.Lost t) ≡ true) → list_all f
    (flat_map (λ t. lost_at d past n (script_of t d.scripts)) ts) ≡ true
pass-losses f d past n [] h = refl
pass-losses f d past n (t ∷ ts) h =
    let rest : List Act = flat_map (λ u. lost_at d past n (script_of u d.scripts)) ts in
    list_all-append f (lost_at d past n (script_of t d.scripts)) rest
    ∙ and_from (list_all f (lost_at d past n (script_of t d.scripts))) (list_all f rest)
    (pass-loss f d past n (script_of t d.scripts) h) (pass-losses f d past n ts h)

-- the nodes at the start
pub pass-starts : (f : Act → Bool) (opens : NodeId → Bool) (ns : List NodeId)
    → ((n : NodeId) → f (act.Up n flag.Untouched) ≡ true)
    → ((n : NodeId) → f (act.StillDown n) ≡ true) → list_all f (map (start_act opens) ns) ≡ true
pass-starts f opens [] up down = refl
pass-starts f opens (n ∷ ns) up down =
    and_from (f (start_act opens n)) (list_all f (map (start_act opens) ns)) (first (opens n))
    (pass-starts f opens ns up down)
  where
    first : (b : Bool) → f (if b then act.Up n flag.Untouched else act.StillDown n) ≡ true
    first true = up n
    first false = down n
