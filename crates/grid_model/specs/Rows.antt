-- The rule table: what a node gives where a message comes, by what it knows. Outs are acts and messages
-- without a number. Each row is stated on the words that decide it.
use Rattle.std.specs.Prelude.{ℕ, ◌+◌, ◌*◌, ◌/◌, max, Bool, true, false, ◌&&◌, ◌==◌, not, nat_lt, filter, map, List, [], ◌∷◌, ◌++◌, Option, Some, None, is_some, if◌then◌else◌}
use Rattle.std.specs.List.{list_all}
use Rattle.score_base.specs.declared.ids.TxId.{TxId}
use Rattle.score_base.specs.declared.ids.NodeId.{NodeId}
use Rattle.score_base.specs.declared.ids.Ident.{Ident}
use Rattle.score_base.specs.declared.keys.Key.{Key}
use Rattle.score_base.specs.declared.causes.Ballot.{Ballot}
use Rattle.score_base.specs.declared.causes.Ballot.TheVariants as ballot
use Rattle.score_base.specs.declared.causes.Cause.{Cause}
use Rattle.score_base.specs.declared.causes.Cause.TheVariants as cause
use Rattle.score_base.specs.declared.causes.Date.{Date}
use Rattle.score_base.specs.declared.causes.Date.TheVariants as date
use Rattle.score_base.specs.declared.causes.Outcome.{Outcome}
use Rattle.score_base.specs.declared.causes.Outcome.TheVariants as outcome
use Rattle.score_base.specs.declared.records.Record.{Record}
use Rattle.score_base.specs.declared.records.Record.TheVariants as record'
use Rattle.script_lang.specs.Scripts.{ScriptData}
use Rattle.placement.specs.Places.{is_among, others}
use Rattle.placement.specs.Clusters.{ClusterData, init}
use Rattle.grid_model.specs.declared.acts.Act.TheVariants as act
use Rattle.grid_model.specs.declared.events.Event.{Event}
use Rattle.grid_model.specs.declared.events.Event.TheVariants as event
use Rattle.grid_model.specs.declared.events.Out.{Out}
use Rattle.grid_model.specs.declared.events.Out.TheVariants as out
use Rattle.grid_model.specs.declared.messages.Message.{Message}
use Rattle.grid_model.specs.declared.messages.Message.TheVariants as message
use Rattle.grid_model.specs.declared.messages.Prepare.{Prepare}
use Rattle.grid_model.specs.declared.messages.ReadReq.{ReadReq}
use Rattle.grid_model.specs.declared.messages.ReadRep.{ReadRep}
use Rattle.grid_model.specs.declared.stories.HeldRead.{HeldRead}
use Rattle.grid_model.specs.declared.stories.Voted.{Voted}
use Rattle.journal_words.specs.declared.versions.Version.{Version}
use Rattle.journal_words.specs.Journals.{names_part, commit_id, floor, is_clear, version_at, ended, is_commit, pending, holder, newer, home_of}
use Rattle.grid_model.specs.Stories.{has_voted, at_begin, with_value}
use Rattle.grid_model.specs.Views.{View, participant, Open, Stage, Apart, Reads, Collects, Commits, stage}
use Rattle.journal_words.specs.Participants.{Participant}
use Rattle.grid_model.specs.Advances.{advance, request, prepares, parts_now, to_node}
use Rattle.grid_model.specs.Fitness.{is_fit_at, is_fit_begin, tx_in}

-- ---- reads

-- the read is served with this version, and the answer goes to x
abbrev pub served : NodeId → TxId → ℕ → Key → Ident → NodeId → Version → List Out
served n t op k sid x w =
    out.Act (act.Served n t op k sid w.ident w.value)
    ∷ (out.Send x (message.ReadRep (record { t = t; op = op; sid = sid; value = w.value })) ∷ [])

-- the version of a key at an identifier
abbrev pub version_for : ClusterData → List Record → Key → Ident → Version
version_for c r k sid = version_at r k (init c k) sid

-- Release: the held reads that no pending proposal holds any more are served, in the order of their arrival
abbrev pub release : ClusterData → List Record → NodeId → List HeldRead → List Out
release c r n [] = []
release c r n (h ∷ hs) =
    (if is_clear h.sid r then served n h.t h.op h.key h.sid h.from (version_for c r h.key h.sid) else [])
    ++ release c r n hs

-- the identifier of a read: a first read is dated by its server
abbrev pub dated : Date → Ident → Ident
dated (date.First sid0) c = max sid0 c
dated (date.At sid) c = sid

-- the least multiple of 64 that is at least sid
abbrev pub ceiling_of : Ident → Ident
ceiling_of sid = 64 * ((sid + 63) / 64)

-- the promise that a read needs where its identifier is above the floor
abbrev pub ceilings : NodeId → Ident → Ident → List Out
ceilings n floor sid = if nat_lt floor sid then out.Act (act.Ceiling n (ceiling_of sid)) ∷ [] else []

-- the clock is raised where the identifier is above it
abbrev pub raises : NodeId → Ident → Ident → List Out
raises n next sid = if nat_lt next sid then out.Act (act.Raised n sid) ∷ [] else []

-- served where no pending proposal is at most sid, else held
abbrev pub answered : Bool → NodeId → NodeId → ReadReq → Ident → Version → List Out
answered true n x q sid w = served n q.t q.op q.key sid x w
answered false n x q sid w = out.Act (act.Held n q.t q.op sid) ∷ []

-- a read request at n from x, at this identifier
abbrev pub read_outs : NodeId → Participant → NodeId → ReadReq → Ident → List Out
read_outs n p x q sid =
    ceilings n (floor p.journal) sid
    ++ (raises n p.next sid ++ answered (is_clear sid p.journal) n x q sid (version_for p.cluster p.journal q.key sid))

-- a read reply at the home
abbrev pub reply_outs : ClusterData → ReadRep → Stage → List Out
reply_outs c q (Reads x j) =
    if j == q.op then out.Act (act.Taken q.t q.op q.sid q.value)
    ∷ advance c (record x { progress = with_value q.op q.sid q.value x.progress }) q.op else []
reply_outs c q s = []

-- ---- votes

-- a refusal, and the no to x
abbrev pub refused : NodeId → NodeId → TxId → Cause → List Out
refused n x t why = out.Act (act.Refused n t why) ∷ (out.Send x (message.Vote t (ballot.No why)) ∷ [])

-- a Prepare of t that n has neither ended nor pending: a holder refuses it, then a newer version, and
-- else n votes yes with the proposal p
abbrev pub judged : NodeId → NodeId → TxId → Option TxId → Option (Key × Ident) → Ident → List Out
judged n x t (Some u) newer p = refused n x t (cause.Holder u)
judged n x t None (Some y) p = refused n x t (cause.Newer y.0 y.1)
judged n x t None None p = out.Act (act.Prepared n t p) ∷ (out.Send x (message.Vote t (ballot.Yes p)) ∷ [])

-- a Prepare of t at n from x, by the outcome and the proposal that t has there
abbrev pub prepared_outs : NodeId → NodeId → TxId → Option Outcome → Option Ident → Option TxId → Option (Key × Ident)
    → Ident → List Out
prepared_outs n x t (Some o) mine holder newer p = []
prepared_outs n x t None (Some q) holder newer p = out.Send x (message.Vote t (ballot.Yes q)) ∷ []
prepared_outs n x t None None holder newer p = judged n x t holder newer p

-- a Prepare at n from x
abbrev pub prepare_outs : NodeId → Participant → NodeId → Prepare → List Out
prepare_outs n p x q =
    prepared_outs n x q.t (ended q.t p.journal) (pending q.t p.journal)
    (holder p.journal q.t q.reads q.writes) (newer p.journal q.reads q.sid) (1 + max p.next q.sid)

-- ---- the coordinator

-- how t ended, to each of these nodes
abbrev pub tells : TxId → Outcome → List NodeId → List Out
tells t o ns = map (λ n. out.Send n (message.Tell t o)) ns

-- the greatest proposal of these votes, or 0
abbrev pub greatest_vote : List Voted → Ident
greatest_vote [] = 0
greatest_vote (v ∷ vs) = max v.p (greatest_vote vs)

-- each of these nodes has voted
abbrev pub have_voted : List NodeId → List Voted → Bool
have_voted ns votes = list_all (λ n. has_voted n votes) ns

-- the commit with the final identifier f
abbrev pub decides : TxId → Ident → List NodeId → List Out
decides t f ns = out.Act (act.Decided t f) ∷ (out.Act (act.Finished t) ∷ tells t (outcome.Commit f) ns)

-- the decision, where all parts have voted
abbrev pub full_outs : TxId → List NodeId → List Voted → List Out
full_outs t ns votes = if have_voted ns votes then decides t (greatest_vote votes) ns else []

-- the vote of x on a transaction that is collecting
abbrev pub ballot_outs : TxId → List NodeId → List Voted → NodeId → Ballot → List Out
ballot_outs t ns votes x (ballot.Yes p) = full_outs t ns (votes ++ record { from = x; p = p } ∷ [])
ballot_outs t ns votes x (ballot.No why) = out.Act (act.Aborted t x why) ∷ tells t outcome.Abort (others x ns)

-- a vote from x at the home
abbrev pub vote_outs : ClusterData → TxId → NodeId → Ballot → Stage → List Out
vote_outs c t x b (Collects o) =
    if has_voted x o.progress.votes then [] else ballot_outs t (parts_now c o) o.progress.votes x b
vote_outs c t x b s = []

-- each of these nodes is among those
abbrev pub are_all_among : List NodeId → List NodeId → Bool
are_all_among ns ms = list_all (λ n. is_among n ms) ns

-- the end of the commit, where all parts have acknowledged
abbrev pub closed_outs : TxId → List NodeId → List NodeId → List Out
closed_outs t ns acks = if are_all_among ns acks then out.Act (act.Closed t) ∷ [] else []

-- an acknowledgement from x at the home
abbrev pub ack_outs : TxId → NodeId → Stage → List Out
ack_outs t x (Commits y acks) = if is_among x acks then [] else closed_outs t y.parts (acks ++ x ∷ [])
ack_outs t x s = []

-- a question of x at the home: no record and no open transaction means abort
abbrev pub asked_outs : TxId → NodeId → Stage → List Out
asked_outs t x (Reads o j) = []
asked_outs t x (Collects o) = []
asked_outs t x (Commits y acks) = out.Send x (message.Tell t (outcome.Commit y.final)) ∷ []
asked_outs t x Apart = out.Send x (message.Tell t outcome.Abort) ∷ []

-- a question of x at another part: how t ended there, where it ended
abbrev pub peer_outs : TxId → NodeId → Option Outcome → List Out
peer_outs t x None = []
peer_outs t x (Some o) = out.Send x (message.Tell t o) ∷ []

-- ---- ends

-- a commit that is told at n, by the proposal that t has there and by whether it ended so before
abbrev pub commit_outs : NodeId → TxId → Ident → Option Ident → Bool → List Out → List Out
commit_outs n t f (Some p) done ack = out.Act (act.Ended n t (outcome.Commit f)) ∷ ack
commit_outs n t f None true ack = ack
commit_outs n t f None false ack = []

-- an abort that is told at n, by the proposal that t has there
abbrev pub abort_outs : NodeId → TxId → Option Ident → List Out
abort_outs n t (Some p) = out.Act (act.Ended n t outcome.Abort) ∷ []
abort_outs n t None = []

-- how t ended, told at n: what n gives but for its held reads
abbrev pub end_outs : NodeId → Participant → TxId → Outcome → List Out
end_outs n p t (outcome.Commit f) =
    commit_outs n t f (pending t p.journal) (is_commit (ended t p.journal))
    (to_node (home_of t p.journal) (message.Ack t))
end_outs n p t outcome.Abort = abort_outs n t (pending t p.journal)

-- these outs, where a transaction is pending
abbrev pub if_pending : Option Ident → List Out → List Out
if_pending (Some p) outs = outs
if_pending None outs = []

-- the held reads that an end of t frees
abbrev pub freed_by : NodeId → Participant → List HeldRead → TxId → Outcome → List Out
freed_by n p held t o = release p.cluster (record'.Ended t o ∷ p.journal) n held

-- how t ended, told at n: its end, and, where it was pending, the held reads that this frees
abbrev pub tell_outs : NodeId → Participant → List HeldRead → TxId → Outcome → List Out
tell_outs n p held t o = end_outs n p t o ++ if_pending (pending t p.journal) (freed_by n p held t o)

-- ---- the table

-- what n, which holds these reads, gives where a fit message comes from x, whose transaction stands so
abbrev pub message_outs : NodeId → Participant → List HeldRead → Stage → NodeId → Message → List Out
message_outs n p held s x (message.ReadReq q) = read_outs n p x q (dated q.date (commit_id p.journal))
message_outs n p held s x (message.ReadRep q) = reply_outs p.cluster q s
message_outs n p held s x (message.Prepare q) = prepare_outs n p x q
message_outs n p held s x (message.Vote t b) = vote_outs p.cluster t x b s
message_outs n p held s x (message.Tell t o) = tell_outs n p held t o
message_outs n p held s x (message.Ack t) = ack_outs t x s
message_outs n p held s x (message.Ask t) = asked_outs t x s
message_outs n p held s x (message.AskPeer t) = peer_outs t x (ended t p.journal)

-- what n gives where a message comes from x, whose transaction stands so
abbrev pub answer_at : NodeId → Participant → List HeldRead → Stage → NodeId → Message → List Out
answer_at n p held s x said = if is_fit_at n p s x said then message_outs n p held s x said else []

-- what n gives where a message comes from x
abbrev pub answer : NodeId → View → NodeId → Message → List Out
answer n v x said = answer_at n (participant v) v.held (stage v (tx_in said)) x said

-- a transaction that begins at n
abbrev pub begun_at : ScriptData → Ident → Open
begun_at s sid0 = record { script = s; progress = at_begin sid0 }

-- the identifier at which a transaction begins: the commit identifier of its home, or the floor of its
-- session where that is greater
abbrev pub first_ident : Participant → Ident → Ident
first_ident p floor = max (commit_id p.journal) floor

-- what n gives where a transaction of its own begins, whose session has this floor
abbrev pub begin_outs : NodeId → Participant → ScriptData → Ident → List Out
begin_outs n p s floor =
    out.Act (act.Began s.number n (first_ident p floor)) ∷ advance p.cluster (begun_at s (first_ident p floor)) 0

-- those of the nodes that have not voted
abbrev pub not_voted : List NodeId → List Voted → List NodeId
not_voted ns votes = filter (λ n. not (has_voted n votes)) ns

-- those of the nodes that are not among the others
abbrev pub not_among : List NodeId → List NodeId → List NodeId
not_among ns ms = filter (λ n. not (is_among n ms)) ns

-- what the home sends again; nothing where nothing is outstanding
abbrev pub retry_outs : ClusterData → TxId → Stage → List Out
retry_outs c t (Reads x j) = request c x j x.progress.turn
retry_outs c t (Collects x) = prepares c x (not_voted (parts_now c x) x.progress.votes)
retry_outs c t (Commits y acks) = tells t (outcome.Commit y.final) (not_among y.parts acks)
retry_outs c t Apart = []

-- what n asks the home of t; nothing where t is not pending at n
abbrev pub ask_outs : Participant → TxId → List Out
ask_outs p t = if is_some (pending t p.journal) then to_node (home_of t p.journal) (message.Ask t) else []

-- what n asks part m of t; nothing where t is not pending at n, or m is no part of it
abbrev pub ask_peer_outs : Participant → TxId → NodeId → List Out
ask_peer_outs p t m =
    if is_some (pending t p.journal) && names_part t m p.journal then out.Send m (message.AskPeer t) ∷ [] else []

-- what n gives where its journal is made small
abbrev pub compact_outs : NodeId → List Out
compact_outs n = out.Act (act.Compacted n) ∷ []

-- ---- an event

-- what n gives at an event: nothing at a begin that is not fit
abbrev pub outs_of : NodeId → View → Event → List Out
outs_of n v (event.Begin s floor) = if is_fit_begin n v s floor then begin_outs n (participant v) s floor else []
outs_of n v (event.Deliver x said) = answer n v x said
outs_of n v (event.Retry t) = retry_outs v.cluster t (stage v t)
outs_of n v (event.Ask t) = ask_outs (participant v) t
outs_of n v (event.AskPeer t m) = ask_peer_outs (participant v) t m
outs_of n v event.Compact = compact_outs n
