-- What each row writes: nothing, or one record by its first act.
use Rattle.std.proofs.Common.{◌≡◌, ℕ, ◌+◌, max, Bool, true, false, ◌&&◌, ◌==◌, nat_lt, List, [], ◌∷◌, ◌++◌, Option, Some, None, refl, arith, if◌then◌else◌}
use Rattle.score_base.specs.declared.ids.TxId.{TxId}
use Rattle.score_base.specs.declared.ids.NodeId.{NodeId}
use Rattle.score_base.specs.declared.ids.Ident.{Ident}
use Rattle.score_base.specs.declared.causes.Ballot.{Ballot}
use Rattle.score_base.specs.declared.causes.Ballot.TheVariants as ballot
use Rattle.score_base.specs.declared.causes.Outcome.{Outcome}
use Rattle.score_base.specs.declared.causes.Outcome.TheVariants as outcome
use Rattle.score_base.specs.declared.keys.Key.{Key}
use Rattle.score_base.specs.declared.records.Record.{Record}
use Rattle.score_base.specs.declared.records.Record.TheVariants as record'
use Rattle.placement.specs.Clusters.{ClusterData}
use Rattle.placement.specs.Places.{is_among, others}
use Rattle.script_runs.specs.Waits.{waiting}
use Rattle.journal_words.specs.Journals.{Decision, commit_id, ended, floor, holder, home_of, is_clear, is_commit, newer, pending, undone}
use Rattle.grid_model.specs.declared.acts.Act.{Act}
use Rattle.grid_model.specs.declared.acts.Act.TheVariants as act
use Rattle.grid_model.specs.declared.events.Event.{Event}
use Rattle.grid_model.specs.declared.events.Event.TheVariants as event
use Rattle.grid_model.specs.declared.events.Out.{Out}
use Rattle.grid_model.specs.declared.events.Out.TheVariants as out
use Rattle.grid_model.specs.declared.messages.Message.{Message}
use Rattle.grid_model.specs.declared.messages.Message.TheVariants as message
use Rattle.grid_model.specs.declared.messages.Prepare.{Prepare}
use Rattle.grid_model.specs.declared.messages.ReadReq.{ReadReq}
use Rattle.grid_model.specs.declared.messages.ReadRep.{ReadRep}
use Rattle.grid_model.specs.declared.stories.HeldRead.{HeldRead}
use Rattle.grid_model.specs.declared.stories.Voted.{Voted}
use Rattle.grid_model.specs.Stories.{has_voted, with_value, with_vote}
use Rattle.grid_model.specs.Views.{Open, Stage, Apart, Reads, Collects, Commits, View, open_stage, participant, stage, stage_by}
use Rattle.grid_model.specs.Advances.{advance, parts_now, to_node}
use Rattle.grid_model.specs.Fitness.{counts_vote, is_fit_at, tx_in}
use Rattle.grid_model.specs.NextViews.{changed_open, desk_heard, envelope_of, record_by, view_heard}
use Rattle.grid_model.specs.Rows.{abort_outs, ack_outs, answer, answered, are_all_among, asked_outs, ballot_outs, ceiling_of, commit_outs, dated, decides, freed_by, greatest_vote, have_voted, if_pending, message_outs, peer_outs, prepared_outs, raises, read_outs, release, reply_outs, served, tell_outs, tells, version_for, vote_outs}
use Rattle.grid_model.specs.Schedules.{head_of}
use Rattle.grid_laws.proofs.RowOuts.{Pass, pass-advance, pass-append, pass-if, pass-to_node}
use Rattle.node_core.specs.Heads.{head_of as head_in}

-- an act in which no disk has a part, and that sends nothing
abbrev pub is_silent : Act → Bool
is_silent (act.Prepared n t p) = false
is_silent (act.Ended n t o) = false
is_silent (act.Ceiling n c) = false
is_silent (act.Decided t f) = false
is_silent (act.Closed t) = false
is_silent (act.Compacted n) = false
is_silent (act.Armed n k how) = false
is_silent (act.Down n h) = false
is_silent (act.Up n f) = false
is_silent (act.StillDown n) = false
is_silent (act.Sent m x y said) = false
is_silent a = true

abbrev pub Silent : List Out → Type 0
Silent os = Pass is_silent os

-- the first of these outs writes the record, the others nothing
pub record WritesFirst (n : NodeId) (v : View) (e : Event) (os : List Out) (x : Record) : Type 0 where
  pub first : Act
  pub rest : List Out
  pub are : os ≡ out.Act first ∷ rest
  pub head : head_of first ≡ Some (head_in x)
  pub silent : Silent rest
  pub is : record_by (envelope_of n e) (view_heard v e) (out.Act first) ≡ Some x

-- nothing, or one record
pub data Writing (n : NodeId) (v : View) (e : Event) (os : List Out) : Type 0 where
  none : Silent os → Writing n v e os
  first : (x : Record) → WritesFirst n v e os x → Writing n v e os

-- ---- messages

pub silent-tells : (t : TxId) (o : Outcome) (ns : List NodeId) → Silent (tells t o ns)
silent-tells t o [] = refl
silent-tells t o (n ∷ ns) = silent-tells t o ns

silent-served : (b : Bool) (n : NodeId) (h : HeldRead) (c : ClusterData) (r : List Record) →
    Silent (if b then served n h.t h.op h.key h.sid h.from (version_for c r h.key h.sid) else [])
silent-served true n h c r = refl
silent-served false n h c r = refl

silent-release : (c : ClusterData) (r : List Record) (n : NodeId) (hs : List HeldRead) → Silent (release c r n hs)
silent-release c r n [] = refl
silent-release c r n (h ∷ hs) =
    pass-append is_silent
    (if is_clear h.sid r then served n h.t h.op h.key h.sid h.from (version_for c r h.key h.sid) else [])
    (release c r n hs) (silent-served (is_clear h.sid r) n h c r) (silent-release c r n hs)

-- ---- the rows

read-writing : (n : NodeId) (v : View) (x : NodeId) (q : ReadReq) (sid : Ident) →
    Writing n v (event.Deliver x (message.ReadReq q)) (read_outs n (participant v) x q sid)
read-writing n v x q sid = go (nat_lt (floor v.journal) sid)
  where
    rest : List Out
    rest =
        raises n v.next sid
        ++ answered (is_clear sid v.journal) n x q sid (version_for v.cluster v.journal q.key sid)

    raised : (b : Bool) → Silent (if b then out.Act (act.Raised n sid) ∷ [] else [])
    raised true = refl
    raised false = refl

    given : (b : Bool) → Silent (answered b n x q sid (version_for v.cluster v.journal q.key sid))
    given true = refl
    given false = refl

    quiet : Silent rest
    quiet =
        pass-append is_silent (raises n v.next sid)
        (answered (is_clear sid v.journal) n x q sid (version_for v.cluster v.journal q.key sid))
        (raised (nat_lt v.next sid)) (given (is_clear sid v.journal))

    go : (b : Bool) → Writing n v (event.Deliver x (message.ReadReq q))
        ((if b then out.Act (act.Ceiling n (ceiling_of sid)) ∷ [] else []) ++ rest)
    go true = first (record'.Ceiling (ceiling_of sid)) (record {
      first = act.Ceiling n (ceiling_of sid);
      rest = rest;
      are = refl;
      head = refl;
      silent = quiet;
      is = refl;
    })
    go false = none quiet

reply-silent : (c : ClusterData) (q : ReadRep) (g : Stage) → Silent (reply_outs c q g)
reply-silent c q (Reads x j) =
    let y : Open = record x { progress = with_value q.op q.sid q.value x.progress } in
    pass-if is_silent (j == q.op) (out.Act (act.Taken q.t q.op q.sid q.value) ∷ advance c y q.op) []
    (pass-advance is_silent (λ t i w. refl) (λ t. refl) c y q.op) refl
reply-silent c q w = refl

prepare-writing : (n : NodeId) (v : View) (x : NodeId) (q : Prepare) (o : Option Outcome) (mine : Option Ident)
    (u : Option TxId) (y : Option (Key × Ident)) (p : Ident) →
    Writing n v (event.Deliver x (message.Prepare q)) (prepared_outs n x q.t o mine u y p)
prepare-writing n v x q (Some o) mine u y p = none refl
prepare-writing n v x q None (Some z) u y p = none refl
prepare-writing n v x q None None (Some u) y p = none refl
prepare-writing n v x q None None None (Some y) p = none refl
prepare-writing n v x q None None None None p =
    first (record'.Prepared q.t x q.parts q.sid p q.reads q.writes) (record {
      first = act.Prepared n q.t p;
      rest = out.Send x (message.Vote q.t (ballot.Yes p)) ∷ [];
      are = refl;
      head = refl;
      silent = refl;
      is = refl;
    })

-- a transaction that collects stands at the desk, and a yes leaves it there
pub collects-desk : (w : Option Decision) (en : Option Open) (cs : List NodeId) (x : Open) →
    stage_by w en cs ≡ Collects x → en ≡ Some x
collects-desk (Some y) en cs x is = absurd (grind (arith, is))
collects-desk None None cs x is = absurd (grind (arith, is))
collects-desk None (Some q) cs x is = go (waiting q.script.ops q.progress.values) is
  where
    go : (j : Option ℕ) → open_stage q j ≡ Collects x → Some q ≡ Some x
    go None same = cc
    go (Some j) same = absurd (grind (arith, same))

heard-open : (v : View) (x : NodeId) (t : TxId) (p : Ident) (o : Open) → v.desk t ≡ Some o →
    (y : Open) × (desk_heard v x (message.Vote t (ballot.Yes p)) t ≡ Some y)
heard-open v x t p o is = go ((t == t) && counts_vote (participant v) (stage v t) x p)
  where
    go : (b : Bool) →
        (y : Open) × ((if b then changed_open (with_vote x p) (v.desk t) else v.desk t) ≡ Some y)
    go true = (record o { progress = with_vote x p o.progress }, rw is refl)
    go false = (o, is)

decided-writing : (n : NodeId) (v : View) (x : NodeId) (t : TxId) (p : Ident) (o : Open) (f : Ident)
    (ns : List NodeId) → v.desk t ≡ Some o →
    Writing n v (event.Deliver x (message.Vote t (ballot.Yes p))) (decides t f ns)
decided-writing n v x t p o f ns at =
    let now = heard-open v x t p o at in
    first (record'.Decided t f (parts_now v.cluster now.0)) (record {
      first = act.Decided t f;
      rest = out.Act (act.Finished t) ∷ tells t (outcome.Commit f) ns;
      are = refl;
      head = refl;
      silent = silent-tells t (outcome.Commit f) ns;
      is = rw (now.1) refl;
    })

vote-writing : (n : NodeId) (v : View) (x : NodeId) (t : TxId) (b : Ballot) (g : Stage) →
    ((o : Open) → g ≡ Collects o → v.desk t ≡ Some o) →
    Writing n v (event.Deliver x (message.Vote t b)) (vote_outs v.cluster t x b g)
vote-writing n v x t (ballot.No why) (Collects o) at = go (has_voted x o.progress.votes)
  where
    go : (taken : Bool) → Writing n v (event.Deliver x (message.Vote t (ballot.No why)))
        (if taken then [] else ballot_outs t (parts_now v.cluster o) o.progress.votes x (ballot.No why))
    go true = none refl
    go false = none (silent-tells t outcome.Abort (others x (parts_now v.cluster o)))
vote-writing n v x t (ballot.Yes p) (Collects o) at =
    go (has_voted x o.progress.votes) (have_voted (parts_now v.cluster o) votes)
  where
    votes : List Voted
    votes = o.progress.votes ++ record { from = x; p = p } ∷ []

    go : (taken all : Bool) → Writing n v (event.Deliver x (message.Vote t (ballot.Yes p)))
        (if taken then [] else
        (if all then decides t (greatest_vote votes) (parts_now v.cluster o) else []))
    go true all = none refl
    go false false = none refl
    go false true = decided-writing n v x t p o (greatest_vote votes) (parts_now v.cluster o) (at o refl)
vote-writing n v x t b g at = none refl

ack-writing : (n : NodeId) (v : View) (x : NodeId) (t : TxId) (g : Stage) →
    Writing n v (event.Deliver x (message.Ack t)) (ack_outs t x g)
ack-writing n v x t (Commits y acks) = go (is_among x acks) (are_all_among y.parts (acks ++ x ∷ []))
  where
    go : (taken all : Bool) → Writing n v (event.Deliver x (message.Ack t))
        (if taken then [] else (if all then out.Act (act.Closed t) ∷ [] else []))
    go true all = none refl
    go false false = none refl
    go false true = first (record'.Closed t) (record {
      first = act.Closed t;
      rest = [];
      are = refl;
      head = refl;
      silent = refl;
      is = refl;
    })
ack-writing n v x t g = none refl

asked-silent : (t : TxId) (x : NodeId) (g : Stage) → Silent (asked_outs t x g)
asked-silent t x (Reads o j) = refl
asked-silent t x (Collects o) = refl
asked-silent t x (Commits y acks) = refl
asked-silent t x Apart = refl

peer-silent : (t : TxId) (x : NodeId) (o : Option Outcome) → Silent (peer_outs t x o)
peer-silent t x None = refl
peer-silent t x (Some o) = refl

commit-writing : (n : NodeId) (v : View) (x : NodeId) (t : TxId) (f : Ident) (mine : Option Ident) (done : Bool)
    (ack freed : List Out) → Silent ack → Silent freed →
    Writing n v (event.Deliver x (message.Tell t (outcome.Commit f)))
    (commit_outs n t f mine done ack ++ if_pending mine freed)
commit-writing n v x t f (Some p) done ack freed quiet free =
    first (record'.Ended t (outcome.Commit f)) (record {
      first = act.Ended n t (outcome.Commit f);
      rest = ack ++ freed;
      are = refl;
      head = refl;
      silent = pass-append is_silent ack freed quiet free;
      is = refl;
    })
commit-writing n v x t f None true ack freed quiet free = none (pass-append is_silent ack [] quiet refl)
commit-writing n v x t f None false ack freed quiet free = none refl

abort-writing : (n : NodeId) (v : View) (x : NodeId) (t : TxId) (mine : Option Ident) (freed : List Out) →
    Silent freed → Writing n v (event.Deliver x (message.Tell t outcome.Abort))
    (abort_outs n t mine ++ if_pending mine freed)
abort-writing n v x t (Some p) freed free =
    first (record'.Ended t outcome.Abort) (record {
      first = act.Ended n t outcome.Abort;
      rest = freed;
      are = refl;
      head = refl;
      silent = free;
      is = refl;
    })
abort-writing n v x t None freed free = none refl

tell-writing : (n : NodeId) (v : View) (x : NodeId) (t : TxId) (o : Outcome) →
    Writing n v (event.Deliver x (message.Tell t o)) (tell_outs n (participant v) v.held t o)
tell-writing n v x t (outcome.Commit f) =
    commit-writing n v x t f (pending t v.journal) (is_commit (ended t v.journal))
    (to_node (home_of t v.journal) (message.Ack t)) (freed_by n (participant v) v.held t (outcome.Commit f))
    (pass-to_node is_silent (home_of t v.journal) (message.Ack t))
    (silent-release v.cluster (record'.Ended t (outcome.Commit f) ∷ v.journal) n v.held)
tell-writing n v x t outcome.Abort =
    abort-writing n v x t (pending t v.journal) (freed_by n (participant v) v.held t outcome.Abort)
    (silent-release v.cluster (record'.Ended t outcome.Abort ∷ v.journal) n v.held)

message-writing : (n : NodeId) (v : View) (x : NodeId) (said : Message) →
    Writing n v (event.Deliver x said) (message_outs n (participant v) v.held (stage v (tx_in said)) x said)
message-writing n v x (message.ReadReq q) = read-writing n v x q (dated q.date (commit_id v.journal))
message-writing n v x (message.ReadRep q) = none (reply-silent v.cluster q (stage v q.t))
message-writing n v x (message.Prepare q) =
    prepare-writing n v x q (ended q.t v.journal) (pending q.t v.journal) (holder v.journal q.t q.reads q.writes)
    (newer v.journal q.reads q.sid) (1 + max v.next q.sid)
message-writing n v x (message.Vote t b) =
    vote-writing n v x t b (stage v t) (λ o is. collects-desk (undone t v.journal) (v.desk t) (v.acks t) o is)
message-writing n v x (message.Tell t o) = tell-writing n v x t o
message-writing n v x (message.Ack t) = ack-writing n v x t (stage v t)
message-writing n v x (message.Ask t) = none (asked-silent t x (stage v t))
message-writing n v x (message.AskPeer t) = none (peer-silent t x (ended t v.journal))

-- a message is delivered
pub answer-writing : (n : NodeId) (v : View) (x : NodeId) (said : Message) →
    Writing n v (event.Deliver x said) (answer n v x said)
answer-writing n v x said = go (is_fit_at n (participant v) (stage v (tx_in said)) x said)
  where
    go : (fit : Bool) → Writing n v (event.Deliver x said)
        (if fit then message_outs n (participant v) v.held (stage v (tx_in said)) x said else [])
    go true = message-writing n v x said
    go false = none refl
