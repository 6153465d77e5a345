-- The view of a node behind an event is the next view: the outs of each row are those that it takes.
use Rattle.std.proofs.Common.{ℕ, ◌+◌, max, Bool, true, false, ◌&&◌, ◌||◌, ◌==◌, nat_lt, IsTrue, filter, slice_get, List, [], ◌∷◌, ◌++◌, Option, None, Some, is_some, is_none, ◌≡◌, refl, ap, subst, sym, ◌∙◌, arith, ◌⊎◌, inl, inr, if◌then◌else◌}
use Rattle.std.proofs.lemmas.Bool.Decides.{nat_tests}
use Rattle.score_base.specs.declared.ids.TxId.{TxId}
use Rattle.score_base.specs.declared.ids.NodeId.{NodeId}
use Rattle.score_base.specs.declared.ids.Ident.{Ident}
use Rattle.score_base.specs.declared.keys.Key.{Key}
use Rattle.score_base.specs.declared.causes.Ballot.{Ballot}
use Rattle.score_base.specs.declared.causes.Ballot.TheVariants as ballot
use Rattle.score_base.specs.declared.causes.Outcome.{Outcome}
use Rattle.score_base.specs.declared.causes.Outcome.TheVariants as outcome
use Rattle.score_base.specs.declared.records.Record.{Record}
use Rattle.score_base.specs.declared.records.Record.TheVariants as record'
use Rattle.script_lang.specs.Scripts.{ScriptData}
use Rattle.script_lang.specs.Reads.{is_update, key_of}
use Rattle.script_lang.specs.declared.scripts.Op.{Op}
use Rattle.placement.specs.Places.{preferred, others, is_among}
use Rattle.placement.specs.Clusters.{ClusterData}
use Rattle.grid_model.specs.declared.acts.Act.{Act}
use Rattle.grid_model.specs.declared.acts.Act.TheVariants as act
use Rattle.grid_model.specs.declared.events.Event.{Event}
use Rattle.grid_model.specs.declared.events.Event.TheVariants as event
use Rattle.grid_model.specs.declared.events.Out.{Out}
use Rattle.grid_model.specs.declared.events.Out.TheVariants as out
use Rattle.grid_model.specs.declared.messages.Message.{Message}
use Rattle.grid_model.specs.declared.messages.Message.TheVariants as message
use Rattle.grid_model.specs.declared.messages.ReadReq.{ReadReq}
use Rattle.grid_model.specs.declared.messages.ReadRep.{ReadRep}
use Rattle.grid_model.specs.declared.stories.HeldRead.{HeldRead}
use Rattle.grid_model.specs.Documents.{DocumentData}
use Rattle.grid_model.specs.Histories.{after, sent, sent_at}
use Rattle.journal_words.specs.Journals.{names_part, Decision, commit_id, floor, is_clear, undone, pending, ended, is_commit, home_of, holder, newer}
use Rattle.grid_model.specs.Nodes.{node, is_home, journal, script_of}
use Rattle.grid_model.specs.Stories.{is_small, story, has_voted, with_value, with_vote}
use Rattle.script_runs.specs.Waits.{waiting}
use Rattle.grid_model.specs.Views.{View, Open, Stage, Apart, Reads, Collects, Commits, view, stage, is_apart, stage_by, open_stage, participant}
use Rattle.grid_model.specs.Advances.{advance, advance_end, request_of, to_node, prepares, prepare_for, date_by, owns, parts_now}
use Rattle.script_runs.specs.Walks.{op_at, own_reads, unread}
use Rattle.grid_model.specs.Fitness.{is_fit_at, tx_in, counts_vote}
use Rattle.grid_model.specs.Rows.{compact_outs, peer_outs, ask_peer_outs, first_ident, release, served, ceiling_of, ceilings, raises, answered, read_outs, version_for, dated, reply_outs, prepared_outs, tells, have_voted, decides, greatest_vote, ballot_outs, vote_outs, are_all_among, ack_outs, asked_outs, commit_outs, abort_outs, tell_outs, freed_by, message_outs, answer, begin_outs, begun_at, retry_outs, not_voted, not_among, ask_outs, if_pending, outs_of}
use Rattle.grid_model.specs.Schedules.{numbered}
use Rattle.grid_model.specs.NextViews.{is_running, OwnDecisions, Comes, brought, behind, behind_all, heard_view, next_view, changed_open, desk_heard}
use Rattle.grid_model.proofs.ViewSteps.{here, step-began, step-decided}
use Rattle.grid_model.proofs.HeardViews.{letter, step-got}
use Rattle.grid_model.proofs.PlainOuts.{are_plain, plain-view, plain-append, plain-sends, plain-owns}

-- ---- the home's rows

to-plain : (d : DocumentData) (n : NodeId) (b : Bool) (o : Option NodeId) (said : Message)
    → IsTrue (are_plain d n b (to_node o said))
to-plain d n b None said = refl
to-plain d n b (Some m) said = refl

request-plain : (d : DocumentData) (n : NodeId) (b : Bool) (c : ClusterData) (x : Open) (j q : ℕ) (o : Option Op)
    → IsTrue (are_plain d n b (request_of c x j q o))
request-plain d n b c x j q None = refl
request-plain d n b c x j q (Some o) = to-plain d n b (slice_get (preferred c.places x.script.home (key_of o)) q) (message.ReadReq (record { t = x.script.number; op = j; key = key_of o; date = date_by x.progress.sid0 x.progress.sid }))

end-plain : (d : DocumentData) (n : NodeId) (b : Bool) (c : ClusterData) (x : Open) (w : Option ℕ)
    → IsTrue (are_plain d n b (advance_end c x w))
end-plain d n b c x (Some j) = request-plain d n b c x j 0 (op_at x.script.ops j)
end-plain d n b c x None = go (is_update x.script.ops)
  where
    go : (u : Bool) → IsTrue
        (are_plain d n b (if u then prepares c x (parts_now c x) else out.Act (act.Finished x.script.number) ∷ []))
    go true = plain-sends d n b (λ m. message.Prepare (prepare_for c x m)) (parts_now c x)
    go false = refl

pub advance-plain : (d : DocumentData) (n : NodeId) (b : Bool) (c : ClusterData) (x : Open) (i : ℕ)
    → IsTrue (are_plain d n b (advance c x i))
advance-plain d n b c x i =
    plain-append d n b (owns x.script.number i (own_reads 1 [] unread x.progress.values x.script.ops)) (advance_end c x (waiting x.script.ops x.progress.values))
    (plain-owns d n b x.script.number (filter (λ y. nat_lt i y.0) (own_reads 1 [] unread x.progress.values x.script.ops)))
    (end-plain d n b c x (waiting x.script.ops x.progress.values))

reply-plain : (d : DocumentData) (n : NodeId) (c : ClusterData) (q : ReadRep) (s : Stage)
    → IsTrue (are_plain d n true (reply_outs c q s))
reply-plain d n c q (Reads x j) = go (j == q.op)
  where
    go : (same : Bool) → IsTrue (are_plain d n true (if same then out.Act (act.Taken q.t q.op q.sid q.value)
        ∷ advance c (record x { progress = with_value q.op q.sid q.value x.progress }) q.op else []))
    go true = advance-plain d n true c (record x { progress = with_value q.op q.sid q.value x.progress }) q.op
    go false = refl
reply-plain d n c q s = refl

ack-plain : (d : DocumentData) (n : NodeId) (t : TxId) (x : NodeId) (s : Stage)
    → ((y : Decision) (acks : List NodeId) → s ≡ Commits y acks → is_home d t n ≡ true)
    → IsTrue (are_plain d n true (ack_outs t x s))
ack-plain d n t x (Commits y acks) home = go (is_among x acks) (are_all_among y.parts (acks ++ x ∷ []))
  where
    go : (taken all : Bool)
        → IsTrue (are_plain d n true (if taken then [] else (if all then out.Act (act.Closed t) ∷ [] else [])))
    go true all = refl
    go false false = refl
    go false true = rw (home y acks refl) refl
ack-plain d n t x s home = refl

ask-plain : (d : DocumentData) (n : NodeId) (t : TxId) (x : NodeId) (s : Stage)
    → IsTrue (are_plain d n true (asked_outs t x s))
ask-plain d n t x (Reads o j) = refl
ask-plain d n t x (Collects o) = refl
ask-plain d n t x (Commits y acks) = refl
ask-plain d n t x Apart = refl

peer-plain : (d : DocumentData) (n : NodeId) (t : TxId) (x : NodeId) (o : Option Outcome)
    → IsTrue (are_plain d n true (peer_outs t x o))
peer-plain d n t x None = refl
peer-plain d n t x (Some o) = refl

pub retry-plain : (d : DocumentData) (n : NodeId) (c : ClusterData) (t : TxId) (s : Stage)
    → IsTrue (are_plain d n false (retry_outs c t s))
retry-plain d n c t (Reads x j) = request-plain d n false c x j x.progress.turn (op_at x.script.ops j)
retry-plain d n c t (Collects x) = plain-sends d n false (λ m. message.Prepare (prepare_for c x m)) (not_voted (parts_now c x) x.progress.votes)
retry-plain d n c t (Commits y acks) = plain-sends d n false (λ m. message.Tell t (outcome.Commit y.final)) (not_among y.parts acks)
retry-plain d n c t Apart = refl

-- ---- the server's and the participant's rows

read-plain : (d : DocumentData) (n : NodeId) (v : View) (x : NodeId) (q : ReadReq) (sid : Ident)
    → IsTrue (are_plain d n true (read_outs n (participant v) x q sid))
read-plain d n v x q sid =
    plain-append d n true (ceilings n (floor v.journal) sid) (raises n v.next sid ++ answered (is_clear sid v.journal) n x q sid (version_for v.cluster v.journal q.key sid))
    (above (nat_lt (floor v.journal) sid))
    (plain-append d n true (raises n v.next sid) (answered (is_clear sid v.journal) n x q sid (version_for v.cluster v.journal q.key sid)) (raised (nat_lt v.next sid)) (given (is_clear sid v.journal)))
  where
    above : (b : Bool) → IsTrue (are_plain d n true (if b then out.Act (act.Ceiling n (ceiling_of sid)) ∷ [] else []))
    above true = rw (here n) refl
    above false = refl

    raised : (b : Bool) → IsTrue (are_plain d n true (if b then out.Act (act.Raised n sid) ∷ [] else []))
    raised true = rw (here n) refl
    raised false = refl

    given : (b : Bool) → IsTrue (are_plain d n true (answered b n x q sid (version_for v.cluster v.journal q.key sid)))
    given true = rw (here n) refl
    given false = rw (here n) refl

release-plain : (d : DocumentData) (n : NodeId) (c : ClusterData) (r : List Record) (hs : List HeldRead)
    → IsTrue (are_plain d n true (release c r n hs))
release-plain d n c r [] = refl
release-plain d n c r (h ∷ hs) = plain-append d n true (if is_clear h.sid r then served n h.t h.op h.key h.sid h.from (version_for c r h.key h.sid) else []) (release c r n hs) (go (is_clear h.sid r)) (release-plain d n c r hs)
  where
    go : (b : Bool) → IsTrue
        (are_plain d n true (if b then served n h.t h.op h.key h.sid h.from (version_for c r h.key h.sid) else []))
    go true = rw (here n) refl
    go false = refl

prepare-plain : (d : DocumentData) (n x : NodeId) (t : TxId) (o : Option Outcome) (mine : Option Ident)
    (u : Option TxId) (y : Option (Key × Ident)) (p : Ident)
    → IsTrue (are_plain d n true (prepared_outs n x t o mine u y p))
prepare-plain d n x t (Some o) mine u y p = refl
prepare-plain d n x t None (Some q) u y p = refl
prepare-plain d n x t None None (Some u) y p = refl
prepare-plain d n x t None None None (Some y) p = refl
prepare-plain d n x t None None None None p = rw (here n) refl

commit-plain : (d : DocumentData) (n : NodeId) (t : TxId) (f : Ident) (mine : Option Ident) (done : Bool)
    (ack freed : List Out) → IsTrue (are_plain d n true ack) → IsTrue (are_plain d n true freed)
    → IsTrue (are_plain d n true (commit_outs n t f mine done ack ++ if_pending mine freed))
commit-plain d n t f (Some p) done ack freed is are = rw (here n) (plain-append d n true ack freed is are)
commit-plain d n t f None true ack freed is are = plain-append d n true ack [] is refl
commit-plain d n t f None false ack freed is are = refl

abort-plain : (d : DocumentData) (n : NodeId) (t : TxId) (mine : Option Ident) (freed : List Out)
    → IsTrue (are_plain d n true freed) → IsTrue (are_plain d n true (abort_outs n t mine ++ if_pending mine freed))
abort-plain d n t (Some p) freed are = rw (here n) are
abort-plain d n t None freed are = refl

tell-plain : (d : DocumentData) (n : NodeId) (v : View) (t : TxId) (o : Outcome)
    → IsTrue (are_plain d n true (tell_outs n (participant v) v.held t o))
tell-plain d n v t (outcome.Commit f) = commit-plain d n t f (pending t v.journal) (is_commit (ended t v.journal)) (to_node (home_of t v.journal) (message.Ack t)) (freed_by n (participant v) v.held t (outcome.Commit f)) (to-plain d n true (home_of t v.journal) (message.Ack t)) (release-plain d n v.cluster (record'.Ended t (outcome.Commit f) ∷ v.journal) v.held)
tell-plain d n v t outcome.Abort = abort-plain d n t (pending t v.journal) (freed_by n (participant v) v.held t outcome.Abort) (release-plain d n v.cluster (record'.Ended t outcome.Abort ∷ v.journal) v.held)

-- ---- the table

-- what a decision that stands says of its home
own-home : (d : DocumentData) (past : List Act) (n : NodeId) (t : TxId) → OwnDecisions d past n
    → (y : Decision) (acks : List NodeId) → stage (view d past n) t ≡ Commits y acks → is_home d t n ≡ true
own-home d past n t own y acks is = go (undone t (journal d past n)) (is_home d t n) (own t) ((view d past n).desk t) ((view d past n).acks t) is
  where
    go : (w : Option Decision) (home : Bool) → IsTrue (is_none w || (home && is_running (story d past t)))
        → (en : Option Open) (cs : List NodeId) → stage_by w en cs ≡ Commits y acks → home ≡ true
    go w true h en cs is = refl
    go (Some z) false h en cs is = grind arith
    go None false h None cs is = grind arith
    go None false h (Some x) cs is = opened (waiting x.script.ops x.progress.values) is
      where
        opened : (j : Option ℕ) → open_stage x j ≡ Commits y acks → false ≡ true
        opened None is = grind arith
        opened (Some j) is = grind arith

-- a transaction that collects stands at the desk
collects-desk : (w : Option Decision) (en : Option Open) (cs : List NodeId) (x : Open) → stage_by w en cs ≡ Collects x
    → en ≡ Some x
collects-desk (Some y) en cs x is = grind arith
collects-desk None None cs x is = grind arith
collects-desk None (Some q) cs x is = go (waiting q.script.ops q.progress.values) is
  where
    go : (j : Option ℕ) → open_stage q j ≡ Collects x → Some q ≡ Some x
    go None is = grind arith
    go (Some j) is = grind arith

-- the outs of a row: plain ones, or a decision of a transaction at the desk and then plain ones
pub record Decides (d : DocumentData) (n : NodeId) (v : View) (os : List Out) : Type 0 where
  pub t : TxId
  pub f : Ident
  pub rest : List Out
  pub asked : Open
  pub first : os ≡ out.Act (act.Decided t f) ∷ rest
  pub desk : v.desk t ≡ Some asked
  pub plain : IsTrue (are_plain d n true rest)

abbrev pub Given : DocumentData → NodeId → View → List Out → Type 0
Given d n v os = IsTrue (are_plain d n true os) ⊎ Decides d n v os

vote-given : (d : DocumentData) (n : NodeId) (v : View) (c : ClusterData) (t : TxId) (x : NodeId) (b : Ballot)
    (s : Stage) → ((o : Open) → s ≡ Collects o → v.desk t ≡ Some o) → Given d n v (vote_outs c t x b s)
vote-given d n v c t x (ballot.No why) (Collects o) desk = go (has_voted x o.progress.votes)
  where
    go : (taken : Bool)
        → Given d n v (if taken then [] else ballot_outs t (parts_now c o) o.progress.votes x (ballot.No why))
    go true = inl refl
    go false = inl (plain-sends d n true (λ m. message.Tell t outcome.Abort) (others x (parts_now c o)))
vote-given d n v c t x (ballot.Yes p) (Collects o) desk = go (has_voted x o.progress.votes) (have_voted (parts_now c o) (o.progress.votes ++ record { from = x; p = p } ∷ []))
  where
    go : (taken all : Bool) → Given d n v (if taken then [] else (if all
        then decides t (greatest_vote (o.progress.votes ++ record { from = x; p = p } ∷ [])) (parts_now c o) else []))
    go true all = inl refl
    go false false = inl refl
    go false true = inr (record {
      t = t;
      f = greatest_vote (o.progress.votes ++ record { from = x; p = p } ∷ []);
      rest = out.Act (act.Finished t) ∷ tells t (outcome.Commit (greatest_vote (o.progress.votes ++ record { from = x; p = p } ∷ []))) (parts_now c o);
      asked = o;
      first = refl;
      desk = desk o refl;
      plain = plain-sends d n true (λ m. message.Tell t (outcome.Commit (greatest_vote (o.progress.votes ++ record { from = x; p = p } ∷ [])))) (parts_now c o);
    })
vote-given d n v c t x b s desk = inl refl

row-given : (d : DocumentData) (past : List Act) (n x : NodeId) (said : Message) → OwnDecisions d past n → Given d n
    (view d past n)
    (message_outs n (participant (view d past n)) (view d past n).held (stage (view d past n) (tx_in said)) x said)
row-given d past n x (message.ReadReq q) own = inl (read-plain d n (view d past n) x q (dated q.date (commit_id (journal d past n))))
row-given d past n x (message.ReadRep q) own = inl (reply-plain d n d.cluster q (stage (view d past n) q.t))
row-given d past n x (message.Prepare q) own = inl (prepare-plain d n x q.t (ended q.t (journal d past n)) (pending q.t (journal d past n)) (holder (journal d past n) q.t q.reads q.writes) (newer (journal d past n) q.reads q.sid) (1 + max (node d past n).next q.sid))
row-given d past n x (message.Vote t b) own = vote-given d n (view d past n) d.cluster t x b (stage (view d past n) t) (λ o is. collects-desk (undone t (journal d past n)) ((view d past n).desk t) ((view d past n).acks t) o is)
row-given d past n x (message.Tell t o) own = inl (tell-plain d n (view d past n) t o)
row-given d past n x (message.Ack t) own = inl (ack-plain d n t x (stage (view d past n) t) (own-home d past n t own))
row-given d past n x (message.Ask t) own = inl (ask-plain d n t x (stage (view d past n) t))
row-given d past n x (message.AskPeer t) own = inl (peer-plain d n t x (ended t (journal d past n)))

pub answer-given : (d : DocumentData) (past : List Act) (n x : NodeId) (said : Message) → OwnDecisions d past n
    → Given d n (view d past n) (answer n (view d past n) x said)
answer-given d past n x said own = go (is_fit_at n (participant (view d past n)) (stage (view d past n) (tx_in said)) x said)
  where
    go : (fit : Bool) → Given d n (view d past n) (if fit then message_outs n (participant (view d past n))
        (view d past n).held (stage (view d past n) (tx_in said)) x said else [])
    go true = row-given d past n x said own
    go false = inl refl

-- ---- the events

heard-open : (v : View) (x : NodeId) (said : Message) (t : TxId) (o : Open) → v.desk t ≡ Some o
    → (p : Open) × (desk_heard v x said t ≡ Some p)
heard-open v x (message.Vote u (ballot.Yes p)) t o is = go ((u == t) && counts_vote (participant v) (stage v t) x p)
  where
    go : (b : Bool) → (q : Open) × ((if b then changed_open (with_vote x p) (v.desk t) else v.desk t) ≡ Some q)
    go true = (record o { progress = with_vote x p o.progress }, rw is refl)
    go false = (o, is)
heard-open v x said t o is = (o, is)

never : {A : Type 0} → IsTrue false → A
never is = grind arith

decided-view : (d : DocumentData) (past : List Act) (n x : NodeId) (m k : ℕ) (said : Message)
    → sent_at m (sent past) ≡ Some (letter n x said) → OwnDecisions d past n
    → (t : TxId) (f : Ident) (rest : List Out) (o : Open) → (view d past n).desk t ≡ Some o
    → IsTrue (are_plain d n true rest)
    → view d (after (act.Got m ∷ past) (numbered k n (out.Act (act.Decided t f) ∷ rest))) n
    ≡ next_view n (view d past n) (event.Deliver x said) (out.Act (act.Decided t f) ∷ rest)
decided-view d past n x m k said is own t f rest o desk plain =
    let heard : view d (act.Got m ∷ past) n ≡ heard_view (view d past n) x said = step-got d past n x m said is own in
    let open_now = heard-open (view d past n) x said t o desk in
    let at : (view d (act.Got m ∷ past) n).desk t ≡ Some open_now.0 = ap (λ w. w.desk t) heard ∙ open_now.1 in
    plain-view d (act.Decided t f ∷ act.Got m ∷ past) n true (Some (letter n x said)) None k rest plain (λ given. is)
    ∙ ap (λ w. behind_all (Some (letter n x said)) None w rest) (step-decided d (act.Got m ∷ past) n t f open_now.0 (Some (letter n x said)) None at ∙ ap (λ w. behind (Some (letter n x said)) None w (out.Act (act.Decided t f))) heard)

-- a message is delivered
deliver-view : (d : DocumentData) (past : List Act) (n x : NodeId) (m k : ℕ) (said : Message)
    → sent_at m (sent past) ≡ Some (letter n x said) → OwnDecisions d past n
    → view d (after (act.Got m ∷ past) (numbered k n (answer n (view d past n) x said))) n
    ≡ next_view n (view d past n) (event.Deliver x said) (answer n (view d past n) x said)
deliver-view d past n x m k said is own = elim (answer-given d past n x said own) [
  | inl plain ↦ (plain-view d (act.Got m ∷ past) n true (Some (letter n x said)) None k (answer n (view d past n) x said) plain (λ given. is)
      ∙ ap (λ w. behind_all (Some (letter n x said)) None w (answer n (view d past n) x said)) (step-got d past n x m said is own))
  | inr given ↦ subst (λ os. view d (after (act.Got m ∷ past) (numbered k n os)) n ≡ next_view n (view d past n) (event.Deliver x said) os) (sym given.first) (decided-view d past n x m k said is own given.t given.f given.rest given.asked given.desk given.plain)
]

-- a transaction begins
begin-view : (d : DocumentData) (past : List Act) (n : NodeId) (k : ℕ) (s : ScriptData) (floor : Ident)
    → script_of s.number d.scripts ≡ Some s → s.home ≡ n
    → view d (after past (numbered k n (begin_outs n (participant (view d past n)) s floor))) n
    ≡ next_view n (view d past n) (event.Begin s floor) (begin_outs n (participant (view d past n)) s floor)
begin-view d past n k s floor script home =
    let sid0 : Ident = first_ident (participant (view d past n)) floor in
    plain-view d (act.Began s.number n sid0 ∷ past) n false None (Some s) k (advance d.cluster (begun_at s sid0) 0) (advance-plain d n false d.cluster (begun_at s sid0) 0) (λ is. never is)
    ∙ ap (λ w. behind_all None (Some s) w (advance d.cluster (begun_at s sid0) 0)) (step-began d past n n s sid0 None script home)

-- a home sends again
retry-view : (d : DocumentData) (past : List Act) (n : NodeId) (k : ℕ) (t : TxId)
    → view d (after past (numbered k n (retry_outs d.cluster t (stage (view d past n) t)))) n
    ≡ next_view n (view d past n) (event.Retry t) (retry_outs d.cluster t (stage (view d past n) t))
retry-view d past n k t = plain-view d past n false None None k (retry_outs d.cluster t (stage (view d past n) t)) (retry-plain d n d.cluster t (stage (view d past n) t)) (λ is. never is)

pub asks-plain : (d : DocumentData) (n : NodeId) (v : View) (t : TxId)
    → IsTrue (are_plain d n false (ask_outs (participant v) t))
asks-plain d n v t = go (is_some (pending t v.journal))
  where
    go : (b : Bool) → IsTrue (are_plain d n false (if b then to_node (home_of t v.journal) (message.Ask t) else []))
    go true = to-plain d n false (home_of t v.journal) (message.Ask t)
    go false = refl

-- a participant asks
ask-view : (d : DocumentData) (past : List Act) (n : NodeId) (k : ℕ) (t : TxId)
    → view d (after past (numbered k n (ask_outs (participant (view d past n)) t))) n
    ≡ next_view n (view d past n) (event.Ask t) (ask_outs (participant (view d past n)) t)
ask-view d past n k t = plain-view d past n false None None k (ask_outs (participant (view d past n)) t) (asks-plain d n (view d past n) t) (λ is. never is)

pub peers-plain : (d : DocumentData) (n : NodeId) (v : View) (t : TxId) (m : NodeId)
    → IsTrue (are_plain d n false (ask_peer_outs (participant v) t m))
peers-plain d n v t m = go (is_some (pending t v.journal) && names_part t m v.journal)
  where
    go : (b : Bool) → IsTrue (are_plain d n false (if b then out.Send m (message.AskPeer t) ∷ [] else []))
    go true = refl
    go false = refl

-- a participant asks another
ask_peer-view : (d : DocumentData) (past : List Act) (n : NodeId) (k : ℕ) (t : TxId) (m : NodeId)
    → view d (after past (numbered k n (ask_peer_outs (participant (view d past n)) t m))) n
    ≡ next_view n (view d past n) (event.AskPeer t m) (ask_peer_outs (participant (view d past n)) t m)
ask_peer-view d past n k t m = plain-view d past n false None None k (ask_peer_outs (participant (view d past n)) t m) (peers-plain d n (view d past n) t m) (λ is. never is)

-- ---- an event

-- an event comes
pub event-view : (d : DocumentData) (past : List Act) (n m k : ℕ) (e : Event) → Comes d past n m e
    → view d (after (brought m e past) (numbered k n (outs_of n (view d past n) e))) n
    ≡ next_view n (view d past n) e (outs_of n (view d past n) e)
event-view d past n m k (event.Begin s floor) script = go (s.home == n) refl (is_small floor && is_apart (stage (view d past n) s.number))
  where
    outs : List Out
    outs = begin_outs n (participant (view d past n)) s floor

    go : (here : Bool) → (s.home == n) ≡ here → (new : Bool)
        → view d (after past (numbered k n (if here && new then outs else []))) n
        ≡ next_view n (view d past n) (event.Begin s floor) (if here && new then outs else [])
    go true is true = let home : s.home ≡ n = grind (arith, nat_tests) in begin-view d past n k s floor script home
    go true is false = refl
    go false is new = refl
event-view d past n m k (event.Deliver x said) (is, own) = deliver-view d past n x m k said is own
event-view d past n m k (event.Retry t) comes = retry-view d past n k t
event-view d past n m k (event.Ask t) comes = ask-view d past n k t
event-view d past n m k (event.AskPeer t y) comes = ask_peer-view d past n k t y
event-view d past n m k event.Compact comes =
    plain-view d past n false None None k (compact_outs n) refl (λ is. never is)
