-- The outs of each row of a node change nothing but that node and its transactions.
use Rattle.std.proofs.Common.{◌≡◌, ℕ, ◌+◌, max, Bool, true, false, ◌&&◌, ◌||◌, ◌==◌, nat_lt, filter, map, List, [], ◌∷◌, ◌++◌, Option, Some, None, is_some, is_none, IsTrue, refl, sym, subst, ◌∙◌, arith, if◌then◌else◌}
use Rattle.std.proofs.lemmas.Bool.{and_from, and_parts}
use Rattle.std.proofs.lemmas.Bool.Decides.{nat_tests}
use Rattle.std.proofs.lemmas.List.Folds.{list_all-append}
use Rattle.std.specs.List.{flat_map, list_all}
use Rattle.score_base.specs.declared.ids.TxId.{TxId}
use Rattle.score_base.specs.declared.ids.NodeId.{NodeId}
use Rattle.score_base.specs.declared.ids.Ident.{Ident}
use Rattle.score_base.specs.declared.ids.Value.{Value}
use Rattle.score_base.specs.declared.causes.Ballot.{Ballot}
use Rattle.score_base.specs.declared.causes.Ballot.TheVariants as ballot
use Rattle.score_base.specs.declared.causes.Outcome.{Outcome}
use Rattle.score_base.specs.declared.causes.Outcome.TheVariants as outcome
use Rattle.score_base.specs.declared.keys.Key.{Key}
use Rattle.score_base.specs.declared.records.Record.{Record}
use Rattle.score_base.specs.declared.records.Record.TheVariants as record'
use Rattle.script_lang.specs.Reads.{is_update}
use Rattle.script_lang.specs.Scripts.{ScriptData}
use Rattle.script_lang.specs.declared.scripts.Op.{Op}
use Rattle.placement.specs.Clusters.{ClusterData}
use Rattle.placement.specs.Places.{is_among, others}
use Rattle.script_runs.specs.Waits.{waiting}
use Rattle.script_runs.specs.Walks.{op_at, own_reads, unread}
use Rattle.journal_words.specs.declared.versions.Version.{Version}
use Rattle.journal_words.specs.Journals.{Decision, commit_id, ended, floor, holder, home_of, is_clear, is_commit, names_part, newer, pending, undone}
use Rattle.grid_model.specs.declared.acts.Act.{Act}
use Rattle.grid_model.specs.declared.acts.Act.TheVariants as act
use Rattle.grid_model.specs.declared.acts.Head.{Head}
use Rattle.grid_model.specs.declared.events.Event.{Event}
use Rattle.grid_model.specs.declared.events.Event.TheVariants as event
use Rattle.grid_model.specs.declared.events.Out.{Out}
use Rattle.grid_model.specs.declared.events.Out.TheVariants as out
use Rattle.grid_model.specs.declared.messages.Message.{Message}
use Rattle.grid_model.specs.declared.messages.Message.TheVariants as message
use Rattle.grid_model.specs.declared.messages.ReadReq.{ReadReq}
use Rattle.grid_model.specs.declared.messages.ReadRep.{ReadRep}
use Rattle.grid_model.specs.declared.stories.HeldRead.{HeldRead}
use Rattle.grid_model.specs.declared.stories.Voted.{Voted}
use Rattle.grid_model.specs.Advances.{advance, advance_end, owns, parts_now, prepare_for, prepares, request_of, to_node}
use Rattle.grid_model.specs.Documents.{DocumentData, number_order, script_numbers}
use Rattle.grid_model.specs.Fitness.{is_fit_at, tx_in}
use Rattle.grid_model.specs.NextViews.{Comes, OwnDecisions, is_running}
use Rattle.grid_model.specs.Nodes.{is_home, journal, node, script_of}
use Rattle.grid_model.specs.Rows.{abort_outs, ack_outs, answered, are_all_among, asked_outs, ballot_outs, begin_outs, begun_at, ceilings, commit_outs, dated, decides, first_ident, freed_by, greatest_vote, have_voted, if_pending, message_outs, not_among, not_voted, outs_of, peer_outs, prepared_outs, raises, read_outs, release, reply_outs, retry_outs, served, tell_outs, tells, version_for, vote_outs}
use Rattle.grid_model.specs.Schedules.{broken, head_at, kept, lost_at, numbered, stopped}
use Rattle.grid_model.specs.Stories.{has_voted, is_open, is_small, phase, story, with_value}
use Rattle.grid_model.specs.Views.{Apart, Collects, Commits, Open, Reads, Stage, View, is_apart, open_stage, participant, stage, stage_by, view}
use Rattle.grid_model.proofs.Undecided.{script-number}
use Rattle.grid_model.proofs.ViewSteps.{AtDesk, at-desk, here}
use Rattle.view_laws.proofs.RowWritings.{collects-desk}
use Rattle.view_laws.proofs.Unmoved.{is_own, is_own_message}

-- ---- lists of outs

module _ (d : DocumentData) (n : NodeId) where
  -- an out that changes nothing but node n and its transactions
  abbrev pub is_own_out : Out → Bool
  is_own_out (out.Act a) = is_own d n a
  is_own_out (out.Send to said) = is_own_message d n said

  abbrev pub AreOwn : List Out → Type 0
  AreOwn os = list_all is_own_out os ≡ true

  own-append : (os ps : List Out) → AreOwn os → AreOwn ps → AreOwn (os ++ ps)
  own-append os ps h k =
      list_all-append is_own_out os ps ∙ and_from (list_all is_own_out os) (list_all is_own_out ps) h k

  own-if : (b : Bool) (os : List Out) → AreOwn os → AreOwn (if b then os else [])
  own-if true os h = h
  own-if false os h = refl

  own-first : (o : Out) (os : List Out) → is_own_out o ≡ true → AreOwn os → AreOwn (o ∷ os)
  own-first o os h k = and_from (is_own_out o) (list_all is_own_out os) h k

  own-sends : (f : NodeId → Message) (ms : List NodeId) → ((m : NodeId) → is_own_message d n (f m) ≡ true) →
      AreOwn (map (λ m. out.Send m (f m)) ms)
  own-sends f [] h = refl
  own-sends f (m ∷ ms) h = own-first (out.Send m (f m)) (map (λ z. out.Send z (f z)) ms) (h m) (own-sends f ms h)

  own-to : (o : Option NodeId) (said : Message) → is_own_message d n said ≡ true → AreOwn (to_node o said)
  own-to None said h = refl
  own-to (Some m) said h = rw h refl

  -- ---- with a stop or without, and numbered

  own-stopped : (h : Option Head) (o : Out) (os : List Out) → is_own_out o ≡ true → AreOwn os →
      AreOwn (stopped n h o os)
  own-stopped None o os first rest = own-first o os first rest
  own-stopped (Some x) o os first rest = rw (here n) refl

  own-broken : (os : List Out) → AreOwn os → AreOwn (broken n os)
  own-broken [] h = refl
  own-broken (o ∷ os) h =
      let parts = and_parts (is_own_out o) (list_all is_own_out os) h in
      own-stopped (head_at o) o (broken n os) parts.0 (own-broken os parts.1)

  pub own-kept : (b : Bool) (os : List Out) → AreOwn os → AreOwn (kept b n os)
  own-kept true os h = h
  own-kept false os h = own-broken os h

  pub own-numbered : (k : ℕ) (os : List Out) → AreOwn os → list_all (is_own d n) (numbered k n os) ≡ true
  own-numbered k [] h = refl
  own-numbered k (out.Act a ∷ os) h =
      let parts = and_parts (is_own d n a) (list_all is_own_out os) h in
      and_from (is_own d n a) (list_all (is_own d n) (numbered k n os)) parts.0 (own-numbered k os parts.1)
  own-numbered k (out.Send to said ∷ os) h =
      let parts = and_parts (is_own_message d n said) (list_all is_own_out os) h in
      and_from (is_own_message d n said) (list_all (is_own d n) (numbered (k + 1) n os)) parts.0
      (own-numbered (k + 1) os parts.1)

  -- ---- the rows of a home

  -- an open transaction of n
  abbrev IsMine : Open → Type 0
  IsMine x = is_home d x.script.number n ≡ true

  own-request : (c : ClusterData) (x : Open) (j q : ℕ) (o : Option Op) → IsMine x → AreOwn (request_of c x j q o)
  own-request c x j q None mine = refl
  own-request c x j q (Some o) mine = own-to _ _ mine

  own-prepares : (c : ClusterData) (x : Open) (ms : List NodeId) → AreOwn (prepares c x ms)
  own-prepares c x ms = own-sends (λ m. message.Prepare (prepare_for c x m)) ms (λ m. refl)

  own-tells : (t : TxId) (o : Outcome) (ms : List NodeId) → AreOwn (tells t o ms)
  own-tells t o ms = own-sends (λ m. message.Tell t o) ms (λ m. refl)

  own-end : (c : ClusterData) (x : Open) (w : Option ℕ) → IsMine x → AreOwn (advance_end c x w)
  own-end c x (Some j) mine = own-request c x j 0 (op_at x.script.ops j) mine
  own-end c x None mine = go (is_update x.script.ops)
    where
      go : (u : Bool) →
          AreOwn (if u then prepares c x (parts_now c x) else out.Act (act.Finished x.script.number) ∷ [])
      go true = own-prepares c x (parts_now c x)
      go false = rw mine refl

  own-shown : (t : TxId) (ys : List (ℕ × Value)) → AreOwn (map (λ y. out.Act (act.Own t y.0 y.1)) ys)
  own-shown t [] = refl
  own-shown t (y ∷ ys) = own-shown t ys

  own-advance : (c : ClusterData) (x : Open) (i : ℕ) → IsMine x → AreOwn (advance c x i)
  own-advance c x i mine =
      let ys : List (ℕ × Value) = own_reads 1 [] unread x.progress.values x.script.ops in
      own-append (owns x.script.number i ys) (advance_end c x (waiting x.script.ops x.progress.values))
      (own-shown x.script.number (filter (λ y. nat_lt i y.0) ys))
      (own-end c x (waiting x.script.ops x.progress.values) mine)

  own-reply : (c : ClusterData) (q : ReadRep) (g : Stage) →
      ((x : Open) (j : ℕ) → g ≡ Reads x j → (is_home d q.t n ≡ true) × IsMine x) → AreOwn (reply_outs c q g)
  own-reply c q (Reads x j) home =
      let y : Open = record x { progress = with_value q.op q.sid q.value x.progress } in
      let mine = home x j refl in
      own-if (j == q.op) (out.Act (act.Taken q.t q.op q.sid q.value) ∷ advance c y q.op)
      (own-first (out.Act (act.Taken q.t q.op q.sid q.value)) (advance c y q.op) mine.0 (own-advance c y q.op mine.1))
  own-reply c q g home = refl

  own-decides : (t : TxId) (f : Ident) (ms : List NodeId) → is_home d t n ≡ true → AreOwn (decides t f ms)
  own-decides t f ms mine =
      own-first (out.Act (act.Decided t f)) (out.Act (act.Finished t) ∷ tells t (outcome.Commit f) ms) mine
      (own-first (out.Act (act.Finished t)) (tells t (outcome.Commit f) ms) mine (own-tells t (outcome.Commit f) ms))

  own-ballot : (t : TxId) (ns : List NodeId) (vs : List Voted) (x : NodeId) (b : Ballot) → is_home d t n ≡ true →
      AreOwn (ballot_outs t ns vs x b)
  own-ballot t ns vs x (ballot.Yes p) mine =
      let votes : List Voted = vs ++ record { from = x; p = p } ∷ [] in
      own-if (have_voted ns votes) (decides t (greatest_vote votes) ns) (own-decides t (greatest_vote votes) ns mine)
  own-ballot t ns vs x (ballot.No why) mine =
      own-first (out.Act (act.Aborted t x why)) (tells t outcome.Abort (others x ns)) mine
      (own-tells t outcome.Abort (others x ns))

  own-vote : (c : ClusterData) (t : TxId) (x : NodeId) (b : Ballot) (g : Stage) →
      ((o : Open) → g ≡ Collects o → is_home d t n ≡ true) → AreOwn (vote_outs c t x b g)
  own-vote c t x b (Collects o) home = go (has_voted x o.progress.votes)
    where
      go : (taken : Bool) → AreOwn (if taken then [] else ballot_outs t (parts_now c o) o.progress.votes x b)
      go true = refl
      go false = own-ballot t (parts_now c o) o.progress.votes x b (home o refl)
  own-vote c t x b g home = refl

  own-ack : (t : TxId) (x : NodeId) (g : Stage) →
      ((y : Decision) (acks : List NodeId) → g ≡ Commits y acks → is_home d t n ≡ true) → AreOwn (ack_outs t x g)
  own-ack t x (Commits y acks) home = go (is_among x acks) (are_all_among y.parts (acks ++ x ∷ []))
    where
      go : (taken all : Bool) → AreOwn (if taken then [] else (if all then out.Act (act.Closed t) ∷ [] else []))
      go true all = refl
      go false false = refl
      go false true = rw (home y acks refl) refl
  own-ack t x g home = refl

  own-asked : (t : TxId) (x : NodeId) (g : Stage) → AreOwn (asked_outs t x g)
  own-asked t x (Reads o j) = refl
  own-asked t x (Collects o) = refl
  own-asked t x (Commits y acks) = refl
  own-asked t x Apart = refl

  own-retry : (c : ClusterData) (t : TxId) (g : Stage) → ((x : Open) (j : ℕ) → g ≡ Reads x j → IsMine x) →
      AreOwn (retry_outs c t g)
  own-retry c t (Reads x j) home = own-request c x j x.progress.turn (op_at x.script.ops j) (home x j refl)
  own-retry c t (Collects x) home = own-prepares c x (not_voted (parts_now c x) x.progress.votes)
  own-retry c t (Commits y acks) home = own-tells t (outcome.Commit y.final) (not_among y.parts acks)
  own-retry c t Apart home = refl

  -- ---- the rows of a participant

  own-answered : (b : Bool) (x : NodeId) (q : ReadReq) (sid : Ident) (w : Version) → AreOwn (answered b n x q sid w)
  own-answered true x q sid w = rw (here n) refl
  own-answered false x q sid w = rw (here n) refl

  own-read : (v : View) (x : NodeId) (q : ReadReq) (sid : Ident) → AreOwn (read_outs n (participant v) x q sid)
  own-read v x q sid =
      let w : Version = version_for v.cluster v.journal q.key sid in
      own-append (ceilings n (floor v.journal) sid)
      (raises n v.next sid ++ answered (is_clear sid v.journal) n x q sid w)
      (own-if (nat_lt (floor v.journal) sid) (out.Act (act.Ceiling n _) ∷ []) (rw (here n) refl))
      (own-append (raises n v.next sid) (answered (is_clear sid v.journal) n x q sid w)
      (own-if (nat_lt v.next sid) (out.Act (act.Raised n sid) ∷ []) (rw (here n) refl))
      (own-answered (is_clear sid v.journal) x q sid w))

  own-prepare : (x : NodeId) (t : TxId) (o : Option Outcome) (mine : Option Ident) (u : Option TxId)
      (y : Option (Key × Ident)) (p : Ident) → AreOwn (prepared_outs n x t o mine u y p)
  own-prepare x t (Some o) mine u y p = refl
  own-prepare x t None (Some q) u y p = refl
  own-prepare x t None None (Some u) y p = refl
  own-prepare x t None None None (Some y) p = refl
  own-prepare x t None None None None p = rw (here n) refl

  own-release : (c : ClusterData) (r : List Record) (hs : List HeldRead) → AreOwn (release c r n hs)
  own-release c r [] = refl
  own-release c r (h ∷ hs) =
      let w : Version = version_for c r h.key h.sid in
      own-append (if is_clear h.sid r then served n h.t h.op h.key h.sid h.from w else []) (release c r n hs)
      (own-if (is_clear h.sid r) (served n h.t h.op h.key h.sid h.from w) (rw (here n) refl)) (own-release c r hs)

  own-commit : (t : TxId) (f : Ident) (mine : Option Ident) (done : Bool) (ack freed : List Out) → AreOwn ack →
      AreOwn freed → AreOwn (commit_outs n t f mine done ack ++ if_pending mine freed)
  own-commit t f (Some p) done ack freed h k =
      own-first (out.Act (act.Ended n t (outcome.Commit f))) (ack ++ freed) (here n) (own-append ack freed h k)
  own-commit t f None true ack freed h k = own-append ack [] h refl
  own-commit t f None false ack freed h k = refl

  own-abort : (t : TxId) (mine : Option Ident) (freed : List Out) → AreOwn freed →
      AreOwn (abort_outs n t mine ++ if_pending mine freed)
  own-abort t (Some p) freed k = own-first (out.Act (act.Ended n t outcome.Abort)) freed (here n) k
  own-abort t None freed k = refl

  own-tell : (v : View) (t : TxId) (o : Outcome) → AreOwn (tell_outs n (participant v) v.held t o)
  own-tell v t (outcome.Commit f) =
      own-commit t f (pending t v.journal) (is_commit (ended t v.journal))
      (to_node (home_of t v.journal) (message.Ack t)) (freed_by n (participant v) v.held t (outcome.Commit f))
      (own-to (home_of t v.journal) (message.Ack t) refl)
      (own-release v.cluster (record'.Ended t (outcome.Commit f) ∷ v.journal) v.held)
  own-tell v t outcome.Abort =
      own-abort t (pending t v.journal) (freed_by n (participant v) v.held t outcome.Abort)
      (own-release v.cluster (record'.Ended t outcome.Abort ∷ v.journal) v.held)

  own-peer : (t : TxId) (x : NodeId) (o : Option Outcome) → AreOwn (peer_outs t x o)
  own-peer t x None = refl
  own-peer t x (Some o) = refl

-- ---- what stands at the desk of n is of n

reads-desk : (w : Option Decision) (en : Option Open) (cs : List NodeId) (x : Open) (j : ℕ) →
    stage_by w en cs ≡ Reads x j → en ≡ Some x
reads-desk (Some y) en cs x j is = absurd (grind (arith, is))
reads-desk None None cs x j is = absurd (grind (arith, is))
reads-desk None (Some q) cs x j is = go (waiting q.script.ops q.progress.values) is
  where
    go : (w : Option ℕ) → open_stage q w ≡ Reads x j → Some q ≡ Some x
    go None same = absurd (grind (arith, same))
    go (Some i) same = cc

-- a decision that stands is of n
commits-home : (d : DocumentData) (past : List Act) (n : NodeId) (t : TxId) → OwnDecisions d past n →
    (y : Decision) (acks : List NodeId) → stage (view d past n) t ≡ Commits y acks → is_home d t n ≡ true
commits-home d past n t own y acks is =
    go (undone t (journal d past n)) (is_home d t n) (own t) ((view d past n).desk t) ((view d past n).acks t) is
  where
    opened : (q : Open) (w : Option ℕ) → open_stage q w ≡ Commits y acks → ⊥
    opened q None same = absurd (grind (arith, same))
    opened q (Some i) same = absurd (grind (arith, same))

    go : (w : Option Decision) (home : Bool) → IsTrue (is_none w || (home && is_running (story d past t))) →
        (en : Option Open) (cs : List NodeId) → stage_by w en cs ≡ Commits y acks → home ≡ true
    go w true h en cs same = refl
    go (Some z) false h en cs same = cc
    go None false h None cs same = absurd (grind (arith, same))
    go None false h (Some q) cs same = absurd (opened q (waiting q.script.ops q.progress.values) same)

module _ (d : DocumentData) (past : List Act) (n : NodeId) where
  desk-home : (t : TxId) (x : Open) → (view d past n).desk t ≡ Some x → is_home d t n ≡ true
  desk-home t x is =
      let at : AtDesk d past n t x = at-desk d past n t x is in
      rw (at.script) (grind (arith, nat_tests, at.home))

  desk-mine : (t : TxId) (x : Open) → (view d past n).desk t ≡ Some x → is_home d x.script.number n ≡ true
  desk-mine t x is =
      let at : AtDesk d past n t x = at-desk d past n t x is in
      subst (λ u. is_home d u n ≡ true) (sym at.number) (desk-home t x is)

  reads-at : (t : TxId) (x : Open) (j : ℕ) → stage (view d past n) t ≡ Reads x j → (view d past n).desk t ≡ Some x
  reads-at t x j is = reads-desk (undone t (journal d past n)) ((view d past n).desk t) ((view d past n).acks t) x j is

  own-message : (x : NodeId) (said : Message) → OwnDecisions d past n → AreOwn d n
      (message_outs n (participant (view d past n)) (view d past n).held (stage (view d past n) (tx_in said)) x said)
  own-message x (message.ReadReq q) own = own-read d n (view d past n) x q (dated q.date (commit_id (journal d past n)))
  own-message x (message.ReadRep q) own =
      own-reply d n d.cluster q (stage (view d past n) q.t)
      (λ o j is. (desk-home q.t o (reads-at q.t o j is), desk-mine q.t o (reads-at q.t o j is)))
  own-message x (message.Prepare q) own =
      own-prepare d n x q.t (ended q.t (journal d past n)) (pending q.t (journal d past n))
      (holder (journal d past n) q.t q.reads q.writes) (newer (journal d past n) q.reads q.sid)
      (1 + max (node d past n).next q.sid)
  own-message x (message.Vote t b) own =
      own-vote d n d.cluster t x b (stage (view d past n) t)
      (λ o is. desk-home t o
      (collects-desk (undone t (journal d past n)) ((view d past n).desk t) ((view d past n).acks t) o is))
  own-message x (message.Tell t o) own = own-tell d n (view d past n) t o
  own-message x (message.Ack t) own = own-ack d n t x (stage (view d past n) t) (commits-home d past n t own)
  own-message x (message.Ask t) own = own-asked d n t x (stage (view d past n) t)
  own-message x (message.AskPeer t) own = own-peer d n t x (ended t (journal d past n))

  own-begin : (s : ScriptData) (floor : Ident) → script_of s.number d.scripts ≡ Some s →
      AreOwn d n (outs_of n (view d past n) (event.Begin s floor))
  own-begin s floor is = go (s.home == n) refl (is_small floor && is_apart (stage (view d past n) s.number))
    where
      sid0 : Ident
      sid0 = first_ident (participant (view d past n)) floor

      go : (home : Bool) → (s.home == n) ≡ home → (new : Bool) →
          AreOwn d n (if home && new then begin_outs n (participant (view d past n)) s floor else [])
      go true home true =
          let mine : is_home d s.number n ≡ true = rw is home in
          own-first d n (out.Act (act.Began s.number n sid0)) (advance d.cluster (begun_at s sid0) 0) mine
          (own-advance d n d.cluster (begun_at s sid0) 0 mine)
      go true home false = refl
      go false home new = refl

  -- the outs of an event that comes to n
  pub own-outs : (k : ℕ) (e : Event) → Comes d past n k e → AreOwn d n (outs_of n (view d past n) e)
  own-outs k (event.Begin s floor) is = own-begin s floor is
  own-outs k (event.Deliver x said) comes =
      own-if d n (is_fit_at n (participant (view d past n)) (stage (view d past n) (tx_in said)) x said)
      (message_outs n (participant (view d past n)) (view d past n).held (stage (view d past n) (tx_in said)) x said)
      (own-message x said comes.1)
  own-outs k (event.Retry t) comes =
      own-retry d n d.cluster t (stage (view d past n) t) (λ x j is. desk-mine t x (reads-at t x j is))
  own-outs k (event.Ask t) comes =
      own-if d n (is_some (pending t (journal d past n))) (to_node (home_of t (journal d past n)) (message.Ask t))
      (own-to d n (home_of t (journal d past n)) (message.Ask t) refl)
  own-outs k (event.AskPeer t m) comes =
      own-if d n (is_some (pending t (journal d past n)) && names_part t m (journal d past n))
      (out.Send m (message.AskPeer t) ∷ []) refl
  own-outs k event.Compact comes = rw (here n) refl

-- ---- the losses

own-loss : (d : DocumentData) (past : List Act) (n : NodeId) (t : TxId) (o : Option ScriptData) →
    script_of t d.scripts ≡ o → list_all (is_own d n) (lost_at d past n o) ≡ true
own-loss d past n t None is = refl
own-loss d past n t (Some s) is = go (s.home == n) refl (is_open (phase d past s))
  where
    go : (home : Bool) → (s.home == n) ≡ home → (b : Bool) →
        list_all (is_own d n) (if home && b then act.Lost s.number ∷ [] else []) ≡ true
    go true home true =
        let number : s.number ≡ t = script-number t d.scripts s is in
        rw (number, is, home) refl
    go true home false = refl
    go false home b = refl

own-flat : (d : DocumentData) (past : List Act) (n : NodeId) (ts : List TxId) →
    list_all (is_own d n) (flat_map (λ t. lost_at d past n (script_of t d.scripts)) ts) ≡ true
own-flat d past n [] = refl
own-flat d past n (t ∷ ts) =
    let rest : List Act = flat_map (λ u. lost_at d past n (script_of u d.scripts)) ts in
    list_all-append (is_own d n) (lost_at d past n (script_of t d.scripts)) rest
    ∙ and_from (list_all (is_own d n) (lost_at d past n (script_of t d.scripts))) (list_all (is_own d n) rest)
    (own-loss d past n t (script_of t d.scripts) refl) (own-flat d past n ts)

pub own-losses : (d : DocumentData) (past : List Act) (n : NodeId) →
    list_all (is_own d n)
    (flat_map (λ t. lost_at d past n (script_of t d.scripts)) (number_order (script_numbers d.scripts)))
    ≡ true
own-losses d past n = own-flat d past n (number_order (script_numbers d.scripts))
