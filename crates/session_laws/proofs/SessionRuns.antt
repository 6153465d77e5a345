-- The claim on sessions is not empty: it holds of a run in which a transaction waits for another of its
-- session; and runs of the same scripts without a session break each of its sentences.
use Rattle.std.proofs.Common.{◌≡◌, ◌≤◌, ◌<◌, ℕ, ◌+◌, ◌-◌, true, false, List, [], ◌∷◌, ◌++◌, take, drop, refl, sym, arith}
use Rattle.std.proofs.lemmas.Bool.{false≢true}
use Rattle.score_base.specs.declared.ids.TxId.{TxId}
use Rattle.score_base.specs.declared.ids.NodeId.{NodeId}
use Rattle.score_base.specs.declared.ids.Ident.{Ident}
use Rattle.score_base.specs.declared.causes.Ballot.TheVariants as ballot
use Rattle.score_base.specs.declared.causes.Date.TheVariants as date
use Rattle.score_base.specs.declared.causes.Outcome.TheVariants as outcome
use Rattle.script_lang.specs.Scripts.{ScriptData}
use Rattle.script_lang.specs.declared.exprs.Atom.TheVariants as atom
use Rattle.script_lang.specs.declared.scripts.Op.TheVariants as op
use Rattle.grid_model.specs.declared.acts.Act.{Act}
use Rattle.grid_model.specs.declared.acts.Act.TheVariants as act
use Rattle.grid_model.specs.declared.items.Item.TheVariants as item
use Rattle.grid_model.specs.declared.messages.Message.TheVariants as message
use Rattle.grid_model.specs.Copies.{snapshot}
use Rattle.grid_model.specs.Documents.{DocumentData}
use Rattle.grid_model.specs.Histories.{after}
use Rattle.grid_model.specs.Runs.{Lawful}
use Rattle.grid_model.specs.Sessions.{BeganBefore, InOrder, SessionOrder, closed, floor_at, is_busy_at}
use Rattle.grid_model.specs.Stories.{Answered, Closed}
use Rattle.journal_words.proofs.TwoNodes.{a, b, two_nodes}
use Rattle.grid_model.proofs.Plays.{all_open, phases, played-run, prepare, reply, request, usually}
use Rattle.grid_model.proofs.TransferActs.{opened}
use Rattle.grid_model.proofs.Unarmed.{calm-lawful, no_rise}
use Rattle.session_laws.proofs.SessionOrders.{session-order}

-- ---- scripts of a session

-- an update of `b` at n1
abbrev pub writes_b : ℕ → ScriptData
writes_b k = record {
  number = 1;
  home = 1;
  session = k;
  ops = op.Write b (record { first = atom.Number 5; steps = [] }) ∷ [];
}

-- an update of `a` at n2
abbrev pub writes_a : TxId → ℕ → ScriptData
writes_a t k = record {
  number = t;
  home = 2;
  session = k;
  ops = op.Write a (record { first = atom.Number 3; steps = [] }) ∷ [];
}

-- a read of `b` at n1
abbrev pub reads_b : ℕ → ScriptData
reads_b k = record { number = 2; home = 1; session = k; ops = op.Read b ∷ [] }

-- a read of `a` at n2
abbrev pub reads_a : ℕ → ScriptData
reads_a k = record { number = 3; home = 2; session = k; ops = op.Read a ∷ [] }

-- reads of both at n2
abbrev pub reads_both : ℕ → ScriptData
reads_both k = record { number = 2; home = 2; session = k; ops = op.Read a ∷ op.Read b ∷ [] }

-- ---- what they do

-- the update of `b` begins at 0
abbrev pub begins_b : List Act
begins_b = act.Began 1 1 0 ∷ act.Sent 1 1 1 (prepare 1 0 (1 ∷ []) [] ((b, 5) ∷ [])) ∷ []

-- and it is decided with 1 and closed
abbrev pub commits_b : List Act
commits_b =
    act.Got 1
    ∷ act.Prepared 1 1 1
    ∷ act.Sent 2 1 1 (message.Vote 1 (ballot.Yes 1))
    ∷ act.Got 2
    ∷ act.Decided 1 1
    ∷ act.Finished 1
    ∷ act.Sent 3 1 1 (message.Tell 1 (outcome.Commit 1))
    ∷ act.Got 3
    ∷ act.Ended 1 1 (outcome.Commit 1)
    ∷ act.Sent 4 1 1 (message.Ack 1)
    ∷ act.Got 4
    ∷ act.Closed 1
    ∷ []

-- the update of `a` begins at 0, is decided with 1 and closed; its first message has number m
abbrev pub commits_a : TxId → ℕ → List Act
commits_a t m =
    act.Began t 2 0
    ∷ act.Sent m 2 2 (prepare t 0 (2 ∷ []) [] ((a, 3) ∷ []))
    ∷ act.Got m
    ∷ act.Prepared 2 t 1
    ∷ act.Sent (m + 1) 2 2 (message.Vote t (ballot.Yes 1))
    ∷ act.Got (m + 1)
    ∷ act.Decided t 1
    ∷ act.Finished t
    ∷ act.Sent (m + 2) 2 2 (message.Tell t (outcome.Commit 1))
    ∷ act.Got (m + 2)
    ∷ act.Ended 2 t (outcome.Commit 1)
    ∷ act.Sent (m + 3) 2 2 (message.Ack t)
    ∷ act.Got (m + 3)
    ∷ act.Closed t
    ∷ []

-- behind the update of `b`, the read of `b` begins and is answered at 1
abbrev pub answers_b : List Act
answers_b =
    act.Began 2 1 1
    ∷ act.Sent 5 1 1 (request 2 1 b (date.First 1))
    ∷ act.Got 5
    ∷ act.Served 1 2 1 b 1 1 5
    ∷ act.Sent 6 1 1 (reply 2 1 1 5)
    ∷ act.Got 6
    ∷ act.Taken 2 1 1 5
    ∷ act.Finished 2
    ∷ []

-- the read of `a` begins and is answered at 0
abbrev pub answers_a : List Act
answers_a =
    act.Began 3 2 0
    ∷ act.Sent 7 2 2 (request 3 1 a (date.First 0))
    ∷ act.Got 7
    ∷ act.Served 2 3 1 a 0 0 10
    ∷ act.Sent 8 2 2 (reply 3 1 0 10)
    ∷ act.Got 8
    ∷ act.Taken 3 1 0 10
    ∷ act.Finished 3
    ∷ []

-- ---- a session of two

-- an update and a reader of session k, of which the second is to begin twice
abbrev pub update_then_read : ℕ → DocumentData
update_then_read k = record {
  cluster = two_nodes;
  scripts = writes_b k ∷ reads_both k ∷ [];
  items = item.Begin 1 ∷ item.Begin 2 ∷ item.Next 4 ∷ item.Begin 2 ∷ item.Next 4 ∷ [];
}

-- its first begin finds the session busy, and its second one is at the session's floor
abbrev pub update_then_read_acts : List Act
update_then_read_acts =
    opened
    ++ begins_b
    ++ act.Void 9
    ∷ commits_b
    ++ act.Began 2 2 1
    ∷ act.Sent 5 2 2 (request 2 1 a (date.First 1))
    ∷ act.Got 5
    ∷ act.Ceiling 2 64
    ∷ act.Raised 2 1
    ∷ act.Served 2 2 1 a 1 0 10
    ∷ act.Sent 6 2 2 (reply 2 1 1 10)
    ∷ act.Got 6
    ∷ act.Taken 2 1 1 10
    ∷ act.Sent 7 2 1 (request 2 2 b (date.At 1))
    ∷ act.Got 7
    ∷ act.Served 1 2 2 b 1 1 5
    ∷ act.Sent 8 1 2 (reply 2 2 1 5)
    ∷ act.Got 8
    ∷ act.Taken 2 2 1 5
    ∷ act.Finished 2
    ∷ []

pub update_then_read-lawful : Lawful (update_then_read 5) update_then_read_acts no_rise
update_then_read-lawful =
    calm-lawful (update_then_read 5) update_then_read_acts
    (played-run (update_then_read 5) all_open (usually (update_then_read 5).items) refl) (λ n. refl) (λ n. refl)

pub update_then_read-order : SessionOrder (update_then_read 5) update_then_read_acts
update_then_read-order =
    session-order (update_then_read 5) (update_then_read 5).items update_then_read_acts update_then_read-lawful.run

-- ---- two places of a history

-- the acts from place i up to place j, the newest first
abbrev pub acts_from : ℕ → ℕ → List Act → List Act
acts_from i j h = after [] (take (j - i) (drop i h))

-- the acts behind place j, the newest first
abbrev pub acts_behind : ℕ → List Act → List Act
acts_behind j h = after [] (drop (j + 1) h)

-- t begins at place i of a history, with the identifier x, and u at place j, with y
pub begun-at : (h : List Act) (i j : ℕ) (t u : TxId) (n m : NodeId) (x y : Ident)
    → after [] h ≡ acts_behind j h ++ act.Began u m y ∷ acts_from 0 j h
    → acts_from 0 j h ≡ acts_from (i + 1) j h ++ act.Began t n x ∷ acts_from 0 i h
    → BeganBefore (after [] h) t u (acts_from 0 j h)
begun-at h i j t u n m x y later earlier = record {
  later = acts_behind j h;
  home = m;
  ident = y;
  begun = later;
  between = acts_from (i + 1) j h;
  before = acts_from 0 i h;
  node = n;
  first = x;
  earlier = earlier;
}

-- the first is closed, the second is answered at the floor that the session had where it began; where it
-- was to begin first, the session was busy
pub update_then_read-premises :
    (phases (update_then_read 5) (after [] update_then_read_acts) ≡ Closed 1 ∷ Answered ∷ [])
    × (snapshot (update_then_read 5) (after [] update_then_read_acts) 2 ≡ 1)
    × (floor_at (update_then_read 5) (acts_from 0 17 update_then_read_acts) (reads_both 5) ≡ 1)
    × (is_busy_at (update_then_read 5) (acts_from 0 4 update_then_read_acts) (reads_both 5) ≡ true)
update_then_read-premises = (refl, refl, refl, refl)

-- the two of them are in order
pub update_then_read-in_order :
    InOrder (update_then_read 5) (after [] update_then_read_acts) (writes_b 5) (reads_both 5)
    (acts_from 0 17 update_then_read_acts)
update_then_read-in_order =
    update_then_read-order (writes_b 5) (reads_both 5) 5 (acts_from 0 17 update_then_read_acts) refl refl refl refl
    (begun-at update_then_read_acts 2 17 1 2 1 2 0 1 refl refl)

-- ---- what is refuted

one-below-zero : (◌≤◌ 1 0) → ⊥
one-below-zero h = omega arith

one-below-one : (◌<◌ 1 1) → ⊥
one-below-one h = omega arith

-- without a session the second begins at 0 while the first is open
abbrev pub apart_acts : List Act
apart_acts =
    opened
    ++ begins_b
    ++ act.Began 2 2 0
    ∷ act.Sent 2 2 2 (request 2 1 a (date.First 0))
    ∷ act.Got 1
    ∷ act.Prepared 1 1 1
    ∷ act.Sent 3 1 1 (message.Vote 1 (ballot.Yes 1))
    ∷ act.Got 2
    ∷ act.Served 2 2 1 a 0 0 10
    ∷ act.Sent 4 2 2 (reply 2 1 0 10)
    ∷ act.Got 3
    ∷ act.Decided 1 1
    ∷ act.Finished 1
    ∷ act.Sent 5 1 1 (message.Tell 1 (outcome.Commit 1))
    ∷ act.Got 4
    ∷ act.Taken 2 1 0 10
    ∷ act.Sent 6 2 1 (request 2 2 b (date.At 0))
    ∷ act.Void 1
    ∷ act.Got 5
    ∷ act.Ended 1 1 (outcome.Commit 1)
    ∷ act.Sent 7 1 1 (message.Ack 1)
    ∷ act.Got 6
    ∷ act.Served 1 2 2 b 0 0 0
    ∷ act.Sent 8 1 2 (reply 2 2 0 0)
    ∷ act.Got 7
    ∷ act.Closed 1
    ∷ act.Got 8
    ∷ act.Taken 2 2 0 0
    ∷ act.Finished 2
    ∷ []

pub apart-lawful : Lawful (update_then_read 0) apart_acts no_rise
apart-lawful =
    calm-lawful (update_then_read 0) apart_acts
    (played-run (update_then_read 0) all_open (usually (update_then_read 0).items) refl) (λ n. refl) (λ n. refl)

apart-order : SessionOrder (update_then_read 5) apart_acts
    → InOrder (update_then_read 5) (after [] apart_acts) (writes_b 5) (reads_both 5) (acts_from 0 4 apart_acts)
apart-order order =
    order (writes_b 5) (reads_both 5) 5 (acts_from 0 4 apart_acts) refl refl refl refl
    (begun-at apart_acts 2 4 1 2 1 2 0 0 refl refl)

-- of a session these acts are refuted: the second is answered below the final identifier of the first
pub apart-refuted : SessionOrder (update_then_read 5) apart_acts → ⊥
apart-refuted order =
    one-below-zero ((apart-order order).seen 1 0 (closed refl) (record { answered = refl; at = refl }))

-- and its begin alone is refuted: the first is open there
abbrev pub early_acts : List Act
early_acts = opened ++ begins_b ++ act.Began 2 2 0 ∷ []

pub early-refuted : SessionOrder (update_then_read 5) early_acts → ⊥
early-refuted order =
    let held :
    InOrder (update_then_read 5) (after [] early_acts) (writes_b 5) (reads_both 5)
    (acts_from 0 4 early_acts) =
    order (writes_b 5) (reads_both 5) 5 (acts_from 0 4 early_acts) refl refl refl refl
    (begun-at early_acts 2 4 1 2 1 2 0 0 refl refl) in
    let over : true ≡ false = held.over in
    false≢true (sym over)

-- two updates, one behind the other
abbrev pub two_updates : ℕ → DocumentData
two_updates k = record {
  cluster = two_nodes;
  scripts = writes_b k ∷ writes_a 2 k ∷ [];
  items = item.Begin 1 ∷ item.Next 4 ∷ item.Begin 2 ∷ item.Next 4 ∷ [];
}

-- without a session both have the final identifier 1
abbrev pub two_updates_acts : List Act
two_updates_acts = opened ++ begins_b ++ commits_b ++ commits_a 2 5

pub two_updates-lawful : Lawful (two_updates 0) two_updates_acts no_rise
two_updates-lawful =
    calm-lawful (two_updates 0) two_updates_acts
    (played-run (two_updates 0) all_open (usually (two_updates 0).items) refl) (λ n. refl) (λ n. refl)

-- of a session the later one has to have a greater one
pub two_updates-refuted : SessionOrder (two_updates 5) two_updates_acts → ⊥
two_updates-refuted order =
    let held :
    InOrder (two_updates 5) (after [] two_updates_acts) (writes_b 5) (writes_a 2 5)
    (acts_from 0 16 two_updates_acts) =
    order (writes_b 5) (writes_a 2 5) 5 (acts_from 0 16 two_updates_acts) refl refl refl refl
    (begun-at two_updates_acts 2 16 1 2 1 2 0 0 refl refl) in
    one-below-one (held.updates 1 1 (closed refl) (closed refl))

-- behind an update of no session, a reader and an update
abbrev pub read_then_update : ℕ → DocumentData
read_then_update k = record {
  cluster = two_nodes;
  scripts = writes_b 0 ∷ reads_b k ∷ writes_a 3 k ∷ [];
  items = item.Begin 1 ∷ item.Next 4 ∷ item.Begin 2 ∷ item.Next 2 ∷ item.Begin 3 ∷ item.Next 4 ∷ [];
}

-- without a session the update's final identifier is the reader's snapshot
abbrev pub read_then_update_acts : List Act
read_then_update_acts = opened ++ begins_b ++ commits_b ++ answers_b ++ commits_a 3 7

pub read_then_update-lawful : Lawful (read_then_update 0) read_then_update_acts no_rise
read_then_update-lawful =
    calm-lawful (read_then_update 0) read_then_update_acts
    (played-run (read_then_update 0) all_open (usually (read_then_update 0).items) refl) (λ n. refl) (λ n. refl)

-- of a session it has to be above it
pub read_then_update-refuted : SessionOrder (read_then_update 5) read_then_update_acts → ⊥
read_then_update-refuted order =
    let held :
    InOrder (read_then_update 5) (after [] read_then_update_acts) (reads_b 5) (writes_a 3 5)
    (acts_from 0 24 read_then_update_acts) =
    order (reads_b 5) (writes_a 3 5) 5 (acts_from 0 24 read_then_update_acts) refl refl refl refl
    (begun-at read_then_update_acts 16 24 2 3 1 2 1 0 refl refl) in
    one-below-one (held.written 1 1 (record { answered = refl; at = refl }) (closed refl))

-- behind an update of no session, two readers
abbrev pub two_readers : ℕ → DocumentData
two_readers k = record {
  cluster = two_nodes;
  scripts = writes_b 0 ∷ reads_b k ∷ reads_a k ∷ [];
  items = item.Begin 1 ∷ item.Next 4 ∷ item.Begin 2 ∷ item.Next 2 ∷ item.Begin 3 ∷ item.Next 2 ∷ [];
}

-- without a session the later one has the earlier snapshot
abbrev pub two_readers_acts : List Act
two_readers_acts = opened ++ begins_b ++ commits_b ++ answers_b ++ answers_a

pub two_readers-lawful : Lawful (two_readers 0) two_readers_acts no_rise
two_readers-lawful =
    calm-lawful (two_readers 0) two_readers_acts
    (played-run (two_readers 0) all_open (usually (two_readers 0).items) refl) (λ n. refl) (λ n. refl)

-- of a session it may not
pub two_readers-refuted : SessionOrder (two_readers 5) two_readers_acts → ⊥
two_readers-refuted order =
    let held :
    InOrder (two_readers 5) (after [] two_readers_acts) (reads_b 5) (reads_a 5)
    (acts_from 0 24 two_readers_acts) =
    order (reads_b 5) (reads_a 5) 5 (acts_from 0 24 two_readers_acts) refl refl refl refl
    (begun-at two_readers_acts 16 24 2 3 1 2 1 0 refl refl) in
    one-below-zero (held.read 1 0 (record { answered = refl; at = refl }) (record { answered = refl; at = refl }))
