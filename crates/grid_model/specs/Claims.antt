-- What is claimed of every lawful run beside one copy: its footprint, the causes of its aborts, and that
-- commits are atomic and, where they were acknowledged, kept. What waits is in `Excuses`.
use Rattle.std.specs.Prelude.{◌≡◌, ◌⊎◌, Bool, true, false, ◌&&◌, ◌||◌, ◌==◌, filter, map, reverse, IsTrue, List, [], ◌∷◌, ◌++◌, Option, Some, None, if◌then◌else◌}
use Rattle.score_base.specs.declared.ids.TxId.{TxId}
use Rattle.score_base.specs.declared.ids.NodeId.{NodeId}
use Rattle.score_base.specs.declared.ids.Ident.{Ident}
use Rattle.score_base.specs.declared.ids.Value.{Value}
use Rattle.score_base.specs.declared.keys.Key.{Key}
use Rattle.score_base.specs.declared.causes.Cause.{Cause}
use Rattle.score_base.specs.declared.causes.Cause.TheVariants as cause
use Rattle.score_base.specs.declared.causes.Outcome.{Outcome}
use Rattle.score_base.specs.declared.causes.Outcome.TheVariants as outcome
use Rattle.score_base.specs.declared.records.Record.{Record}
use Rattle.score_base.specs.declared.records.Record.TheVariants as record'
use Rattle.script_lang.specs.Scripts.{ScriptData}
use Rattle.script_lang.specs.Reads.{is_update, written_keys}
use Rattle.placement.specs.Places.{is_among, holds}
use Rattle.grid_model.specs.declared.acts.Act.{Act}
use Rattle.grid_model.specs.declared.acts.Act.TheVariants as act
use Rattle.grid_model.specs.declared.messages.Message.{Message}
use Rattle.grid_model.specs.declared.messages.Message.TheVariants as message
use Rattle.grid_model.specs.declared.messages.Prepare.{Prepare}
use Rattle.grid_model.specs.Documents.{DocumentData}
use Rattle.grid_model.specs.Histories.{after}
use Rattle.journal_words.specs.Journals.{ended, Prepared, holder, newer, prepared_of, has_decided}
use Rattle.grid_model.specs.Facts.{is_given_up}
use Rattle.journal_words.specs.Small.{small}
use Rattle.grid_model.specs.Nodes.{node, journal, got, said_by, is_home, script_of, parts_in}
use Rattle.grid_model.specs.Disks.{is_compacting, was_compacted, disklog}
use Rattle.grid_model.specs.Stories.{phase, is_open}
use Rattle.script_runs.specs.Serials.{Map, map_behind}
use Rattle.grid_model.specs.Fitness.{tx_in}
use Rattle.grid_model.specs.Acts.{EachAct, EachBehind, has_refused}
use Rattle.grid_model.specs.Copies.{order, copy_of, is_finished}

-- ---- footprint

-- n is the home of t or holds a key of t
abbrev pub is_end : DocumentData → TxId → NodeId → Bool
is_end d t n = is_home d t n || is_among n (parts_in d (script_of t d.scripts))

-- both ends of a message have a part in its transaction
abbrev pub IsGenuineAct : DocumentData → Act → Type 0
IsGenuineAct d (act.Sent m x y said) = IsTrue (is_end d (tx_in said) x && is_end d (tx_in said) y)
IsGenuineAct d a = Unit {0}

-- Genuine: only the home of a transaction and the holders of its keys send and get its messages
abbrev pub Genuine : DocumentData → List Act → Type 0
Genuine d h = EachAct (IsGenuineAct d) h

-- ---- causes

-- the cause by a holder, else by a newer version, else none
abbrev pub cause_by : Option TxId → Option (Key × Ident) → Option Cause
cause_by (Some u) newer = Some (cause.Holder u)
cause_by None (Some x) = Some (cause.Newer x.0 x.1)
cause_by None None = None

-- why these records refuse a Prepare: the least holder, else the first newer version
abbrev pub cause_of : List Record → Prepare → Option Cause
cause_of r q = cause_by (holder r q.t q.reads q.writes) (newer r q.reads q.sid)

-- why these records refuse t, where the message is its Prepare
abbrev pub refusal_of : List Record → TxId → Option Message → Option Cause
refusal_of r t (Some (message.Prepare q)) = if q.t == t then cause_of r q else None
refusal_of r t o = None

-- there is a script, and it has a write
abbrev pub is_update_in : Option ScriptData → Bool
is_update_in None = false
is_update_in (Some s) = is_update s.ops

-- there is a script, and its transaction is reading or collecting
abbrev pub is_open_in : DocumentData → List Act → Option ScriptData → Bool
is_open_in d past None = false
is_open_in d past (Some s) = is_open (phase d past s)

-- these acts end in the step of an Up of the home of t, before which t was reading or collecting
abbrev pub was_open : DocumentData → TxId → List Act → Bool
was_open d t (act.Lost u ∷ past) = was_open d t past
was_open d t (act.Up n f ∷ past) = is_home d t n && is_open_in d past (script_of t d.scripts)
was_open d t past = false

-- an abort has its refusal, a refusal its holder or its newer version, a loss the opening of the home
abbrev pub IsCausedAct : DocumentData → Act → List Act → Type 0
IsCausedAct d (act.Aborted t n why) past = IsTrue (is_update_in (script_of t d.scripts) && has_refused n t why past)
IsCausedAct d (act.Refused n t why) past = refusal_of (journal d past n) t (said_by (got past)) ≡ Some why
IsCausedAct d (act.Lost t) past = IsTrue (was_open d t past)
IsCausedAct d a past = Unit {0}

-- Caused: each abort, refusal and loss has its shown cause, and no read-only transaction is aborted
abbrev pub Caused : DocumentData → List Act → Type 0
Caused d h = EachBehind (IsCausedAct d) (after [] h)

-- the message that was got last is a Prepare of t, and it came to n
pub record IsAskedFor (past : List Act) (n : NodeId) (t : TxId) : Type 0 where
  pub from : NodeId
  pub prepare : Prepare
  pub got : got past ≡ Some (record { from = from; to = n; message = message.Prepare prepare })
  pub of : prepare.t ≡ t

-- an act that refuses refuses what its own node was asked for
abbrev pub IsAskedAct : Act → List Act → Type 0
IsAskedAct (act.Refused n t why) past = IsAskedFor past n t
IsAskedAct a past = Unit {0}

-- RefusedWhereAsked: each refusal is of the Prepare that its own node got last
abbrev pub RefusedWhereAsked : List Act → Type 0
RefusedWhereAsked h = EachBehind IsAskedAct (after [] h)

-- ---- atomic commits

-- the pair of a final identifier and a transaction is a member of the serial order
pub record IsMember (d : DocumentData) (past : List Act) (f : Ident) (t : TxId) : Type 0 where
  pub later : List (Ident × TxId)
  pub before : List (Ident × TxId)
  pub there : order d past ≡ later ++ (f, t) ∷ before

-- a transaction that is committed with f was neither aborted nor lost, and each node that ended it ended
-- it with commit and f
pub record IsFirm (d : DocumentData) (past : List Act) (f : Ident) (t : TxId) : Type 0 where
  pub kept : is_given_up t past ≡ false
  pub ends : (n : NodeId) (o : Outcome) → ended t (journal d past n) ≡ Some o → o ≡ outcome.Commit f

-- Atomic: each member of the serial order is firm, and whatever a node ended with commit is a member, with
-- that final identifier
pub record AtomicOf (d : DocumentData) (past : List Act) : Type 0 where
  pub firm : (f : Ident) (t : TxId) → IsMember d past f t → IsFirm d past f t
  pub member : (n : NodeId) (f : Ident) (t : TxId) → ended t (journal d past n) ≡ Some (outcome.Commit f)
      → IsMember d past f t

-- atomic, of acts in the order of time
abbrev pub Atomic : DocumentData → List Act → Type 0
Atomic d h = AtomicOf d (after [] h)

-- ---- acknowledged commits

-- a list of records that the live file of node n may hold, in the order of time: its disk list; where a
-- record is in doubt, that list with the record behind it; where a compaction is in doubt, its Small
pub data IsLog (d : DocumentData) (past : List Act) (n : NodeId) (log : List Record) : Type 0 where
  standing : log ≡ reverse (disklog d past n) → IsLog d past n log
  in_doubt : (last : Record) → (node d past n).doubt ≡ Some last → log ≡ reverse (last ∷ disklog d past n)
      → IsLog d past n log
  compacting : is_compacting past n ≡ true → log ≡ reverse (small (disklog d past n)) → IsLog d past n log

-- each node has one of these lists that its live file may hold
pub record AreLogs (d : DocumentData) (past : List Act) (logs : NodeId → List Record) : Type 0 where
  pub each : (n : NodeId) → IsLog d past n (logs n)

-- an Ended of t with commit and the final identifier f stands
abbrev pub has_ended : TxId → Ident → List Record → Bool
has_ended t f [] = false
has_ended t f (record'.Ended u (outcome.Commit g) ∷ r) = (u == t && g == f) || has_ended t f r
has_ended t f (x ∷ r) = has_ended t f r

-- the writes of a Prepared, where there is one
abbrev pub writes_at : Option Prepared → Option (List (Key × Value))
writes_at None = None
writes_at (Some q) = Some q.writes

-- the writes of a script that n holds, where it is run on this map
abbrev pub writes_on : DocumentData → NodeId → ScriptData → Map → List (Key × Value)
writes_on d n s m = map (λ k. (k, map_behind m s.ops k)) (filter (holds d.cluster.places n) (written_keys [] s.ops))

-- an update whose client was told is in the serial order, and it is in the logs: its Decided at its home,
-- or, where a compaction of the home may have dropped it, its Ended with commit at each part; and at each
-- part its Prepared with all of its writes there, with the values that the serial copy gives them
pub record IsKept (d : DocumentData) (past : List Act) (logs : NodeId → List Record) (s : ScriptData) : Type 0 where
  pub final : Ident
  pub later : List (Ident × TxId)
  pub before : List (Ident × TxId)
  pub member : order d past ≡ later ++ (final, s.number) ∷ before
  pub decided : IsTrue (has_decided s.number final (reverse (logs s.home)))
      ⊎ (IsTrue (was_compacted past s.home)
      × ((n : NodeId) → IsTrue (is_among n (parts_in d (Some s)))
      → IsTrue (has_ended s.number final (reverse (logs n)))))
  pub prepared : (n : NodeId) → IsTrue (is_among n (parts_in d (Some s)))
      → writes_at (prepared_of s.number (reverse (logs n))) ≡ Some (writes_on d n s (copy_of d before))

-- Kept: each finished update is kept in all lists that the disks may hold
abbrev pub Kept : DocumentData → List Act → Type 0
Kept d h =
    (logs : NodeId → List Record) → AreLogs d (after [] h) logs → (s : ScriptData) (t : TxId)
    → script_of t d.scripts ≡ Some s → IsTrue (is_update s.ops) → IsTrue (is_finished (after [] h) t)
    → IsKept d (after [] h) logs s
