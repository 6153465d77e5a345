-- What a store answers to a read, by the words over its records.
use Rattle.std.specs.Prelude.{Bool, nat_lt, List, if◌then◌else◌}
use Rattle.score_base.specs.declared.ids.NodeId.{NodeId}
use Rattle.score_base.specs.declared.ids.Ident.{Ident}
use Rattle.score_base.specs.declared.records.Record.{Record}
use Rattle.score_base.specs.declared.records.Record.TheVariants as record'
use Rattle.journal_words.specs.Journals.{commit_id, floor, is_clear}
use Rattle.grid_model.specs.declared.messages.ReadReq.{ReadReq}
use Rattle.grid_model.specs.declared.stories.HeldRead.{HeldRead}
use Rattle.grid_model.specs.Rows.{ceiling_of, dated, version_for}
use Rattle.grid_store.specs.Given.{Given}
use Rattle.snapshot_read.specs.declared.answers.Answer.{Answer}
use Rattle.snapshot_read.specs.declared.answers.Arrived.{Arrived}
use Rattle.snapshot_read.specs.declared.answers.Arrived.TheVariants as arrived
use Rattle.snapshot_read.specs.declared.answers.Promised.{Promised}
use Rattle.snapshot_read.specs.declared.answers.Promised.TheVariants as promised

-- the read for which a request from x asks; a first read is dated by the node that is asked
abbrev pub read_at : Given → NodeId → ReadReq → HeldRead
read_at s x q = record { t = q.t; op = q.op; sid = dated q.date (commit_id s.journal); key = q.key; from = x }

-- no pending proposal is at most the identifier of the read
abbrev pub is_free : List Record → HeldRead → Bool
is_free r h = is_clear h.sid r

-- the clock stands below the identifier of the read
abbrev pub is_raised : Given → HeldRead → Bool
is_raised s h = nat_lt s.next h.sid

-- the answer to a read: the version that the records give at its identifier
abbrev pub answer_to : Given → HeldRead → Bool → Answer
answer_to s h raised =
    record {
      to = h.from;
      t = h.t;
      op = h.op;
      key = h.key;
      sid = h.sid;
      vn = (version_for s.cluster s.journal h.key h.sid).ident;
      value = (version_for s.cluster s.journal h.key h.sid).value;
      raised = raised;
    }

-- a read at or below the floor: held where a pending proposal is at most its identifier, else served
abbrev pub served_or_held : Given → HeldRead → Promised
served_or_held s h =
    if is_free s.journal h
    then promised.Serve (answer_to s h (is_raised s h))
    else promised.Hold (record { sid = h.sid; raised = is_raised s h })

-- the record of the ceiling that is promised before a read above the floor is answered
abbrev pub ceiling_for : HeldRead → Record
ceiling_for h = record'.Ceiling (ceiling_of h.sid)

-- an answer at once
abbrev pub at_once : Promised → Arrived
at_once (promised.Hold w) = arrived.Hold w
at_once (promised.Serve a) = arrived.Serve a

-- a read that arrives: above the floor it needs a ceiling, else it is answered at once
abbrev pub arrival : Given → HeldRead → Arrived
arrival s h =
    if nat_lt (floor s.journal) h.sid
    then arrived.NeedCeiling (record { read = h }) (ceiling_for h)
    else at_once (served_or_held s h)
