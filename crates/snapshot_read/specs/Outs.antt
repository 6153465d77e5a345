-- The outs that a node makes of what the calls of a read answered.
use Rattle.std.specs.Prelude.{◌≡◌, ℕ, Bool, true, false, List, [], ◌∷◌, ◌++◌, Option, Some, None, option_map}
use Rattle.std.specs.List.{find}
use Rattle.score_base.specs.declared.ids.TxId.{TxId}
use Rattle.score_base.specs.declared.ids.NodeId.{NodeId}
use Rattle.score_base.specs.declared.ids.Ident.{Ident}
use Rattle.score_base.specs.declared.records.Record.{Record}
use Rattle.score_base.specs.declared.records.Record.TheVariants as record'
use Rattle.grid_model.specs.declared.acts.Act.TheVariants as act
use Rattle.grid_model.specs.declared.events.Out.{Out}
use Rattle.grid_model.specs.declared.events.Out.TheVariants as out
use Rattle.grid_model.specs.declared.messages.Message.TheVariants as message
use Rattle.grid_model.specs.declared.stories.HeldRead.{HeldRead}
use Rattle.grid_model.specs.Nodes.{without_read}
use Rattle.grid_store.specs.Given.{Given}
use Rattle.snapshot_read.specs.declared.answers.Answer.{Answer}
use Rattle.snapshot_read.specs.declared.answers.Waits.{Waits}
use Rattle.snapshot_read.specs.declared.answers.Arrived.{Arrived}
use Rattle.snapshot_read.specs.declared.answers.Arrived.TheVariants as arrived
use Rattle.snapshot_read.specs.declared.answers.Promised.{Promised}
use Rattle.snapshot_read.specs.declared.answers.Promised.TheVariants as promised
use Rattle.snapshot_read.specs.Reads.{is_free, answer_to}

-- the clock rose to an identifier
abbrev pub raised_outs : NodeId → Bool → Ident → List Out
raised_outs n true sid = out.Act (act.Raised n sid) ∷ []
raised_outs n false sid = []

-- the reply of an answer
abbrev pub reply_of : Answer → Out
reply_of a = out.Send a.to (message.ReadRep (record { t = a.t; op = a.op; sid = a.sid; value = a.value }))

-- node n serves a read with this answer
abbrev pub serve_outs : NodeId → Answer → List Out
serve_outs n a =
    raised_outs n a.raised a.sid
    ++ (out.Act (act.Served n a.t a.op a.key a.sid a.vn a.value) ∷ (reply_of a ∷ []))

-- node n holds the read of this operation
abbrev pub hold_outs : NodeId → TxId → ℕ → Waits → List Out
hold_outs n t op w = raised_outs n w.raised w.sid ++ (out.Act (act.Held n t op w.sid) ∷ [])

-- node n answers the read of this operation
abbrev pub promised_outs : NodeId → TxId → ℕ → Promised → List Out
promised_outs n t op (promised.Hold w) = hold_outs n t op w
promised_outs n t op (promised.Serve a) = serve_outs n a

-- node n keeps the record of a ceiling
abbrev pub ceiling_outs : NodeId → Record → List Out
ceiling_outs n (record'.Ceiling c) = out.Act (act.Ceiling n c) ∷ []
ceiling_outs n x = []

-- what node n gives for an arriving read of this operation: where a ceiling was due, its record is kept first
-- and then the read is answered so
abbrev pub arrived_outs : NodeId → TxId → ℕ → Arrived → Promised → List Out
arrived_outs n t op (arrived.NeedCeiling due x) p = ceiling_outs n x ++ promised_outs n t op p
arrived_outs n t op (arrived.Hold w) p = hold_outs n t op w
arrived_outs n t op (arrived.Serve a) p = serve_outs n a

-- the held reads without that of an answer
abbrev pub without_answered : Answer → List HeldRead → List HeldRead
without_answered a hs = without_read a.t a.op a.key a.sid hs

-- what `release` answers: the first of these reads that no pending proposal holds
abbrev pub first_answer : Given → List HeldRead → Option Answer
first_answer s hs = option_map (λ h. answer_to s h false) (find (is_free s.journal) hs)

-- `release` called until it answers None: what it answered, and the reads that stay held
abbrev pub Releases : Given → List HeldRead → List Answer → List HeldRead → Type 0
Releases s hs [] left = (first_answer s hs ≡ None) × (left ≡ hs)
Releases s hs (a ∷ answers) left =
    (first_answer s hs ≡ Some a) × Releases s (without_answered a hs) answers left
