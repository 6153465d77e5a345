-- The turns of a begin and of a read reply: the transaction goes on to its next remote read, or to its end.
use Rattle.std.specs.Prelude.{ℕ, ◌==◌, List, [], ◌∷◌, length, Option, Some, None, if◌then◌else◌}
use Rattle.score_base.specs.declared.ids.TxId.{TxId}
use Rattle.score_base.specs.declared.ids.NodeId.{NodeId}
use Rattle.score_base.specs.declared.ids.Ident.{Ident}
use Rattle.score_base.specs.declared.ids.Value.{Value}
use Rattle.script_lang.specs.declared.scripts.Op.{Op}
use Rattle.script_lang.specs.Scripts.{ScriptData}
use Rattle.script_lang.specs.Reads.{key_of, is_update}
use Rattle.script_runs.specs.Waits.{waiting}
use Rattle.script_runs.specs.Walks.{op_at}
use Rattle.placement.specs.Places.{holders}
use Rattle.placement.specs.Clusters.{ClusterData}
use Rattle.grid_model.specs.declared.acts.Act.TheVariants as act
use Rattle.grid_model.specs.declared.events.Out.{Out}
use Rattle.grid_model.specs.declared.events.Out.TheVariants as out
use Rattle.grid_model.specs.declared.messages.Message.TheVariants as message
use Rattle.grid_model.specs.declared.messages.ReadReq.{ReadReq}
use Rattle.grid_model.specs.declared.messages.ReadRep.{ReadRep}
use Rattle.grid_model.specs.Stories.{with_request, with_value}
use Rattle.grid_model.specs.Views.{Open}
use Rattle.grid_model.specs.Advances.{advance, parts_now}
use Rattle.grid_model.specs.Rows.{begun_at}
use Rattle.presumed_abort.specs.declared.states.Reading.{Reading}
use Rattle.presumed_abort.specs.declared.stands.Stand.{Stand}
use Rattle.presumed_abort.specs.declared.stands.Stand.TheVariants as stand
use Rattle.presumed_abort.specs.Turns.{Change, Keeps, Goes, Turn, quiet}

-- how many nodes hold the key of an operation
abbrev pub holders_of : ClusterData → Option Op → ℕ
holders_of c None = 0
holders_of c (Some o) = length (holders c.places (key_of o))

-- a request as it is sent, where there is one
abbrev pub request_sent : Option (NodeId × ReadReq) → List Out
request_sent None = []
request_sent (Some p) = out.Send p.0 (message.ReadReq p.1) ∷ []

-- a transaction of which a holder of the key of operation j was asked
abbrev pub with_asked : ClusterData → ℕ → Open → Open
with_asked c j x = record x { progress = with_request (holders_of c (op_at x.script.ops j)) x.progress }

-- where t stands that waits for this operation, its first holder asked, or that is at its end
abbrev pub advanced : ClusterData → TxId → Open → Option ℕ → Change
advanced c t x (Some j) = Keeps (stand.Reading (record { tx = with_asked c j x; op = j }))
advanced c t x None =
    if is_update x.script.ops then Keeps (stand.Collecting (record { t = t; tx = x; parts = parts_now c x })) else Goes

-- where t stands, by its script and its values
abbrev pub gone_on : ClusterData → TxId → Open → Change
gone_on c t x = advanced c t x (waiting x.script.ops x.progress.values)

-- a transaction that begins at this identifier
abbrev pub begin_turn : ClusterData → ScriptData → Ident → Turn
begin_turn c s sid0 =
    record {
      outs = out.Act (act.Began s.number s.home sid0) ∷ advance c (begun_at s sid0) 0;
      change = gone_on c s.number (begun_at s sid0);
      rec = None;
    }

-- a transaction that took the value of an operation, at this identifier
abbrev pub with_reply : ℕ → Ident → Value → Open → Open
with_reply j sid w x = record x { progress = with_value j sid w x.progress }

-- a reply to the operation that the transaction waits for: its value, at this identifier
abbrev pub taken_turn : ClusterData → Value → Ident → Reading → Turn
taken_turn c w sid r =
    record {
      outs =
          out.Act (act.Taken r.tx.script.number r.op sid w)
          ∷ advance c (with_reply r.op sid w r.tx) r.op;
      change = gone_on c r.tx.script.number (with_reply r.op sid w r.tx);
      rec = None;
    }

-- a reply to a transaction that stands so
abbrev pub reply_turn : ClusterData → ReadRep → Option Stand → Turn
reply_turn c q (Some (stand.Reading r)) = if r.op == q.op then taken_turn c q.value q.sid r else quiet
reply_turn c q o = quiet
