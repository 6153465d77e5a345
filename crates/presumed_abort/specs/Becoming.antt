-- What an open transaction becomes where it goes on.
use Rattle.std.specs.Prelude.{Option, Some, None}
use Rattle.score_base.specs.declared.ids.TxId.{TxId}
use Rattle.script_lang.specs.Scripts.{ScriptData}
use Rattle.grid_model.specs.Views.{Open}
use Rattle.presumed_abort.specs.declared.advances.Becomes.{Becomes}
use Rattle.presumed_abort.specs.declared.advances.Becomes.TheVariants as becomes
use Rattle.presumed_abort.specs.declared.advances.Step.{Step}
use Rattle.presumed_abort.specs.declared.stands.Stand.{Stand}
use Rattle.presumed_abort.specs.declared.stands.Stand.TheVariants as stand
use Rattle.presumed_abort.specs.Turns.{Change, Keeps, Goes, Turn}

-- the change of t, which came so far, where it becomes this
abbrev pub becomes_change : TxId → Open → Becomes → Change
becomes_change t x (becomes.Reads j turn) =
    Keeps (stand.Reading (record { tx = record x { progress = record x.progress { turn = turn } }; op = j }))
becomes_change t x (becomes.Collects parts) = Keeps (stand.Collecting (record { t = t; tx = x; parts = parts }))
becomes_change t x becomes.Ends = Goes

-- the turn of t with this script that makes this step
abbrev pub step_turn : TxId → ScriptData → Step → Turn
step_turn t s y =
    record {
      outs = y.outs.items;
      change = becomes_change t (record { script = s; progress = y.progress }) y.becomes;
      rec = None;
    }

-- the change of a transaction that comes to a desk, where it stands somewhere
abbrev pub change_of : Option Stand → Change
change_of None = Goes
change_of (Some s) = Keeps s
