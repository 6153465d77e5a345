-- Each refusal is of the Prepare that its own node got last.
use Rattle.std.proofs.Common.{List, [], ◌∷◌, sym}
use Rattle.grid_model.specs.declared.acts.Act.{Act}
use Rattle.grid_model.specs.declared.acts.Act.TheVariants as act
use Rattle.grid_model.specs.Documents.{DocumentData}
use Rattle.grid_model.specs.Histories.{after}
use Rattle.grid_model.specs.Runs.{IsRun}
use Rattle.grid_model.specs.Acts.{EachBehind}
use Rattle.grid_laws.proofs.Causes.{AllDue, IsDue}
use Rattle.grid_laws.proofs.RunsDue.{due-run}
use Rattle.grid_model.specs.Claims.{IsAskedAct, RefusedWhereAsked}

act-asked : (d : DocumentData) (past : List Act) (a : Act) → IsDue d past a → IsAskedAct a past
act-asked d past (act.Refused n t why) due = record { from = due.0; prepare = due.1.prepare; got = due.1.got; of = sym due.1.is }
act-asked d past a due = tt

each-asked : (d : DocumentData) (past : List Act) → AllDue d past → EachBehind IsAskedAct past
each-asked d [] due = tt
each-asked d (a ∷ past) due = (act-asked d past a due.0, each-asked d past due.1)

pub refused-asked : (d : DocumentData) (h : List Act) → IsRun d d.items h → RefusedWhereAsked h
refused-asked d h run = each-asked d (after [] h) (due-run d d.items h run)
