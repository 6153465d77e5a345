-- A transaction whose values are those of a map was shown what its script reads on that map.
use Rattle.std.proofs.Common.{◌≡◌, List, [], Option, Some, None, sym, subst, ◌∙◌}
use Rattle.score_base.specs.declared.ids.TxId.{TxId}
use Rattle.script_lang.specs.Scripts.{ScriptData}
use Rattle.grid_model.specs.declared.acts.Act.{Act}
use Rattle.grid_model.specs.declared.stories.Story.{Story}
use Rattle.grid_model.specs.Documents.{DocumentData}
use Rattle.grid_model.specs.Histories.{after}
use Rattle.grid_model.specs.Nodes.{script_of}
use Rattle.grid_model.specs.Stories.{story}
use Rattle.script_runs.specs.Waits.{waiting}
use Rattle.script_runs.specs.Serials.{Map}
use Rattle.grid_model.specs.Runs.{IsRun}
use Rattle.grid_model.specs.Copies.{IsShown, script_reads, shown}
use Rattle.script_runs.proofs.AllReads.{reads_by}
use Rattle.script_runs.proofs.SerialWalks.{AreOf, reads-serial}
use Rattle.copy_laws.proofs.ShownSteps.{Says}
use Rattle.copy_laws.proofs.ShownRuns.{shown-reads}

-- a transaction that took the values of a map was shown what it reads on that map
pub finished-shown : (d : DocumentData) (h : List Act) → IsRun d d.items h → (s : ScriptData) (t : TxId)
    → script_of t d.scripts ≡ Some s → (x : Story) → story d (after [] h) t ≡ Some x
    → waiting s.ops x.progress.values ≡ None → (m : Map) → AreOf m 1 x.progress.values s.ops
    → IsShown d (after [] h) t m
finished-shown d h run s t is x at full m each =
    let past : List Act = after [] h in
    let P : Option Story → Type 0 = λ o. Says s (shown past t) o in
    let by : shown past t ≡ reads_by x.progress.values s.ops = subst P at (shown-reads d h run t s is) in
    let R : Option ScriptData → Type 0 = λ o. shown past t ≡ script_reads o m in
    subst R (sym is) (by ∙ sym (reads-serial m x.progress.values s.ops full each))
