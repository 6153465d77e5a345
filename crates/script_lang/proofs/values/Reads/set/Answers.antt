use Rattle.std.proofs.Common.{ap, ◌∙◌}
use Rattle.std.specs.FinMap as map
use Rattle.script_lang.specs.Values.{ReadValues}
use Rattle.script_lang.proofs.Entries.{set_insert}
use Rattle.script_lang.proofs.values.Reads.set.Goals as goal

pub returns-clause-ok : goal.returns-clause-ok
returns-clause-ok c = set_insert _ _ c.args.key c.args.value c.in_ok-insert.ensures.updates.0 ∙ ap (λ (m : ReadValues). map.insert m c.args.key c.args.value) c.self.view_is
