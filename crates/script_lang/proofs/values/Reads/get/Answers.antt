use Rattle.std.proofs.Common.{sym, ap, ◌∙◌}
use Rattle.std.specs.FinMap as map
use Rattle.script_lang.proofs.Entries.{get_lookup}
use Rattle.script_lang.proofs.values.Reads.get.Goals as goal

pub returns : goal.returns
returns c = c.copied.ensures ∙ c.get.ensures.value ∙ sym (get_lookup c.args.key.now c.self.inside.values.entries) ∙ ap (λ m. map.get m c.args.key.now) c.self.view_is
