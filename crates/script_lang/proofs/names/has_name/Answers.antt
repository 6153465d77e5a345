use Rattle.std.proofs.Common.{sym, ◌∙◌}
use Rattle.std.specs.Cmp.Lexicographic.{texts_ties}
use Rattle.script_lang.proofs.NamesRead.{list_any_same}
use Rattle.script_lang.proofs.names.has_name.Goals as goal

pub returns : goal.returns
returns c = c.contains.ensures ∙ list_any_same _ _ (λ x. sym (texts_ties c.args.key.now x)) c.args.named.now.keys
