use Rattle.std.specs.FinMap as map
use Rattle.script_lang.proofs.Known.{expr_passes}
use Rattle.script_lang.proofs.laws.law_known_keys.Goals as goal

pub returns : goal.returns
returns c = λ reads known e all among. expr_passes (map.contains_key reads) known e all among
