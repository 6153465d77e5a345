use Rattle.script_lang.proofs.KeyLimit.{same_script}
use Rattle.script_lang.proofs.laws.law_key_limit.Goals as goal

pub returns : goal.returns
returns c = same_script
