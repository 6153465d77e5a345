use Rattle.script_lang.proofs.ScriptRead.{script_read}
use Rattle.script_lang.proofs.laws.law_script_spelling.Goals as goal

pub returns : goal.returns
returns c = script_read
