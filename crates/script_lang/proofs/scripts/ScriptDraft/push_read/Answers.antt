use Rattle.std.proofs.Common.{ap, ◌<◌, length}
use Rattle.script_lang.proofs.Sound.{IsFront-read}
use Rattle.script_lang.proofs.scripts.ScriptDraft.push_read.Goals as goal
use Rattle.script_lang.specs.declared.limits.TheConstants.{MAX_OPS}

pub invariant_of-self : goal.invariant_of-self
invariant_of-self c =
    let short : length c.self.inside.ops < MAX_OPS = rw (ap (λ s. s.ops) c.self.view_is) c.requires in
    IsFront-read c.push.result c.self.inside.ops c.push.new.self c.args.key c.self.invariant short c.push.ensures.ok c.push.ensures.err
