use Rattle.std.proofs.Common.{◌≡◌, true, ap, ◌∙◌, ◌<◌, length}
use Rattle.script_lang.specs.Exprs.{is_expr_among}
use Rattle.script_lang.specs.Reads.{known_keys}
use Rattle.script_lang.proofs.Sound.{IsFront-write}
use Rattle.script_lang.proofs.scripts.ScriptDraft.push_write.Goals as goal
use Rattle.script_lang.specs.declared.limits.TheConstants.{MAX_OPS}

pub invariant_of-self : goal.invariant_of-self
invariant_of-self c =
    let short : length c.self.inside.ops < MAX_OPS = rw (ap (λ s. s.ops) c.self.view_is) c.requires.room in
    let among : is_expr_among (known_keys c.self.inside.ops) c.args.expr ≡ true = ap (λ s. is_expr_among (known_keys s.ops) c.args.expr) c.self.view_is ∙ c.requires.known in
    IsFront-write c.push.result c.self.inside.ops c.push.new.self c.args.key c.args.expr c.self.invariant short among c.push.ensures.ok c.push.ensures.err
