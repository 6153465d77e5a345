use Rattle.std.proofs.Common.{◌≡◌, ◌∙◌, ap}
use Rattle.placement.specs.Places.{parts}
use Rattle.script_lang.specs.Reads.{keys_of}
use Rattle.run_state.proofs.scripts.parts_at.Goals as goal

pub returns : goal.returns
returns c =
    let places : c.cluster.inside.places ≡ c.args.cluster.now.places = ap (λ x. x.places) c.cluster.view_is in
    let keys : c.as_slice.result.now ≡ keys_of c.args.script.now.ops = c.as_slice.ensures ∙ c.in_ok-keys.ensures in
    let same : parts c.cluster.inside.places c.as_slice.result.now ≡ parts c.args.cluster.now.places (keys_of c.args.script.now.ops) = ap (λ p. parts p c.as_slice.result.now) places ∙ ap (parts c.args.cluster.now.places) keys in
    rw (← same) c.parts.ensures
