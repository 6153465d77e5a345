use Rattle.std.proofs.Common.{sym, ap, ◌∙◌}
use Rattle.script_lang.specs.Reads.{keys_of}
use Rattle.placement.specs.Places.{holds}
use Rattle.presumed_abort.proofs.PartNodes.{are-parts, told-parts, told-are}
use Rattle.presumed_abort.proofs.parts.Parts.of.Goals as goal

pub invariant_of-result : goal.invariant_of-result
invariant_of-result c =
    let ops = c.ops.result.now in
    let places = c.cluster.inside.places in
    told-are places ops c.as_slice.result.now c.in_ok-nodes.nodes
    (c.as_slice.ensures ∙ c.in_ok-keys.ensures ∙ sym (ap keys_of c.ops.ensures.value)) c.in_ok-nodes.ensures
    (are-parts places ops c.holder-holder.result c.index-ops-0.result c.ops.ensures.body.least c.index-ops-0.is
    (ap (holds places c.holder-holder.result) (sym c.key_of.ensures) ∙ c.holder-holder.ensures.holds)
    c.holder-holder.ensures.least c.holder-holder.ensures.most)

pub returns : goal.returns
returns c =
    told-parts c.args.cluster.now c.args.tx.now _ _ c.as_slice.result.now c.in_ok-nodes.nodes
    (ap (λ x. x.places) c.cluster.view_is) (ap (λ x. x.script.ops) c.tx.view_is)
    (c.as_slice.ensures ∙ c.in_ok-keys.ensures) c.in_ok-nodes.ensures
