use Rattle.std.proofs.Common.{ap, ◌∙◌, filter, map, []}
use Rattle.script_lang.specs.Reads.{remote_keys, written_keys}
use Rattle.placement.specs.Places.{holds}
use Rattle.grid_model.specs.Stories.{first_sid}
use Rattle.script_runs.specs.Walks.{own_map}
use Rattle.presumed_abort.proofs.Prepared.{prepare-told}
use Rattle.presumed_abort.proofs.prepares.prepare_for.Goals as goal

pub returns : goal.returns
returns c =
    let x = c.args.tx.now in
    let places = c.args.cluster.now.places in
    prepare-told c.args.cluster.now x c.args.n _ _ _ _ _
    (ap (λ s. s.number) c.script.view_is ∙ ap (λ y. y.script.number) c.tx.view_is)
    (c.first_sid.ensures ∙ ap (λ y. first_sid y.progress.sid y.progress.sid0) c.tx.view_is)
    (c.into_list.ensures.value ∙ c.in_ok-of.ensures)
    (c.in_ok-reads_for.ensures ∙ ap (λ y. filter (holds places c.args.n) (remote_keys [] y.script.ops)) c.tx.view_is)
    (c.in_ok-writes_for.ensures (own_map x.script.ops x.progress.values) c.requires
    ∙ ap
    (λ y. map (λ k. (k, own_map x.script.ops x.progress.values k)) (filter (holds places c.args.n) (written_keys [] y.script.ops)))
    c.tx.view_is)
