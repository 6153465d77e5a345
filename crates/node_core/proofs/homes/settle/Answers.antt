use Rattle.std.proofs.Common.{◌∷◌, Some, sym, ap, subst, ◌∙◌}
use Rattle.score_base.specs.declared.records.Record.{Record}
use Rattle.journal_words.specs.Journals.{learnt}
use Rattle.node_core.specs.Owning.{IsOwn}
use Rattle.node_core.proofs.homes.settle.Goals as goal

pub joined-requires : goal.joined-requires
joined-requires g c =
    let s = c.args.store in
    let kept = c.release-outs.ensures.rec ∙ c.in-Ok.ensures.kept in
    subst (IsOwn _ c.args.waiting.reads) (sym c.release-outs.ensures.desk)
    (c.requires.own _ (record {
      node = c.admit.ensures.node;
      cluster = c.admit.ensures.cluster;
      journal = c.admit.ensures.journal ∙ ap (λ (r : Record). r ∷ s.journal) kept;
      next = c.admit.ensures.next ∙ ap (λ (r : Record). learnt (Some r) s.next) kept;
    }))
