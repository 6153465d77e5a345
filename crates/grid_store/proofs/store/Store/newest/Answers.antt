use Rattle.std.proofs.Common.{reverse, ap, ◌∙◌}
use Rattle.journal_words.specs.Journals.{newest}
use Rattle.grid_store.specs.Given.{Given}
use Rattle.grid_store.proofs.ChainReads.{chain-newest}
use Rattle.grid_store.proofs.store.Store.newest.Goals as goal

pub returns : goal.returns
returns c =
    let s = c.self.inside in
    let i = c.self.invariant in
    c.newest.ensures.newest
    ∙ chain-newest s.cluster s.node s.stable.commits s.chains (reverse s.records.items) c.args.key.now i.fit i.stable i.versions
    ∙ ap (λ (g : Given). newest g.journal c.args.key.now) c.self.view_is
