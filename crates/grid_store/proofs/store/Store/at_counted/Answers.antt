use Rattle.std.proofs.Common.{length, reverse, ap, ◌∙◌}
use Rattle.placement.specs.Clusters.{init}
use Rattle.version_chain.specs.Versions.{version_in_chain}
use Rattle.version_chain.specs.Kept.{versions_of}
use Rattle.grid_store.proofs.ChainReads.{chain-reads}
use Rattle.grid_store.proofs.ChainCounts.{chain-count, keys-count, lookups-more}
use Rattle.grid_store.proofs.store.Store.at_counted.Goals as goal

pub returns-clause-version : goal.returns-clause-version
returns-clause-version g c =
    let s = c.self.inside in
    let k = c.args.key.now in
    let i = c.self.invariant in
    let start = ap (λ v. version_in_chain v (versions_of k s.chains) c.args.sid) (i.start k) in
    rw (← c.self.view_is) (c.at_counted.ensures.version ∙ rw c.init.ensures start
    ∙ chain-reads s.cluster s.node s.stable.commits s.chains (reverse s.records.items) k (init s.cluster k) c.args.sid i.fit i.stable i.versions c.at_counted.ensures.rising)

pub returns-clause-cost : goal.returns-clause-cost
returns-clause-cost g c =
    let s = c.self.inside in
    let k = c.args.key.now in
    let i = c.self.invariant in
    rw (← c.self.view_is) (lookups-more (length s.chains.places) _ (length (versions_of k s.chains)) _ _
    (keys-count s.chains.places (reverse s.records.items) c.at_counted.ensures.keys i.keys)
    (chain-count s.cluster s.node s.stable.commits s.chains (reverse s.records.items) k i.stable i.versions c.at_counted.ensures.rising) c.at_counted.ensures.cost)
