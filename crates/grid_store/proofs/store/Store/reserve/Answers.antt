use Rattle.std.proofs.Common.{reverse}
use Rattle.placement.specs.Clusters.{init}
use Rattle.grid_store.proofs.ChainSteps.{chains-same, places-same}
use Rattle.grid_store.proofs.store.Store.reserve.Goals as goal

pub invariant_of-self-2 : goal.invariant_of-self-2
invariant_of-self-2 c =
    let i = c.self.invariant in
    let s = c.self.inside in
    let w = c.widen.ensures.wider in
    let r = reverse s.records.items in
    rw (c.reserve.ensures.items, c.reserve-2.ensures.pairs, c.reserve-3.ensures.pairs, c.reserve-4.ensures.pairs, c.reserve-5.ensures.proposals, c.reserve-6.ensures.commits) (record {
      fit = i.fit;
      placed = i.placed;
      over = i.over;
      undone = i.undone;
      queue = i.queue;
      numbers = i.numbers;
      high = i.high;
      stable = i.stable;
      applied = i.applied;
      locks = record { keys = λ u k. rw c.make_room.ensures.keys (i.locks.keys u k); written = λ u k. rw c.make_room.ensures.written (i.locks.written u k) };
      versions = chains-same s.stable.commits s.chains c.widen.new.chains r w.versions i.versions;
      open' = places-same s.stable.commits s.chains c.widen.new.chains r w.versions w.room i.open';
      keys = rw c.widen.ensures.places i.keys;
      start = c.widen.ensures.initial (init s.cluster) i.start;
    })

pub invariant_of-self-in_err-widen : goal.invariant_of-self-in_err-widen
invariant_of-self-in_err-widen c =
    let i = c.self.invariant in
    let s = c.self.inside in
    let w = c.widen.ensures.wider in
    let r = reverse s.records.items in
    rw (c.reserve.ensures.items, c.reserve-2.ensures.pairs, c.reserve-3.ensures.pairs, c.reserve-4.ensures.pairs, c.reserve-5.ensures.proposals, c.reserve-6.ensures.commits) (record {
      fit = i.fit;
      placed = i.placed;
      over = i.over;
      undone = i.undone;
      queue = i.queue;
      numbers = i.numbers;
      high = i.high;
      stable = i.stable;
      applied = i.applied;
      locks = i.locks;
      versions = chains-same s.stable.commits s.chains c.widen.new.chains r w.versions i.versions;
      open' = places-same s.stable.commits s.chains c.widen.new.chains r w.versions w.room i.open';
      keys = rw c.widen.ensures.places i.keys;
      start = c.widen.ensures.initial (init s.cluster) i.start;
    })
