use Rattle.std.proofs.Common.{◌+◌, reverse, arith}
use Rattle.journal_words.proofs.Floors.{above-higher}
use Rattle.grid_store.proofs.store.Store.raise.Goals as goal

pub invariant_of-self : goal.invariant_of-self
invariant_of-self c =
    let i = c.self.invariant in
    let s = c.self.inside in
    record {
      fit = i.fit;
      placed = i.placed;
      over = i.over;
      undone = i.undone;
      queue = i.queue;
      numbers = record {
        floor = rw c.raise.ensures.floor i.numbers.floor;
        above = above-higher (1 + s.clock.next) (1 + c.raise.new.self.next) (reverse s.records.items) (omega (arith, c.raise.ensures.next)) i.numbers.above;
      };
      high = i.high;
      stable = i.stable;
      applied = i.applied;
      locks = i.locks;
      versions = i.versions;
      open' = i.open';
      keys = i.keys;
      start = i.start;
    }
