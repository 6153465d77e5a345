use Rattle.std.proofs.Common.{◌+◌, reverse, arith}
use Rattle.journal_words.proofs.Floors.{above-higher}
use Rattle.grid_store.proofs.store.Store.propose.Goals as goal

pub returns-clause-above : goal.returns-clause-above
returns-clause-above c =
    rw (← c.self.view_is) (above-higher (1 + c.self.inside.clock.next) c.propose.result (reverse c.self.inside.records.items) (omega (arith, c.propose.ensures)) c.self.invariant.numbers.above)
