use Rattle.std.proofs.Common.{◌≡◌, drop}
use Rattle.journal_words.specs.Journals.{newer}
use Rattle.grid_store.proofs.store.Store.newer.Given as goal

abbrev pub invariant-loop-key : goal.invariant-loop-key
invariant-loop-key l = newer l.self.journal (drop l.key-index l.reads) l.sid ≡ newer l.self.journal l.reads l.sid
