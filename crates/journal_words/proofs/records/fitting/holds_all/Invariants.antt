use Rattle.std.proofs.Common.{◌≡◌, drop}
use Rattle.std.specs.List.{list_all}
use Rattle.placement.specs.Places.{holds}
use Rattle.journal_words.proofs.records.fitting.holds_all.Given as goal

abbrev pub invariant-loop-key : goal.invariant-loop-key
invariant-loop-key l =
    list_all (holds l.cluster.places l.node) (drop l.key-index l.keys) ≡ list_all (holds l.cluster.places l.node) l.keys
