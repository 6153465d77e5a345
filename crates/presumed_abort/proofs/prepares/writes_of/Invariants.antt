use Rattle.std.proofs.Common.{◌≡◌, ◌++◌, drop, map}
use Rattle.script_lang.specs.Values.{value_in}
use Rattle.presumed_abort.proofs.prepares.writes_of.Given as goal

abbrev pub invariant-loop-key : goal.invariant-loop-key
invariant-loop-key l =
    l.writes ++ map (λ k. (k, value_in l.mine k)) (drop l.key-index l.keys) ≡ map (λ k. (k, value_in l.mine k)) l.keys
