use Rattle.std.proofs.Common.{◌≡◌, ℕ, List, ◌+◌, ◌<◌, ◌||◌, length, take, ap, ◌∙◌, arith}
use Rattle.std.specs.List.{list_any, slice_index_or}
use Rattle.std.proofs.lemmas.List.{take_all}
use Rattle.std.proofs.lemmas.List.Folds.{list_any_more}
use Rattle.std.proofs.lemmas.Grind.{common_steps}
use Rattle.lock_table.specs.Table.{locks_of, writes_in}
use Rattle.lock_table.proofs.Least.{least_of_both, least_same}
use Rattle.lock_table.proofs.least_on_reads.Goals as goal

pub loop-key-preserved : goal.loop-key-preserved
loop-key-preserved c =
    let ls = locks_of c.args.locks.now.pairs in
    let xs = c.args.reads.now in
    let i = c.loop-key.key-index in
    let within : i < length xs = grind (arith, common_steps) in
    let read : slice_index_or xs i c.key-item.result ≡ c.key-item.result = grind (arith, common_steps) in
    least_of_both (λ u. list_any (λ (k : List ℕ). writes_in ls u k) (take i xs))
    (λ u. writes_in ls u c.key-item.result) (λ u. list_any (λ (k : List ℕ). writes_in ls u k) (take (i + 1) xs))
    c.args.t c.loop-key.least c.least_on_key.result c.lesser-least.result
    (λ u. list_any_more (λ (k : List ℕ). writes_in ls u k) xs i c.key-item.result within ∙ ap
    (λ x. list_any (λ (k : List ℕ). writes_in ls u k) (take i xs) || (λ (k : List ℕ). writes_in ls u k) x) read)
    c.lesser-least.ensures c.loop-key.invariant c.least_on_key.ensures

pub returns : goal.returns
returns c =
    let ls = locks_of c.args.locks.now.pairs in
    let xs = c.args.reads.now in
    let i = c.loop-key.key-index in
    least_same (λ u. list_any (λ (k : List ℕ). writes_in ls u k) (take i xs))
    (λ u. list_any (λ (k : List ℕ). writes_in ls u k) xs) c.args.t c.loop-key.least
    (λ u. ap (list_any (λ (k : List ℕ). writes_in ls u k))
    (take_all i xs (grind (arith, common_steps)))) c.loop-key.invariant
