use Rattle.std.proofs.Common.{◌≡◌, ℕ, List, ◌+◌, ◌<◌, ◌||◌, length, take, ap, ◌∙◌, arith}
use Rattle.std.specs.List.{list_any, slice_index_or}
use Rattle.std.proofs.lemmas.List.{take_all}
use Rattle.std.proofs.lemmas.List.Folds.{list_any_more}
use Rattle.std.proofs.lemmas.Grind.{common_steps}
use Rattle.lock_table.specs.Table.{locks_of, holds_in}
use Rattle.lock_table.proofs.Least.{least_of_both, least_same}
use Rattle.lock_table.proofs.least_on_writes.Goals as goal

pub loop-write-preserved : goal.loop-write-preserved
loop-write-preserved c =
    let ls = locks_of c.args.locks.now.pairs in
    let xs = c.args.writes.now in
    let i = c.loop-write.write-index in
    let within : i < length xs = grind (arith, common_steps) in
    let read : slice_index_or xs i c.write-item.result ≡ c.write-item.result = grind (arith, common_steps) in
    least_of_both (λ u. list_any (λ (w : List ℕ × ℕ). holds_in ls u w.0) (take i xs))
    (λ u. holds_in ls u c.write-item.result.0)
    (λ u. list_any (λ (w : List ℕ × ℕ). holds_in ls u w.0) (take (i + 1) xs))
    c.args.t c.loop-write.least c.least_on_key.result c.lesser-least.result
    (λ u. list_any_more (λ (w : List ℕ × ℕ). holds_in ls u w.0) xs i c.write-item.result within ∙ ap
    (λ x. list_any (λ (w : List ℕ × ℕ). holds_in ls u w.0) (take i xs) ||
    (λ (w : List ℕ × ℕ). holds_in ls u w.0) x) read)
    c.lesser-least.ensures c.loop-write.invariant c.least_on_key.ensures

pub returns : goal.returns
returns c =
    let ls = locks_of c.args.locks.now.pairs in
    let xs = c.args.writes.now in
    let i = c.loop-write.write-index in
    least_same (λ u. list_any (λ (w : List ℕ × ℕ). holds_in ls u w.0) (take i xs))
    (λ u. list_any (λ (w : List ℕ × ℕ). holds_in ls u w.0) xs) c.args.t c.loop-write.least
    (λ u. ap (list_any (λ (w : List ℕ × ℕ). holds_in ls u w.0))
    (take_all i xs (grind (arith, common_steps)))) c.loop-write.invariant
