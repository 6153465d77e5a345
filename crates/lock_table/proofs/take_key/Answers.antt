use Rattle.std.proofs.Common.{ap, ◌∙◌}
use Rattle.lock_table.specs.Table.{locks_of, holds_in, writes_in}
use Rattle.lock_table.proofs.Places.{holds_insert, writes_insert}
use Rattle.lock_table.proofs.Taking.{gap_holds, found_holds, held_already, written_already, written_anew}
use Rattle.lock_table.proofs.take_key.Goals as goal

pub returns-in-Err-clause-keys : goal.returns-in-Err-clause-keys
returns-in-Err-clause-keys c u k =
    ap (λ ps. holds_in (locks_of ps) u k) c.insert.ensures.pairs
    ∙ holds_insert c.args.locks.now.pairs c.in-Err.i ((c.args.key.now, c.args.t), c.args.writes) u k

pub returns-in-Err-clause-written : goal.returns-in-Err-clause-written
returns-in-Err-clause-written c u k =
    let ps = c.args.locks.now.pairs in
    ap (λ qs. writes_in (locks_of qs) u k) c.insert.ensures.pairs
    ∙ writes_insert ps c.in-Err.i ((c.args.key.now, c.args.t), c.args.writes) u k
    ∙ written_anew (locks_of ps) c.args.t c.args.key.now c.args.writes u k (gap_holds ps c.in-Err.i c.args.t c.args.key.now c.in-Err.ensures.absent)

pub returns-in_default-clause-keys : goal.returns-in_default-clause-keys
returns-in_default-clause-keys c u k =
    let ps = c.args.locks.now.pairs in
    let found = c.in_default.ensures.found in
    let held = found_holds ps c.in_default.field-0 ((c.args.key.now, c.args.t), c.args.writes) c.args.t c.args.key.now found.0 (found.1 ((c.args.key.now, c.args.t), c.args.writes)) in
    held_already (locks_of ps) c.args.t c.args.key.now u k held

pub returns-in_default-clause-written : goal.returns-in_default-clause-written
returns-in_default-clause-written c u k =
    let ps = c.args.locks.now.pairs in
    let found = c.in_default.ensures.found in
    let held = found_holds ps c.in_default.field-0 ((c.args.key.now, c.args.t), c.args.writes) c.args.t c.args.key.now found.0 (found.1 ((c.args.key.now, c.args.t), c.args.writes)) in
    written_already (locks_of ps) c.args.t c.args.key.now c.args.writes u k held
