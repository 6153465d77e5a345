use Rattle.std.proofs.Common.{◌≡◌, ap, ◌∙◌}
use Rattle.std.specs.Ordering.{nat_cmp}
use Rattle.std.specs.Cmp.{nat_cmp_total}
use Rattle.std.specs.FinMap.{get, insert, empty, get-empty, get-insert}
use Rattle.pending_queue.specs.Proposals.{Proposals}
use Rattle.pending_queue.proofs.tests.least_of_three.Goals as goal

pub add-requires-clause-absent : goal.add-requires-clause-absent
add-requires-clause-absent g c = ap (λ (m : Proposals). get m 7) (c.reserve.ensures.proposals ∙ c.new-pending.ensures) ∙ get-empty nat_cmp 7

pub add-requires-2-clause-absent : goal.add-requires-2-clause-absent
add-requires-2-clause-absent g c =
    let start : c.reserve.new.self.proposals ≡ empty = c.reserve.ensures.proposals ∙ c.new-pending.ensures in
    ap (λ (m : Proposals). get m 3) (c.add.ensures.added ∙ ap (λ (m : Proposals). insert m 7 9) start) ∙ get-insert nat_cmp_total empty 7 9 3 ∙ get-empty nat_cmp 3

pub add-requires-3-clause-absent : goal.add-requires-3-clause-absent
add-requires-3-clause-absent g c =
    let start : c.reserve.new.self.proposals ≡ empty = c.reserve.ensures.proposals ∙ c.new-pending.ensures in
    let one : c.add.new.self.proposals ≡ insert empty 7 9 = c.add.ensures.added ∙ ap (λ (m : Proposals). insert m 7 9) start in
    ap (λ (m : Proposals). get m 5) (c.add-2.ensures.added ∙ ap (λ (m : Proposals). insert m 3 4) one)
    ∙ get-insert nat_cmp_total (insert empty 7 9) 3 4 5 ∙ get-insert nat_cmp_total empty 7 9 5 ∙ get-empty nat_cmp 5
