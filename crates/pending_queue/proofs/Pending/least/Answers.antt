use Rattle.std.proofs.Common.{◌≡◌, ℕ, ◌<◌, refl, subst, sym, length, arith}
use Rattle.std.specs.FinMap as map
use Rattle.std.proofs.lemmas.Grind.{common_steps}
use Rattle.pending_queue.specs.Proposals.{IsLeast}
use Rattle.pending_queue.proofs.Alike.{first_is_least, nothing_pending, not_empty}
use Rattle.pending_queue.proofs.Pending.least.Goals as goal

pub returns-in-0-clause-none : goal.returns-in-0-clause-none
returns-in-0-clause-none c =
    let none : length c.self.inside.order.pairs ≡ 0 = grind (arith, common_steps, c.len.ensures.value, c.in-0.is) in
    rw (← c.self.view_is) (λ _. nothing_pending c.self.inside.proposals.pairs c.self.inside.order.pairs c.self.invariant none, λ _. refl)

pub returns-in_default-clause-least : goal.returns-in_default-clause-least
returns-in_default-clause-least c =
    let es = c.self.inside.proposals.pairs in
    let ps = c.self.inside.order.pairs in
    let some : 0 < length ps = grind (arith, common_steps, c.len.ensures.value, c.in_default) in
    let least = first_is_least es ps c.pair.result c.self.invariant c.len.ensures.rising some in
    rw (← c.self.view_is) (subst (λ (p : (ℕ × ℕ) × Unit {0}). IsLeast (map.from_entries es) p.0.0) (sym c.pair.ensures) least)

pub returns-in_default-clause-none : goal.returns-in_default-clause-none
returns-in_default-clause-none c = (λ bad. cc, λ empty. absurd (not_empty _ _ (returns-in_default-clause-least c) empty))
