use Rattle.std.proofs.Common.{◌≡◌, ℕ, ◌<◌, false, true, refl, sym, ap, subst, ◌∙◌, length, arith}
use Rattle.std.specs.FinSet as set
use Rattle.std.proofs.lemmas.Grind.{common_steps}
use Rattle.stable_queue.specs.Commits.{Queue, commits_of, is_below, IsLeastBelow}
use Rattle.stable_queue.proofs.Members.{no_commits, none_below, least_below, remove_commit}
use Rattle.stable_queue.proofs.Stable.pop_below.Goals as goal

pub returns-then-len-eq0-clause-none : goal.returns-then-len-eq0-clause-none
returns-then-len-eq0-clause-none c =
    let none : length c.self.inside.commits.pairs ≡ 0 = grind (arith, common_steps, c.if-len-eq0.true, c.len.ensures.value) in
    rw (← c.self.view_is) (λ _ m among below. no_commits c.self.inside.commits.pairs none m among, λ _. refl)

pub returns-then-not-is_below-clause-none : goal.returns-then-not-is_below-clause-none
returns-then-not-is_below-clause-none c =
    let ps = c.self.inside.commits.pairs in
    let some : 0 < length ps = grind (arith, common_steps, c.if-len-eq0.false, c.len.ensures.value) in
    let past : is_below c.args.limit c.pair.result.0.0 ≡ false = grind (arith, common_steps, c.if-not-is_below.true, c.is_below.ensures) in
    let first = ap (λ (p : (ℕ × ℕ) × Unit {0}). is_below c.args.limit p.0.0) (sym c.pair.ensures) ∙ past in
    rw (← c.self.view_is) (λ _ m among. none_below ps c.args.limit c.pair.result c.len.ensures.rising some first m among, λ _. refl)

pub returns-clause-least : goal.returns-clause-least
returns-clause-least c =
    let ps = c.self.inside.commits.pairs in
    let some : 0 < length ps = grind (arith, common_steps, c.if-len-eq0.false, c.len.ensures.value) in
    let below : is_below c.args.limit c.pair.result.0.0 ≡ true = grind (arith, common_steps, c.if-not-is_below.false, c.is_below.ensures) in
    let first = ap (λ (p : (ℕ × ℕ) × Unit {0}). is_below c.args.limit p.0.0) (sym c.pair.ensures) ∙ below in
    let least = least_below ps c.args.limit c.pair.result c.len.ensures.rising some first in
    rw (← c.self.view_is) (subst (λ (p : (ℕ × ℕ) × Unit {0}). IsLeastBelow (commits_of ps) c.args.limit p.0) (sym c.pair.ensures) least)

pub returns-clause-none : goal.returns-clause-none
returns-clause-none c =
    let least = returns-clause-least c in
    (λ bad. cc, λ all. absurd (all c.pair.result.0 least.member least.below))

pub returns-clause-rest : goal.returns-clause-rest
returns-clause-rest c =
    let ps = c.self.inside.commits.pairs in
    let some : 0 < length ps = grind (arith, common_steps, c.if-len-eq0.false, c.len.ensures.value) in
    ap commits_of c.remove.ensures.pairs ∙ remove_commit ps 0 c.pair.result c.len.ensures.rising some
    ∙ ap (λ (p : (ℕ × ℕ) × Unit {0}). set.remove (commits_of ps) p.0) (sym c.pair.ensures)
    ∙ ap (λ (q : Queue). set.remove q.commits c.pair.result.0) c.self.view_is
