use Rattle.std.proofs.Common.{◌≡◌, ◌+◌, ◌-◌, slice_index_or, arith, subst, sym, ap, ◌∙◌}
use Rattle.std.specs.Ordering.{nat_cmp}
use Rattle.std.proofs.lemmas.Grind.{common_steps}
use Rattle.score_base.specs.Tables.{IsGap}
use Rattle.version_chain.specs.Versions.{Versions, RisesFrom}
use Rattle.version_chain.proofs.Places.{seen_found, seen_before, seen_initial}
use Rattle.version_chain.proofs.Chain.seen.Goals as goal

pub returns-in-Ok : goal.returns-in-Ok
returns-in-Ok c =
    let vs = c.args.self.now.versions in
    let up = subst (λ (s : Versions). RisesFrom 0 s.versions) c.self.view_is c.self.invariant in
    let found = rw c.in-Ok.is at c.requires.found in
    c.pair.ensures ∙ ap (λ (s : Versions). slice_index_or s.versions c.in-Ok.i c.pair.result) c.self.view_is
    ∙ sym (seen_found c.args.self.now.initial vs c.args.sid c.in-Ok.i c.pair.result up found.0 (found.1 c.pair.result))

pub returns-in-Err-eq0 : goal.returns-in-Err-eq0
returns-in-Err-eq0 c =
    let vs = c.args.self.now.versions in
    let up = subst (λ (s : Versions). RisesFrom 0 s.versions) c.self.view_is c.self.invariant in
    let none : c.in-Err-eq0.field-0 ≡ 0 = grind (arith, common_steps, c.in-Err-eq0.field-0-test) in
    let gap = subst (IsGap nat_cmp vs c.args.sid) none (rw c.in-Err-eq0.is at c.requires.absent) in
    ap (λ (s : Versions). (0, s.initial)) c.self.view_is ∙ sym (seen_initial c.args.self.now.initial vs c.args.sid up gap)

pub returns-in-Err : goal.returns-in-Err
returns-in-Err c =
    let vs = c.args.self.now.versions in
    let up = subst (λ (s : Versions). RisesFrom 0 s.versions) c.self.view_is c.self.invariant in
    let some : c.in-Err.i ≡ c.in-Err.i - 1 + 1 = grind (arith, common_steps, c.in-Err.i-test) in
    let gap = subst (IsGap nat_cmp vs c.args.sid) some (rw c.in-Err.is at c.requires.absent) in
    c.pair-in-Err.ensures ∙ ap (λ (s : Versions). slice_index_or s.versions (c.in-Err.i - 1) c.pair-in-Err.result) c.self.view_is
    ∙ sym (seen_before c.args.self.now.initial vs c.args.sid (c.in-Err.i - 1) c.pair-in-Err.result up gap)
