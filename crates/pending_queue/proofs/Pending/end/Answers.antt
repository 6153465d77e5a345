use Rattle.std.proofs.Common.{◌≡◌, ℕ, ◌&&◌, not, nat_eq, Some, sym, ap, ◌∙◌}
use Rattle.std.specs.Cmp.{nat_cmp_total}
use Rattle.std.specs.FinMap as map
use Rattle.std.specs.List.{slice_index_or}
use Rattle.std.proofs.lemmas.Map.Lookups.{exact_unsigned}
use Rattle.score_base.proofs.TableMaps.{map_found, map_absent, map_remove}
use Rattle.pending_queue.specs.Proposals.{Queue, has}
use Rattle.pending_queue.proofs.Alike.{AreAlike-end, same_without}
use Rattle.pending_queue.proofs.Pending.end.Goals as goal

pub invariant_of-self : goal.invariant_of-self
invariant_of-self c =
    let es = c.self.inside.proposals.pairs in
    let ps = c.self.inside.order.pairs in
    let found = c.in-Ok.ensures.found in
    let p : c.remove-p.result.1 ≡ (slice_index_or es c.in-Ok.i c.remove-p.result).1 = ap (λ (e : ℕ × ℕ). e.1) c.remove-p.ensures.pair in
    let rest : (q : ℕ × ℕ) → has c.drop_proposal.new.order.pairs q ≡ (not (nat_eq q.0 (slice_index_or es c.in-Ok.i c.remove-p.result).1 && nat_eq q.1 c.args.t) && has ps q) =
    λ q. c.drop_proposal.ensures.dropped q ∙ ap (λ r. not (nat_eq q.0 r && nat_eq q.1 c.args.t) && has ps q) p in
    rw c.remove-p.ensures.pairs
    (AreAlike-end es ps c.drop_proposal.new.order.pairs c.in-Ok.i c.args.t c.remove-p.result c.self.invariant c.in-Ok.ensures.rising found.0 (found.1 c.remove-p.result) rest)

pub returns-in-Ok-clause-was : goal.returns-in-Ok-clause-was
returns-in-Ok-clause-was c =
    let found = c.in-Ok.ensures.found in
    ap (λ (e : ℕ × ℕ). Some e.1) c.remove-p.ensures.pair
    ∙ sym (map_found nat_cmp_total map.nat_cmp-IsAntisymmetric c.self.inside.proposals.pairs c.in-Ok.i c.remove-p.result c.args.t c.in-Ok.ensures.rising found.0 (found.1 c.remove-p.result))
    ∙ ap (λ (q : Queue). map.get q.proposals c.args.t) c.self.view_is

pub returns-in-Ok-clause-ended : goal.returns-in-Ok-clause-ended
returns-in-Ok-clause-ended c =
    let es = c.self.inside.proposals.pairs in
    let found = c.in-Ok.ensures.found in
    ap map.from_entries c.remove-p.ensures.pairs
    ∙ map_remove nat_cmp_total map.nat_cmp-IsAntisymmetric es c.in-Ok.i c.remove-p.result c.in-Ok.ensures.rising found.0
    ∙ ap (map.remove (map.from_entries es)) (exact_unsigned _ c.args.t (found.1 c.remove-p.result))
    ∙ ap (λ (q : Queue). map.remove q.proposals c.args.t) c.self.view_is

pub returns-in-Err-clause-was : goal.returns-in-Err-clause-was
returns-in-Err-clause-was c =
    sym (map_absent nat_cmp_total map.nat_cmp-IsAntisymmetric c.self.inside.proposals.pairs c.args.t c.in-Err.field-0 c.in-Err.ensures.absent)
    ∙ ap (λ (q : Queue). map.get q.proposals c.args.t) c.self.view_is

pub returns-in-Err-clause-ended : goal.returns-in-Err-clause-ended
returns-in-Err-clause-ended c = same_without c.args.self.now.proposals c.args.t (sym (returns-in-Err-clause-was c))
