use Rattle.std.proofs.Common.{ℕ, Some, sym, ap, ◌∙◌}
use Rattle.std.specs.Cmp.{nat_cmp_total}
use Rattle.std.specs.FinMap as map
use Rattle.score_base.proofs.TableMaps.{map_found, map_absent}
use Rattle.pending_queue.specs.Proposals.{Queue}
use Rattle.pending_queue.proofs.Pending.proposal.Goals as goal

pub returns-in-Ok : goal.returns-in-Ok
returns-in-Ok c =
    let found = c.in-Ok.ensures.found in
    ap (λ (e : ℕ × ℕ). Some e.1) c.pair.ensures
    ∙ sym (map_found nat_cmp_total map.nat_cmp-IsAntisymmetric c.self.inside.proposals.pairs c.in-Ok.i c.pair.result c.args.t c.in-Ok.ensures.rising found.0 (found.1 c.pair.result))
    ∙ ap (λ (q : Queue). map.get q.proposals c.args.t) c.self.view_is

pub returns-in-Err : goal.returns-in-Err
returns-in-Err c =
    sym (map_absent nat_cmp_total map.nat_cmp-IsAntisymmetric c.self.inside.proposals.pairs c.args.t c.in-Err.field-0 c.in-Err.ensures.absent)
    ∙ ap (λ (q : Queue). map.get q.proposals c.args.t) c.self.view_is
