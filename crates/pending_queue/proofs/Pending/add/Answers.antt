use Rattle.std.proofs.Common.{◌≡◌, None, sym, ap, ◌∙◌}
use Rattle.std.specs.Ordering.{nat_cmp}
use Rattle.std.specs.Cmp.{nat_cmp_total}
use Rattle.std.specs.FinMap as map
use Rattle.score_base.proofs.TableMaps.{map_insert}
use Rattle.pending_queue.specs.Proposals.{Queue}
use Rattle.pending_queue.proofs.Alike.{absent_too, AreAlike-add}
use Rattle.pending_queue.proofs.Pending.add.Goals as goal

pub place_of_new-i-requires : goal.place_of_new-i-requires
place_of_new-i-requires c =
    sym (map.get-from_entries nat_cmp_total c.self.inside.proposals.pairs c.args.t)
    ∙ ap (λ (q : Queue). map.get q.proposals c.args.t) c.self.view_is ∙ c.requires.absent

pub place_of_new-j-requires : goal.place_of_new-j-requires
place_of_new-j-requires c =
    let none : map.find nat_cmp c.args.t c.self.inside.proposals.pairs ≡ None =
    sym (map.get-from_entries nat_cmp_total c.self.inside.proposals.pairs c.args.t)
    ∙ ap (λ (q : Queue). map.get q.proposals c.args.t) c.self.view_is ∙ c.requires.absent in
    absent_too c.self.inside.proposals.pairs c.self.inside.order.pairs c.args.t c.args.p c.self.invariant none

pub invariant_of-self : goal.invariant_of-self
invariant_of-self c =
    rw (c.insert.ensures.pairs, c.insert-2.ensures.pairs)
    (AreAlike-add c.self.inside.proposals.pairs c.self.inside.order.pairs c.place_of_new-i.result c.place_of_new-j.result c.args.t c.args.p c.self.invariant c.place_of_new-i.ensures c.place_of_new-j.ensures)

pub returns-clause-added : goal.returns-clause-added
returns-clause-added c =
    ap map.from_entries c.insert.ensures.pairs
    ∙ map_insert nat_cmp_total map.nat_cmp-IsAntisymmetric c.self.inside.proposals.pairs c.place_of_new-i.result c.args.t c.args.p c.place_of_new-i.ensures
    ∙ ap (λ (q : Queue). map.insert q.proposals c.args.t c.args.p) c.self.view_is
