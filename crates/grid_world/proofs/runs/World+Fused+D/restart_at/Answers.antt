use Rattle.std.proofs.Common.{◌≡◌, length, Some, refl, ap, subst, arith, slice_get, slice_set}
use Rattle.std.proofs.lemmas.Option.{slice_get_read}
use Rattle.std.proofs.Common.{◌-◌}
use Rattle.grid_hosts.specs.Hosts.{HasRestarted}
use Rattle.grid_world.proofs.NumberRows.{get-inside}
use Rattle.grid_world.proofs.runs.World+Fused+D.restart_at.Goals as goal

pub returns : goal.returns
returns g c =
    let items = c.args.self.now.hosts.items in
    let place = c.place_of-place.result in
    let is = c.place_of-place.ensures.value in
    let least = c.place_of-place.ensures.least in
    let inside = get-inside c.args.self.now.hosts.items (c.args.n - 1) c.requires.host c.requires.at in
    record {
      moved = record {
        before = c.index_mut.result.now;
        at = subst (λ k. slice_get items k ≡ Some c.index_mut.result.now) is
            (slice_get_read items (length items) place c.index_mut.result.now refl (omega (arith, inside, is, least)) c.index_mut.ensures.value);
        now = c.replace_with.new.dest;
        hosts = ap (λ k. slice_set items k c.replace_with.new.dest) is;
        turned = subst (λ k. HasRestarted k c.index_mut.result.now c.replace_with.new.dest c.replace_with.result)
            c.cluster.ensures.value c.replace_with.ensures;
        tally = refl;
        keeps = record { rest = refl; given_up = refl };
      };
      network = refl;
    }
