use Rattle.std.proofs.Common.{◌≡◌, length, Some, refl, ap, subst, arith, slice_get, slice_set}
use Rattle.std.proofs.lemmas.Option.{slice_get_read}
use Rattle.grid_world.proofs.runs.World+Fused+D.arm_at.Goals as goal

pub returns-clause-moved : goal.returns-clause-moved
returns-clause-moved g c =
    let items = c.args.self.now.hosts.items in
    let place = c.place_of-place.result in
    let is = c.place_of-place.ensures.value in
    let least = c.place_of-place.ensures.least in
    let inside = c.requires.host in
    record {
      moved = record {
        before = c.index_mut.result.now;
        at = subst (λ k. slice_get items k ≡ Some c.index_mut.result.now) is
            (slice_get_read items (length items) place c.index_mut.result.now refl (omega (arith, inside, is, least)) c.index_mut.ensures.value);
        now = c.replace_with.new.dest;
        hosts = ap (λ k. slice_set items k c.replace_with.new.dest) is;
        turned = record { id = c.replace_with.ensures.id; how_is = c.replace_with.ensures.how_is; place = c.replace_with.ensures.place };
        tally = refl;
        keeps = record { rest = refl; given_up = refl };
      };
      network = refl;
    }
