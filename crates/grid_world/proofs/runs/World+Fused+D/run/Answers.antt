use Rattle.std.proofs.Common.{refl, ap, slice_set}
use Rattle.grid_world.proofs.NumberRows.{got, run-numbers}
use Rattle.grid_world.proofs.Results.{ok-map}
use Rattle.grid_world.proofs.runs.World+Fused+D.run.Goals as goal

pub ended-requires : goal.ended-requires
ended-requires g c =
    run-numbers c.args.doc.now c.args.n c.args.event c.args.self.now c.index_mut.result.now c.replace_with-ran.new.dest
    c.replace_with-ran.result c.requires.can c.requires.plain
    (got c.args.self.now.hosts.items c.args.n c.place_of-place.result c.requires.can.host c.index_mut.result.now
    c.place_of-place.ensures.value c.requires.can.at c.index_mut.ensures.value)
    c.replace_with-ran.ensures

pub returns : goal.returns
returns g c =
    ok-map c.ended.result (λ acts told. record {
      ran = c.replace_with-ran.result;
      moved = record {
        before = c.index_mut.result.now;
        at = got c.args.self.now.hosts.items c.args.n c.place_of-place.result c.requires.can.host c.index_mut.result.now
            c.place_of-place.ensures.value c.requires.can.at c.index_mut.ensures.value;
        now = c.replace_with-ran.new.dest;
        hosts = ap (λ k. slice_set c.args.self.now.hosts.items k c.replace_with-ran.new.dest) c.place_of-place.ensures.value;
        turned = c.replace_with-ran.ensures;
        tally = refl;
        keeps = record { rest = refl; given_up = refl };
      };
      told = told;
    }) c.ended.ensures
