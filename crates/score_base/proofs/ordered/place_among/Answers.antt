use Rattle.std.proofs.Common.{◌≡◌, ◌<◌, ◌-◌, ◌+◌, ◌/◌, length, take, sym, arith}
use Rattle.std.specs.declared.cmp.Ordering.TheVariants.{Less, Greater}
use Rattle.std.proofs.lemmas.List.{length-take-le}
use Rattle.score_base.proofs.TableOrder.{narrow_less, narrow_greater}
use Rattle.score_base.proofs.TableMerge.{compared_at}
use Rattle.score_base.proofs.ordered.place_among.Goals as goal

pub loop-first-preserved-in-Less : goal.loop-first-preserved-in-Less
loop-first-preserved-in-Less g c =
    let n = c.loop-first in
    let xs = c.args.items.now in
    let o = g.met.K.Ord.total in
    let size : length (take c.args.low xs) ≡ c.args.low = length-take-le c.args.low xs c.requires.within in
    let mid : n.first + (n.last - n.first) / 2 < n.last = omega (arith, c.loop-first-test.true) in
    let few : n.first + (n.last - n.first) / 2 < c.args.low = omega (arith, mid, size, n.invariant.narrows.within) in
    record {
      narrows = narrow_less o (take c.args.low xs) c.args.key.now n.first n.last _ c.requires.rising n.invariant.narrows mid
          (compared_at o xs c.args.low _ c.index-items-mid.result c.args.key.now Less few c.requires.within (sym c.in-Less.ensures));
    }

pub loop-first-preserved : goal.loop-first-preserved
loop-first-preserved g c =
    let n = c.loop-first in
    let xs = c.args.items.now in
    let o = g.met.K.Ord.total in
    let size : length (take c.args.low xs) ≡ c.args.low = length-take-le c.args.low xs c.requires.within in
    let mid : n.first + (n.last - n.first) / 2 < n.last = omega (arith, c.loop-first-test.true) in
    let few : n.first + (n.last - n.first) / 2 < c.args.low = omega (arith, mid, size, n.invariant.narrows.within) in
    record {
      narrows = narrow_greater o (take c.args.low xs) c.args.key.now n.first n.last _ c.requires.rising n.invariant.narrows (omega arith) mid
          (compared_at o xs c.args.low _ c.index-items-mid.result c.args.key.now Greater few c.requires.within (sym c.in-Greater.ensures));
    }
