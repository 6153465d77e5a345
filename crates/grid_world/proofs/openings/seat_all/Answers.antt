use Rattle.std.proofs.Common.{◌≡◌, ◌+◌, ◌∷◌, [], sym, subst, ap, length, arith, ◌∙◌}
use Rattle.std.proofs.lemmas.List.{length-append}
use Rattle.grid_hosts.specs.Hosts.{IsNew}
use Rattle.grid_world.specs.Starts.{AreSeated, none}
use Rattle.grid_world.proofs.StartRows.{disks-count, seated-count, seated-more}
use Rattle.grid_world.proofs.openings.seat_all.Goals as goal

pub loop-i-init : goal.loop-i-init
loop-i-init g c =
    record { seated = subst (λ xs. AreSeated 1 c.args.disks.now.items xs c.args.disks.now.items) (sym c.requires.none) (none 1 c.args.disks.now.items); count = ap length c.requires.none }

pub take_two-first-requires : goal.take_two-first-requires
take_two-first-requires g c =
    let all = disks-count c.args.nodes c.args.disks.now.items c.requires.disks in
    let taken = seated-count 1 c.args.disks.now.items c.loop-i.hosts.items c.loop-i.disks.items c.loop-i.invariant.seated in
    let count = c.loop-i.invariant.count in
    let most = c.loop-i-test.true in
    omega (arith, all, taken, count, most)

pub loop-i-preserved : goal.loop-i-preserved
loop-i-preserved g c =
    let first = c.take_two-first.result.0 in
    let second = c.take_two-first.result.1 in
    let rest = c.take_two-first.new.disks.items in
    let count = c.loop-i.invariant.count in
    let number : c.loop-i.i + 1 ≡ 1 + length c.loop-i.hosts.items = omega (arith, count) in
    let long = ap length c.in_ok-push.ensures.ok ∙ length-append c.loop-i.hosts.items (c.new.result ∷ []) in
    record {
      seated = subst (λ xs. AreSeated 1 c.args.disks.now.items xs rest) (sym c.in_ok-push.ensures.ok)
          (seated-more first second rest 1 c.args.disks.now.items c.loop-i.hosts.items c.new.result
          (subst (AreSeated 1 c.args.disks.now.items c.loop-i.hosts.items) c.take_two-first.ensures c.loop-i.invariant.seated)
          (subst (λ k. IsNew k first second c.new.result) number c.new.ensures));
      count = omega (arith, long, count);
    }
