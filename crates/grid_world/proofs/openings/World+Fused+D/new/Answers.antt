use Rattle.std.proofs.Common.{ap, arith, ◌∙◌}
use Rattle.grid_world.proofs.StartRows.{disks-same, seated-count}
use Rattle.grid_world.proofs.openings.World+Fused+D.new.Goals as goal

pub seat_all-requires-clause-disks : goal.seat_all-requires-clause-disks
seat_all-requires-clause-disks g c =
    disks-same c.nodes.result c.args.doc.now.cluster.nodes c.args.disks.items
    (c.nodes.ensures.value ∙ ap (λ k. k.nodes) c.cluster.ensures.value) c.requires

pub returns : goal.returns
returns g c =
    let taken = seated-count 1 c.args.disks.items c.seat_all.new.hosts.items c.seat_all.new.disks.items c.in_ok-seat_all.ensures.seated in
    let len = c.len.ensures in
    let room = c.in_ok-reserve.ensures.ok in
    let same = c.args.disks.ok in
    record {
      one = c.cluster.ensures.one;
      disks = c.requires;
      seated = c.in_ok-seat_all.ensures.seated;
      nodes = c.in_ok-seat_all.ensures.count ∙ c.nodes.ensures.value ∙ ap (λ k. k.nodes) c.cluster.ensures.value;
      sent = c.new.ensures;
      tally = c.in_ok-new.ensures;
      room = record { none = c.in_ok-reserve.ensures.items ∙ c.new-given_up.ensures.items; room = omega (arith, taken, len, room, same.0) };
    }
