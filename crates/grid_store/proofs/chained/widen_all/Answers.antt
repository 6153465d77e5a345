use Rattle.std.proofs.Common.{◌≡◌, ap, arith}
use Rattle.version_chain.specs.Kept.{spare_in, spare_of}
use Rattle.grid_store.specs.Chained.{versions_room}
use Rattle.grid_store.proofs.ChainRooms.{on-ok, writes-room, new-few, place-room-alike}
use Rattle.grid_store.proofs.chained.widen_all.Goals as goal

pub returns-clause-room : goal.returns-clause-room
returns-clause-room c =
    let mid = c.lengthen_all.new.chains in
    let new = c.widen.new.self in
    on-ok c.widen.result (λ h. writes-room c.args.writes.now new (λ k v w.
    (let same : spare_of k new ≡ spare_of k mid = ap spare_in (c.widen.ensures.chains k) in
    place-room-alike k mid new c.widen.ensures.places (omega (arith, same)) (c.in_ok-lengthen_all.ensures.room k v w))))
    c.widen.ensures.room

pub returns-clause-fresh : goal.returns-clause-fresh
returns-clause-fresh c =
    let new = c.widen.new.self in
    on-ok c.widen.result (λ h. (let few = new-few c.args.writes.now (versions_room new) in omega (arith, few, h)))
    c.widen.ensures.room
