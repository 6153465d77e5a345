use Rattle.grid_store.proofs.PlaceSteps.{places-prepared}
use Rattle.grid_store.proofs.places.place.Goals as goal

pub returns-in-Prepared : goal.returns-in-Prepared
returns-in-Prepared c rs last k =
    let x = c.in-Prepared in
    let can = rw x.is at c.requires in
    rw x.is (places-prepared _ _ rs c.args.at x.t x.home x.parts x.sid x.p x.reads x.writes last can.0 c.give.ensures.pairs k)
