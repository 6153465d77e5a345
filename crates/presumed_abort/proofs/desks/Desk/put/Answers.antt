use Rattle.std.proofs.Common.{◌≡◌, nat_eq}
use Rattle.indexmap.specs.IndexMap.{insert_entry}
use Rattle.presumed_abort.specs.Stands.{standing}
use Rattle.presumed_abort.proofs.Places.{in-place}
use Rattle.presumed_abort.proofs.desks.Desk.put.Goals as goal

pub returns : goal.returns
returns c =
    let desk = c.self.inside.stands.entries in
    let is : (desk ≡ c.args.self.now) = c.self.view_is in
    let done : (c.insert.new.self.entries ≡ insert_entry nat_eq desk c.args.t c.args.stand) =
    in-place _ (standing desk c.args.t) c.insert.result c.insert.ensures.entries c.insert.ensures.absent
    (rw is c.requires) in
    rw (← is) done
