use Rattle.std.proofs.Common.{◌≡◌, nat_eq}
use Rattle.indexmap.specs.IndexMap.{insert_entry}
use Rattle.presumed_abort.specs.declared.stands.Stand.TheVariants as stand
use Rattle.presumed_abort.specs.Stands.{standing}
use Rattle.presumed_abort.proofs.Inserts.{inserted-same}
use Rattle.presumed_abort.proofs.Places.{in-place}
use Rattle.presumed_abort.proofs.desks.Desk.take.Goals as goal

pub returns-clause-away : goal.returns-clause-away
returns-clause-away c =
    let desk = c.self.inside.stands.entries in
    let is : (desk ≡ c.args.self.now) = c.self.view_is in
    let done : (c.insert.new.self.entries ≡ insert_entry nat_eq desk c.args.t stand.Away) =
    in-place _ (standing desk c.args.t) c.insert.result c.insert.ensures.entries c.insert.ensures.absent
    (rw is c.requires) in
    rw (← is) done

pub returns-clause-place : goal.returns-clause-place
returns-clause-place c =
    let desk = c.self.inside.stands.entries in
    let is : (desk ≡ c.args.self.now) = c.self.view_is in
    let done : (c.insert.new.self.entries ≡ insert_entry nat_eq desk c.args.t stand.Away) =
    in-place _ (standing desk c.args.t) c.insert.result c.insert.ensures.entries c.insert.ensures.absent
    (rw is c.requires) in
    rw done (inserted-same c.args.t stand.Away desk)
