use Rattle.std.proofs.Common.{subst}
use Rattle.presumed_abort.specs.declared.stands.Stand.TheVariants as stand
use Rattle.presumed_abort.specs.Typed.{IsAcked}
use Rattle.presumed_abort.proofs.Released.{waits-done}
use Rattle.presumed_abort.proofs.desks.Desk.acked.Goals as goal

pub returns-in-More : goal.returns-in-More
returns-in-More c = λ x desk made there away.
    waits-done x c.args.t (stand.Committed c.in-More.tx) desk c.args.self.now c.put.new.self c.new.result.items
    (subst (IsAcked x) c.in-More.is made) there away c.put.ensures c.new.ensures.items
