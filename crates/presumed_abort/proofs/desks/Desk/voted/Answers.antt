use Rattle.std.proofs.Common.{subst, ap}
use Rattle.presumed_abort.specs.declared.stands.Stand.TheVariants as stand
use Rattle.presumed_abort.specs.Typed.{IsVoted}
use Rattle.presumed_abort.proofs.Released.{waits-done, gone-done}
use Rattle.presumed_abort.proofs.desks.Desk.voted.Goals as goal

pub returns-in-More : goal.returns-in-More
returns-in-More c = λ x desk made there away.
    waits-done x c.args.t (stand.Collecting c.in-More.tx) desk c.args.self.now c.put.new.self c.new.result.items
    (subst (IsVoted x) c.in-More.is made) there away c.put.ensures c.new.ensures.items

pub returns-in-Refused : goal.returns-in-Refused
returns-in-Refused c = λ x desk made there away.
    gone-done x c.args.t desk c.args.self.now c.remove.new.self c.in-Refused.tx.outs.items c.told.result.items
    (subst (IsVoted x) c.in-Refused.is made) there away c.remove.ensures (ap (λ v. v.items) c.told.ensures)
