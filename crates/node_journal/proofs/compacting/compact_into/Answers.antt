use Rattle.std.proofs.Common.{◌-◌, IsTrue, subst, sym, inl, inr, arith}
use Rattle.score_disk.specs.Files.{File}
use Rattle.node_journal.specs.Log.{generation}
use Rattle.node_journal.proofs.Generations.{stale_weaker}
use Rattle.node_journal.proofs.Spending.{either_more, left_after}
use Rattle.node_journal.proofs.compacting.compact_into.Goals as goal

pub returns-in-Err-write_cleared-clause-early : goal.returns-in-Err-write_cleared-clause-early
returns-in-Err-write_cleared-clause-early g c = λ t k left low.
    let gen = generation (g.D.Disk.file c.args.other.now).seen in
    let now : File = g.D.Disk.file c.write_cleared.new.other in
    stale_weaker now gen (elim c.in-Ok.ensures.spends [
      | inl s ↦ c.in-Err-write_cleared.ensures.early (subst IsTrue (sym s.ok.tells) t) (k - 2)
          (left_after g.D.Disk 2 k c.args.other.now c.clear.new.other s.ok left) (omega (arith, low))
      | inr s ↦ c.in-Err-write_cleared.ensures.early (subst IsTrue (sym s.ok.tells) t) (k - 4)
          (left_after g.D.Disk 4 k c.args.other.now c.clear.new.other s.ok left) (omega (arith, low))
    ])

pub returns-in-Err-write_cleared-clause-spends : goal.returns-in-Err-write_cleared-clause-spends
returns-in-Err-write_cleared-clause-spends g c =
    either_more g.D.Disk c.args.other.now c.clear.new.other c.write_cleared.new.other 2 4 4 _
    (elim c.in-Ok.ensures.spends [ inl s ↦ inl s.ok | inr s ↦ inr s.ok ]) c.in-Err-write_cleared.ensures.spends
