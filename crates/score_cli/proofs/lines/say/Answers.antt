use Rattle.std.proofs.Common.{ℕ, List, Result, Ok, Err, OnOk, OnErr}
use Rattle.std.specs.declared.option.Option.{Option}
use Rattle.std.specs.Io.KnownBytes.{Appends}
use Rattle.score_base.specs.Faults.{Rose}
use Rattle.score_io.specs.Streams.{AppendsPart}
use Rattle.score_cli.specs.Answers.{Wrote, whole, part}
use Rattle.score_cli.proofs.lines.say.Goals as goal

wrote_from : {T E : Type 0} (a b : Option (List ℕ)) (m n : ℕ) (bs : List ℕ) (r : Result T E) → OnOk r (Appends a b bs)
    → OnErr r (AppendsPart a b bs) → OnErr r (Rose m n) → Wrote a b m n bs
wrote_from a b m n bs (Ok x) p q f = whole p
wrote_from a b m n bs (Err e) p q f = part q f

pub returns-clause-wrote : goal.returns-clause-wrote
returns-clause-wrote g c = wrote_from _ _ _ _ _ c.write_all.result c.write_all.ensures.all c.write_all.ensures.part c.write_all.ensures.fault
