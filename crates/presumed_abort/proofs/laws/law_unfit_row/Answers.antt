use Rattle.presumed_abort.proofs.UnfitRows.{unfit-outs, unfit-view, unfit-begin-outs, unfit-begin-view}
use Rattle.presumed_abort.proofs.laws.law_unfit_row.Goals as goal

pub returns-clause-outs : goal.returns-clause-outs
returns-clause-outs c = λ n v x said fit. unfit-outs n v x said fit

pub returns-clause-view : goal.returns-clause-view
returns-clause-view c = λ n v x said fit. unfit-view n v x said fit

pub returns-clause-begin_outs : goal.returns-clause-begin_outs
returns-clause-begin_outs c = λ n v s floor fit. unfit-begin-outs n v s floor fit

pub returns-clause-begin_view : goal.returns-clause-begin_view
returns-clause-begin_view c = λ n v s floor fit. unfit-begin-view n v s floor fit
