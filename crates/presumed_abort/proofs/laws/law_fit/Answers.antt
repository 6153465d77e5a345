use Rattle.std.proofs.Common.{◌≡◌, not, ap, sym, ◌∙◌}
use Rattle.grid_model.specs.Fitness.{is_same_ident}
use Rattle.grid_model.specs.Views.{stage}
use Rattle.presumed_abort.specs.Stands.{standing, is_here}
use Rattle.presumed_abort.specs.Replays.{snapshot_of, is_stranger}
use Rattle.presumed_abort.specs.Views.{kept}
use Rattle.presumed_abort.proofs.FitReaders.{part-at, fit-reply, begin-at, not-here}
use Rattle.presumed_abort.proofs.laws.law_fit.Goals as goal

pub returns-clause-part : goal.returns-clause-part
returns-clause-part c = λ v desk t x is.
    part-at v.cluster t x (stage v t) ∙ ap (λ f. not (is_stranger x (f t))) (sym is)

pub returns-clause-reply : goal.returns-clause-reply
returns-clause-reply c = λ v desk q is.
    fit-reply v.cluster q (stage v q.t) ∙ ap (λ f. is_same_ident q.sid (snapshot_of q.op (f q.t))) (sym is)

pub returns-clause-begin : goal.returns-clause-begin
returns-clause-begin c = λ v desk t is.
    begin-at v.cluster t (stage v t) ∙ ap (λ f. not (is_here (f t))) (sym is)

pub returns-clause-free : goal.returns-clause-free
returns-clause-free c = λ v desk t is none.
    let at : standing desk t ≡ kept v.cluster t (stage v t) = ap (λ f. f t) is in
    at ∙ not-here v.cluster t (stage v t) (ap is_here (sym at) ∙ none)
