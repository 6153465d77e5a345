use Rattle.std.proofs.Common.{◌≡◌, List, subst}
use Rattle.std.specs.List.{flat_map}
use Rattle.grid_model.specs.declared.events.Out.{Out}
use Rattle.grid_model.specs.NextViews.{behind_all}
use Rattle.snapshot_read.proofs.ReleaseRows.{release-all, release-held}
use Rattle.snapshot_read.proofs.laws.law_release.Goals as goal

pub returns-clause-row : goal.returns-clause-row
returns-clause-row c s n hs left answers all = release-all s n hs left answers all

pub returns-clause-held : goal.returns-clause-held
returns-clause-held c s n hs left answers e o v all quiet is =
    let P : List Out → Type 0 = λ outs. (behind_all e o v outs).held ≡ left in
    subst P (release-all s n hs left answers all) (release-held s n e o v hs left answers quiet all is)
