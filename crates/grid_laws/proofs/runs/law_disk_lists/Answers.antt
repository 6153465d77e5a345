use Rattle.std.proofs.Common.{[]}
use Rattle.grid_model.specs.Histories.{after}
use Rattle.grid_model.proofs.DiskLists.{disk-alike, disk-fit}
use Rattle.grid_laws.proofs.RunsDue.{due-run}
use Rattle.grid_laws.proofs.NodesFitActs.{nodes-fit}
use Rattle.grid_laws.proofs.runs.law_disk_lists.Goals as goal

pub returns-clause-alike : goal.returns-clause-alike
returns-clause-alike c =
    λ d h run n. disk-alike d (after [] h) n (nodes-fit d (after [] h) (due-run d d.items h run) n).fits

pub returns-clause-fit : goal.returns-clause-fit
returns-clause-fit c =
    λ d h run n. disk-fit d (after [] h) n (nodes-fit d (after [] h) (due-run d d.items h run) n).fits
