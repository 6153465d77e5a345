-- One copy, atomic commits and acknowledged commits, of every run of a document that is one.
use Rattle.std.proofs.Common.{[]}
use Rattle.grid_model.specs.declared.acts.Act.{Act}
use Rattle.std.specs.Prelude.{List}
use Rattle.grid_model.specs.Documents.{DocumentData, IsOne}
use Rattle.grid_model.specs.Histories.{after}
use Rattle.grid_model.specs.Runs.{IsRun}
use Rattle.grid_model.specs.Copies.{OneCopy}
use Rattle.grid_model.specs.Claims.{Kept}
use Rattle.grid_laws.proofs.RunsDue.{due-run}
use Rattle.grid_laws.proofs.FinishedSay.{finished-reader}
use Rattle.copy_laws.proofs.Footing.{Rests}
use Rattle.copy_laws.proofs.CopyReads.{reader-shown, replies-copy, update-shown, versions-copy}
use Rattle.grid_model.specs.Claims.{Atomic}
use Rattle.copy_laws.proofs.AtomicCommits.{atomic-past}
use Rattle.copy_laws.proofs.KeptCommits.{finished-kept}

rests : (d : DocumentData) (h : List Act) → IsOne d → IsRun d d.items h → Rests d (after [] h)
rests d h one run = record { one = one; due = due-run d d.items h run }

-- what law_one_copy says
pub one-copy : (d : DocumentData) (h : List Act) → IsOne d → IsRun d d.items h → OneCopy d h
one-copy d h one run =
    let r : Rests d (after [] h) = rests d h one run in
    record {
      updates = λ later before x at. update-shown d h run r later before x at;
      readers = λ s t is reads finished. (let x = finished-reader d (after [] h) r.due s t is reads finished in reader-shown d h run r s t is x.0 x.1 x.2);
      replies = replies-copy d (after [] h) r;
      versions = λ n k s held le. versions-copy d (after [] h) n k s r held le;
    }

-- what law_kept says
pub kept : (d : DocumentData) (h : List Act) → IsOne d → IsRun d d.items h → Kept d h
kept d h one run logs are s t is update finished = finished-kept d (after [] h) logs s t (rests d h one run) are is update finished

pub atomic : (d : DocumentData) (h : List Act) → IsOne d → IsRun d d.items h → Atomic d h
atomic d h one run = atomic-past d (after [] h) (rests d h one run)
