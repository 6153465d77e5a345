-- What is claimed of the run of a document: the headline.
use Rattle.std.specs.Prelude.{ℕ, List}
use Rattle.score_base.specs.declared.ids.NodeId.{NodeId}
use Rattle.grid_model.specs.declared.acts.Act.{Act}
use Rattle.grid_model.specs.Documents.{DocumentData}
use Rattle.grid_model.specs.Runs.{Lawful}
use Rattle.grid_model.specs.Copies.{OneCopy}
use Rattle.grid_model.specs.Claims.{Caused, Genuine, Kept}
use Rattle.grid_model.specs.Excuses.{Accounted}
use Rattle.grid_model.specs.Claims.{Atomic}
use Rattle.grid_model.specs.Claims.{RefusedWhereAsked}
use Rattle.grid_model.specs.Sessions.{SessionOrder}

-- The headline of these acts, where the counts of each node's disks rose by so much: they are a lawful run of the
-- document, in which each stop is by a fuse or is counted; committed updates, by final identifier and then by number,
-- and finished read-only transactions, at their snapshot, were shown what one serial copy gives; a committed
-- transaction was neither aborted nor lost, and is committed wherever it ended; an update whose client was told is
-- committed, and stands in all lists of records that the disks may hold; only the home of a transaction and the holders
-- of its keys send and get its messages; each abort, refusal and loss has its shown cause; each transaction that was
-- begun is answered, aborted, lost, decided or closed, or it is excused; and the serial order keeps the order of each
-- session.
pub record Headline (d : DocumentData) (h : List Act) (rise : NodeId → ℕ) : Type 0 where
  pub lawful : Lawful d h rise
  pub copy : OneCopy d h
  pub atomic : Atomic d h
  pub kept : Kept d h
  pub footprint : Genuine d h
  pub causes : Caused d h
  pub asked : RefusedWhereAsked h
  pub accounted : Accounted d h
  pub sessions : SessionOrder d h
