-- What a node knows as a participant, and what it knows behind one record more.
use Rattle.std.specs.Prelude.{List, ◌∷◌, Option, Some, None}
use Rattle.score_base.specs.declared.ids.Ident.{Ident}
use Rattle.score_base.specs.declared.records.Record.{Record}
use Rattle.placement.specs.Clusters.{ClusterData}
use Rattle.journal_words.specs.Journals.{learnt}

-- what a node knows as a participant: the cluster; the records of its journal, the newest first; its clock
pub record Participant : Type 0 where
  pub cluster : ClusterData
  pub journal : List Record
  pub next : Ident

-- the journal with one record more, where there is one
abbrev pub written : Option Record → List Record → List Record
written None r = r
written (Some x) r = x ∷ r

-- a participant behind a record, where there is one
abbrev pub admitted : Option Record → Participant → Participant
admitted x p = record { cluster = p.cluster; journal = written x p.journal; next = learnt x p.next }
