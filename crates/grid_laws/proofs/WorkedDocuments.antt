-- The premises of the laws are not empty: the documents of the worked runs are well formed, and their acts are runs of
-- them.
use Rattle.std.proofs.Common.{◌≤◌, ℕ, IsTrue, List, length, refl, arith}
use Rattle.std.specs.Prelude.{nat_le, sum_by}
use Rattle.std.specs.List.{list_all}
use Rattle.std.proofs.lemmas.Bool.Decides.{nat_tests}
use Rattle.placement.specs.Places.{is_partition}
use Rattle.placement.specs.Clusters.{ClusterData, IsCluster, are_keys_distinct}
use Rattle.grid_model.specs.declared.acts.Act.{Act}
use Rattle.grid_model.specs.Documents.{DocumentData, IsOne, script_numbers, are_numbers_distinct, key_order, keys_of_document, is_item, events_of, is_body, are_numbered}
use Rattle.grid_model.specs.Runs.{IsRun}
use Rattle.journal_words.proofs.TwoNodes.{two_nodes}
use Rattle.grid_model.proofs.RunsThatCommit.{read_then_write, read_then_write_acts, read_then_write-lawful}
use Rattle.grid_model.proofs.RunsWithReads.{equal_finals, equal_finals_acts, equal_finals-lawful, held_read, held_read_acts, held_read-lawful, ceiling_after_crash, ceiling_after_crash_acts, ceiling_after_crash-lawful}
use Rattle.grid_model.proofs.RunsWithConflicts.{write_conflict, write_conflict_acts, write_conflict-lawful, stale_read_refused, stale_read_refused_acts, stale_read_refused-lawful}
use Rattle.grid_model.proofs.RunsOnThreeNodes.{three_nodes, replicas, bystander_gets_nothing, bystander_gets_nothing_acts, bystander_gets_nothing-lawful, replicated_transfer, replicated_transfer_acts, replicated_transfer-lawful}
use Rattle.grid_model.proofs.RunsThatStop.{presumed_abort, presumed_abort_acts, presumed_abort-lawful}

-- ---- documents by tests

at-most : (m n : ℕ) → IsTrue (nat_le m n) → m ≤ n
at-most m n is = grind (arith, nat_tests, is)

-- a cluster by tests of its parts
pub tested-cluster : (c : ClusterData) → IsTrue (nat_le 1 c.nodes) → IsTrue (nat_le c.nodes 16)
    → IsTrue (nat_le 1 (length c.places)) → IsTrue (nat_le (length c.places) 64)
    → IsTrue (list_all is_partition c.places) → IsTrue (list_all (list_all (λ n. nat_le n c.nodes)) c.places)
    → IsTrue (are_keys_distinct c.inits) → IsCluster c
tested-cluster c least most few many each inside inits = record {
  least = at-most 1 c.nodes least;
  most = at-most c.nodes 16 most;
  places = record { least = at-most 1 (length c.places) few; most = at-most (length c.places) 64 many; each = each };
  within = inside;
  inits = inits;
}

-- a document by tests of its parts
pub tested-document : (d : DocumentData) → IsCluster d.cluster → IsTrue (nat_le (length d.scripts) 4096)
    → IsTrue (are_numbers_distinct (script_numbers d.scripts))
    → IsTrue (list_all (λ s. nat_le s.home d.cluster.nodes) d.scripts)
    → IsTrue (nat_le (length (key_order (keys_of_document d.cluster.inits d.scripts))) 4096)
    → IsTrue (list_all (is_item d.cluster.nodes (script_numbers d.scripts)) d.items)
    → IsTrue (nat_le (sum_by events_of d.items) 50000) → IsTrue (list_all (λ s. is_body s.ops) d.scripts)
    → IsTrue (are_numbered d) → IsOne d
tested-document d cluster count numbers homes keys items events bodies nodes = record {
  document = record {
    cluster = cluster;
    count = at-most (length d.scripts) 4096 count;
    numbers = numbers;
    homes = homes;
    keys = at-most (length (key_order (keys_of_document d.cluster.inits d.scripts))) 4096 keys;
    items = items;
    events = at-most (sum_by events_of d.items) 50000 events;
  };
  bodies = bodies;
  nodes = nodes;
}

-- the clusters of the worked runs are clusters
pub two-nodes : IsCluster two_nodes
two-nodes = tested-cluster two_nodes refl refl refl refl refl refl refl

pub three-nodes : IsCluster three_nodes
three-nodes = tested-cluster three_nodes refl refl refl refl refl refl refl

pub two-replicas : IsCluster replicas
two-replicas = tested-cluster replicas refl refl refl refl refl refl refl

-- ---- what the laws ask of a document and of acts

-- the document is one, and the acts are a run of it
abbrev pub IsWorked : DocumentData → List Act → Type 0
IsWorked d h = IsOne d × IsRun d d.items h

-- one transaction reads and writes, and commits
pub read_then_write-worked : IsWorked read_then_write read_then_write_acts
read_then_write-worked = (tested-document read_then_write two-nodes refl refl refl refl refl refl refl refl, read_then_write-lawful.run)

-- two updates have one final identifier, and a third transaction reads both
pub equal_finals-worked : IsWorked equal_finals equal_finals_acts
equal_finals-worked = (tested-document equal_finals two-nodes refl refl refl refl refl refl refl refl, equal_finals-lawful.run)

-- a read is held
pub held_read-worked : IsWorked held_read held_read_acts
held_read-worked = (tested-document held_read two-nodes refl refl refl refl refl refl refl refl, held_read-lawful.run)

-- a node is opened again behind a crash
pub ceiling_after_crash-worked : IsWorked ceiling_after_crash ceiling_after_crash_acts
ceiling_after_crash-worked = (tested-document ceiling_after_crash two-nodes refl refl refl refl refl refl refl refl, ceiling_after_crash-lawful.run)

-- two write the same key
pub write_conflict-worked : IsWorked write_conflict write_conflict_acts
write_conflict-worked = (tested-document write_conflict two-nodes refl refl refl refl refl refl refl refl, write_conflict-lawful.run)

-- a read is stale
pub stale_read_refused-worked : IsWorked stale_read_refused stale_read_refused_acts
stale_read_refused-worked = (tested-document stale_read_refused two-nodes refl refl refl refl refl refl refl refl, stale_read_refused-lawful.run)

-- a home stops while it collects
pub presumed_abort-worked : IsWorked presumed_abort presumed_abort_acts
presumed_abort-worked = (tested-document presumed_abort two-nodes refl refl refl refl refl refl refl refl, presumed_abort-lawful.run)

-- a node holds no key of the transaction
pub bystander_gets_nothing-worked : IsWorked bystander_gets_nothing bystander_gets_nothing_acts
bystander_gets_nothing-worked = (tested-document bystander_gets_nothing three-nodes refl refl refl refl refl refl refl refl, bystander_gets_nothing-lawful.run)

-- each key has two holders
pub replicated_transfer-worked : IsWorked replicated_transfer replicated_transfer_acts
replicated_transfer-worked = (tested-document replicated_transfer two-replicas refl refl refl refl refl refl refl refl, replicated_transfer-lawful.run)
