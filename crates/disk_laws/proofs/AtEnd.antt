-- What the disks hold behind a run, by what stands of those of each node.
use Rattle.std.proofs.Common.{◌≡◌, ◌≤◌, ℕ, ◌*◌, nat_le, Bool, true, false, ◌&&◌, List, [], ◌∷◌, reverse, Ok, if◌then◌else◌, refl, ap, arith}
use Rattle.std.proofs.lemmas.Bool.{and_from}
use Rattle.std.proofs.lemmas.Bool.Decides.{nat_tests}
use Rattle.score_base.specs.declared.ids.NodeId.{NodeId}
use Rattle.score_base.specs.declared.records.Record.{Record}
use Rattle.score_disk.specs.Files.{File}
use Rattle.node_journal.specs.Log.{records_of}
use Rattle.node_journal.specs.Pairs.{pair_log}
use Rattle.grid_model.specs.declared.acts.Act.{Act}
use Rattle.grid_model.specs.Documents.{DocumentData, IsOne}
use Rattle.grid_model.specs.Histories.{after}
use Rattle.grid_model.specs.Disks.{disklog}
use Rattle.grid_model.specs.Runs.{IsRun}
use Rattle.grid_model.specs.Claims.{IsLog, AreLogs}
use Rattle.grid_model.specs.Claims as claims
use Rattle.copy_laws.proofs.OneCopies.{kept}
use Rattle.disk_laws.specs.Shown.{Shown}
use Rattle.disk_laws.specs.Seats.{Stands, up, down, HoldsLog, standing, in_doubt, compacting}
use Rattle.disk_laws.specs.Holds.{Holds, HoldBoth, first_of_node, second_of_node}
use Rattle.disk_laws.proofs.Files.{rest-log, rest-first, rest-second}

-- the two disks hold a log that the node may hold
record HoldLog (d : DocumentData) (past : List Act) (n : NodeId) (first second : Shown) : Type 0 where
  pub records : List Record
  pub held : HoldBoth records first.file second.file
  pub is : IsLog d past n records

of-log : (d : DocumentData) (past : List Act) (n number : ℕ) (a b : List ℕ) → HoldsLog d past n number a b →
    (records : List Record) × (pair_log a b ≡ Ok records) × IsLog d past n records
of-log d past n number a b (standing is) = (reverse (disklog d past n), is.log, claims.standing refl)
of-log d past n number a b (in_doubt last not_small doubt lets is) =
    (reverse (last ∷ disklog d past n), is.log, claims.in_doubt last doubt refl)
of-log d past n number a b (compacting is_small lets is) = (_, is.log, claims.compacting is_small refl)

hold-log : (d : DocumentData) (past : List Act) (n : NodeId) (first second : Shown) → Stands d past n first second →
    HoldLog d past n first second
hold-log d past n first second (up number s st one two) = record {
  records = reverse (disklog d past n);
  held = record {
    first_settled = rw one (rest-first (reverse (disklog d past n)) number s st.rest);
    second_settled = rw two (rest-second (reverse (disklog d past n)) number s st.rest);
    log = rw (one, two) (rest-log (reverse (disklog d past n)) number s st.rest).log;
  };
  is = claims.standing refl;
}
hold-log d past n first second (down number st) =
    let l = of-log d past n number first.file.seen second.file.seen st.holds in
    record {
      records = l.0;
      held = record {
        first_settled = st.first_settled;
        second_settled = st.second_settled;
        log = l.1;
      };
      is = l.2;
    }

pub held-end : (d : DocumentData) (h : List Act) (given : ℕ → File) (disks : ℕ → Shown) → IsOne d →
    IsRun d d.items h → ((n : NodeId) → 1 ≤ n → n ≤ d.cluster.nodes →
    Stands d (after [] h) n (disks (first_of_node n)) (disks (second_of_node n))) →
    ((m : ℕ) → 2 * d.cluster.nodes ≤ m → (disks m).file ≡ given m) → Holds d h given (λ m. (disks m).file)
held-end d h given disks one run each others =
    record { logs = logs; disks = held; are_logs = are; updates = kept d h one run logs are; others = others }
  where
    read : NodeId → List Record
    read n = records_of (pair_log (disks (first_of_node n)).file.seen (disks (second_of_node n)).file.seen)

    logs : NodeId → List Record
    logs n = if nat_le 1 n && nat_le n d.cluster.nodes then read n else reverse (disklog d (after [] h) n)

    inside : (n : NodeId) → 1 ≤ n → n ≤ d.cluster.nodes → (nat_le 1 n && nat_le n d.cluster.nodes) ≡ true
    inside n low high = and_from (nat_le 1 n) (nat_le n d.cluster.nodes) (grind (arith, nat_tests))
        (grind (arith, nat_tests))

    at : (n : NodeId) → 1 ≤ n → n ≤ d.cluster.nodes → HoldLog d (after [] h) n (disks (first_of_node n))
        (disks (second_of_node n))
    at n low high = hold-log d (after [] h) n (disks (first_of_node n)) (disks (second_of_node n)) (each n low high)

    read-is : (n : NodeId) (x : HoldLog d (after [] h) n (disks (first_of_node n)) (disks (second_of_node n))) →
        read n ≡ x.records
    read-is n x = ap records_of x.held.log

    held : (n : NodeId) → 1 ≤ n → n ≤ d.cluster.nodes → HoldBoth (logs n) (disks (first_of_node n)).file
        (disks (second_of_node n)).file
    held n low high =
        let x = at n low high in
        rw (inside n low high, read-is n x) x.held

    are : AreLogs d (after [] h) logs
    are = record { each = λ n. go n (nat_le 1 n) (nat_le n d.cluster.nodes) refl refl }
      where
        go : (n : NodeId) (b c : Bool) → nat_le 1 n ≡ b → nat_le n d.cluster.nodes ≡ c →
            IsLog d (after [] h) n (if b && c then read n else reverse (disklog d (after [] h) n))
        go n true true low high =
            let x = at n (grind (arith, nat_tests)) (grind (arith, nat_tests)) in
            rw (read-is n x) x.is
        go n true false low high = claims.standing refl
        go n false c low high = claims.standing refl
