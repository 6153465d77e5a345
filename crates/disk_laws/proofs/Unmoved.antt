-- Acts in which the disks of n have no part: they leave its fuses, its lists, what is in doubt, and what was counted.
use Rattle.std.proofs.Common.{◌≡◌, ◌≢◌, ℕ, Bool, true, false, ◌==◌, IsTrue, List, [], ◌∷◌, Option, Some, None, refl, ◌∙◌, arith}
use Rattle.std.specs.List.{list_all}
use Rattle.std.proofs.lemmas.Bool.{and_parts}
use Rattle.std.proofs.lemmas.Bool.Decides.{nat_tests}
use Rattle.score_base.specs.declared.ids.NodeId.{NodeId}
use Rattle.score_base.specs.declared.ids.TxId.{TxId}
use Rattle.score_base.specs.declared.records.Record.{Record}
use Rattle.script_lang.specs.Scripts.{ScriptData}
use Rattle.grid_model.specs.declared.acts.Act.{Act}
use Rattle.grid_model.specs.declared.acts.Act.TheVariants as act
use Rattle.grid_model.specs.declared.acts.Flag.TheVariants as flag
use Rattle.grid_model.specs.Documents.{DocumentData}
use Rattle.grid_model.specs.Histories.{after}
use Rattle.score_base.specs.declared.keys.Key.{Key}
use Rattle.grid_model.specs.Nodes.{Node, Change, Raises, Holds, changed, change, where_at, freed, held_by, node, got, is_home_in, script_of, said_by, is_request}
use Rattle.grid_model.specs.Disks.{recorded, is_compacting, disklog}
use Rattle.grid_model.specs.Fuses.{Fuse, fuse, fuse_at_stop, with_record, with_opening}
use Rattle.grid_model.specs.Runs.{are_let, stops, faults}
use Rattle.disk_laws.specs.DiskActs.{is_of_disk, is_quiet}

-- nothing that the disk of n or its law reads has moved from the one past to the other
pub record Unmoved (d : DocumentData) (past now : List Act) (n : NodeId) : Type 0 where
  pub fuse_is : fuse d now n ≡ fuse d past n
  pub stop_is : fuse_at_stop d now n ≡ fuse_at_stop d past n
  pub compacting_is : is_compacting now n ≡ is_compacting past n
  pub disklog_is : disklog d now n ≡ disklog d past n
  pub journal_is : (node d now n).journal ≡ (node d past n).journal
  pub doubt_is : (node d now n).doubt ≡ (node d past n).doubt
  pub up_is : (node d now n).up ≡ (node d past n).up
  pub let_is : are_let d now n ≡ are_let d past n
  pub faults_are : faults d now n ≡ faults d past n
  pub stops_are : stops now n ≡ stops past n

pub unmoved-same : (d : DocumentData) (past : List Act) (n : NodeId) → Unmoved d past past n
unmoved-same d past n = record {
  fuse_is = refl;
  stop_is = refl;
  compacting_is = refl;
  disklog_is = refl;
  journal_is =
      refl;
  doubt_is = refl;
  up_is = refl;
  let_is = refl;
  faults_are = refl;
  stops_are = refl;
}

pub unmoved-both : (d : DocumentData) (p q r : List Act) (n : NodeId) → Unmoved d p q n → Unmoved d q r n →
    Unmoved d p r n
unmoved-both d p q r n x y = record {
  fuse_is = y.fuse_is ∙ x.fuse_is;
  stop_is = y.stop_is ∙ x.stop_is;
  compacting_is = y.compacting_is ∙ x.compacting_is;
  disklog_is = y.disklog_is ∙ x.disklog_is;
  journal_is = y.journal_is ∙ x.journal_is;
  doubt_is = y.doubt_is ∙ x.doubt_is;
  up_is = y.up_is ∙ x.up_is;
  let_is = y.let_is ∙ x.let_is;
  faults_are = y.faults_are ∙ x.faults_are;
  stops_are = y.stops_are ∙ x.stops_are;
}

-- ---- one act

unwritten : (o : Option Fuse) → with_record false o ≡ o
unwritten None = refl
unwritten (Some x) = refl

unopened : (o : Option Fuse) → with_opening false o ≡ o
unopened None = refl
unopened (Some x) = refl

-- a change that leaves the journal, the record in doubt, and whether the node is up
abbrev IsMild : Change → Type 0
IsMild c = (x : Node) (r : List Record) → ((changed c x).journal ≡ x.journal) × ((changed c x).doubt ≡ x.doubt) ×
    ((changed c x).up ≡ x.up) × (recorded c r ≡ r)

mild-where : (b : Bool) (c : Change) → IsMild c → IsMild (where_at b c)
mild-where true c mild = mild
mild-where false c mild = λ x r. (refl, refl, refl, refl)

mild-freed : (b : Bool) (t : TxId) (op : ℕ) (k : Key) (sid : ℕ) → IsMild (freed b t op k sid)
mild-freed true t op k sid = λ x r. (refl, refl, refl, refl)
mild-freed false t op k sid = λ x r. (refl, refl, refl, refl)

mild-act : (d : DocumentData) (past : List Act) (a : Act) (n : NodeId) → IsTrue (is_quiet a) →
    IsMild (change d (got past) a n)
mild-act d past (act.Raised m sid) n quiet = mild-where (m == n) (Raises sid) (λ x r. (refl, refl, refl, refl))
mild-act d past (act.Held m t op sid) n quiet = mild-where (m == n) (Holds (held_by (got past) t op sid))
    (λ x r. (refl, refl, refl, refl))
mild-act d past (act.Served m t op k sid vn v) n quiet =
    mild-where (m == n) (freed (is_request (said_by (got past))) t op k sid)
    (mild-freed (is_request (said_by (got past))) t op k sid)
mild-act d past (act.Prepared m t p) n quiet = grind arith
mild-act d past (act.Ended m t o) n quiet = grind arith
mild-act d past (act.Ceiling m c) n quiet = grind arith
mild-act d past (act.Decided t f) n quiet = grind arith
mild-act d past (act.Closed t) n quiet = grind arith
mild-act d past (act.Compacted m) n quiet = grind arith
mild-act d past (act.Down m h) n quiet = grind arith
mild-act d past (act.Up m f) n quiet = grind arith
mild-act d past (act.StillDown m) n quiet = grind arith
mild-act d past a n quiet = λ x r. (refl, refl, refl, refl)

-- an act in which no disk has a part
pub unmoved-quiet : (d : DocumentData) (past : List Act) (a : Act) (n : NodeId) → IsTrue (is_quiet a) →
    Unmoved d past (a ∷ past) n
unmoved-quiet d past (act.Prepared m t p) n quiet = grind arith
unmoved-quiet d past (act.Ended m t o) n quiet = grind arith
unmoved-quiet d past (act.Ceiling m c) n quiet = grind arith
unmoved-quiet d past (act.Decided t f) n quiet = grind arith
unmoved-quiet d past (act.Closed t) n quiet = grind arith
unmoved-quiet d past (act.Compacted m) n quiet = grind arith
unmoved-quiet d past (act.Down m h) n quiet = grind arith
unmoved-quiet d past (act.Up m f) n quiet = grind arith
unmoved-quiet d past (act.StillDown m) n quiet = grind arith
unmoved-quiet d past (act.Armed m k how) n quiet = grind arith
unmoved-quiet d past a n quiet =
    let mild = mild-act d past a n quiet (node d past n) (disklog d past n) in
    record {
      fuse_is = unwritten (fuse d past n);
      stop_is = refl;
      compacting_is = refl;
      disklog_is = mild.3;
      journal_is = mild.0;
      doubt_is = mild.1;
      up_is = mild.2;
      let_is = refl;
      faults_are = omega arith;
      stops_are =
          omega arith;
    }

-- acts in which no disk has a part
pub unmoved-all : (d : DocumentData) (past acts : List Act) (n : NodeId) → IsTrue (list_all is_quiet acts) →
    Unmoved d past (after past acts) n
unmoved-all d past [] n quiet = unmoved-same d past n
unmoved-all d past (a ∷ acts) n quiet =
    let parts = and_parts (is_quiet a) (list_all is_quiet acts) quiet in
    unmoved-both d past (a ∷ past) (after (a ∷ past) acts) n (unmoved-quiet d past a n parts.0)
    (unmoved-all d (a ∷ past) acts n parts.1)

-- ---- an act of another disk

-- a script has one home
one-home : (o : Option ScriptData) (n m : NodeId) → is_home_in o n ≡ true → n ≢ m → is_home_in o m ≡ false
one-home None n m home other = refl
one-home (Some s) n m home other = grind (arith, nat_tests)

-- a disk has part in no act of another
pub another : (d : DocumentData) (a : Act) (n m : NodeId) → IsTrue (is_of_disk d n a) → n ≢ m → is_of_disk d m a ≡ false
another d (act.Decided t f) n m own other = one-home (script_of t d.scripts) n m own other
another d (act.Closed t) n m own other = one-home (script_of t d.scripts) n m own other
another d a n m own other = grind (arith, nat_tests)

-- an act in which the disk of another node has a part
pub unmoved-other : (d : DocumentData) (past : List Act) (a : Act) (n m : NodeId) → IsTrue (is_of_disk d n a) →
    is_of_disk d m a ≡ false → Unmoved d past (a ∷ past) m
unmoved-other d past (act.Up k flag.Kept) n m own no_part =
    record {
      fuse_is = rw no_part (unopened (fuse d past m));
      stop_is = refl;
      compacting_is = rw no_part refl;
      disklog_is = rw no_part refl;
      journal_is = rw no_part refl;
      doubt_is = rw no_part refl;
      up_is = rw no_part refl;
      let_is = rw no_part refl;
      faults_are = omega arith;
      stops_are = omega arith;
    }
unmoved-other d past (act.Up k f) n m own no_part = record {
  fuse_is = rw no_part (unopened (fuse d past m));
  stop_is = refl;
  compacting_is = rw no_part refl;
  disklog_is =
      rw no_part refl;
  journal_is = rw no_part refl;
  doubt_is = rw no_part refl;
  up_is = rw no_part refl;
  let_is = refl;
  faults_are = omega arith;
  stops_are = omega arith;
}
unmoved-other d past (act.Down k None) n m own no_part =
    record {
      fuse_is = rw no_part refl;
      stop_is = rw no_part refl;
      compacting_is = rw no_part refl;
      disklog_is =
          rw no_part refl;
      journal_is = rw no_part refl;
      doubt_is = rw no_part refl;
      up_is = rw no_part refl;
      let_is = refl;
      faults_are = omega arith;
      stops_are = omega arith;
    }
unmoved-other d past (act.Down k (Some h)) n m own no_part =
    record {
      fuse_is = rw no_part refl;
      stop_is = rw no_part refl;
      compacting_is = rw no_part refl;
      disklog_is =
          rw no_part refl;
      journal_is = rw no_part refl;
      doubt_is = rw no_part refl;
      up_is = rw no_part refl;
      let_is = refl;
      faults_are = rw no_part (omega arith);
      stops_are = rw no_part (omega arith);
    }
unmoved-other d past (act.StillDown k) n m own no_part =
    record {
      fuse_is = rw no_part refl;
      stop_is = refl;
      compacting_is = refl;
      disklog_is = rw no_part refl;
      journal_is = rw no_part refl;
      doubt_is = rw no_part refl;
      up_is = rw no_part refl;
      let_is = refl;
      faults_are =
          rw no_part (omega arith);
      stops_are = rw no_part (omega arith);
    }
unmoved-other d past (act.Armed k j how) n m own no_part =
    record {
      fuse_is = rw no_part refl;
      stop_is = refl;
      compacting_is = refl;
      disklog_is = refl;
      journal_is = refl;
      doubt_is = refl;
      up_is = refl;
      let_is = refl;
      faults_are = omega arith;
      stops_are = omega arith;
    }
unmoved-other d past (act.Compacted k) n m own no_part =
    record {
      fuse_is = rw no_part refl;
      stop_is = refl;
      compacting_is = refl;
      disklog_is = rw no_part refl;
      journal_is = refl;
      doubt_is = refl;
      up_is = refl;
      let_is = rw no_part refl;
      faults_are = omega arith;
      stops_are =
          omega arith;
    }
unmoved-other d past (act.Prepared k t p) n m own no_part =
    record {
      fuse_is = rw no_part (unwritten (fuse d past m));
      stop_is = refl;
      compacting_is = refl;
      disklog_is =
          rw no_part refl;
      journal_is = rw no_part refl;
      doubt_is = rw no_part refl;
      up_is = rw no_part refl;
      let_is =
          rw no_part refl;
      faults_are = omega arith;
      stops_are = omega arith;
    }
unmoved-other d past (act.Ended k t o) n m own no_part =
    record {
      fuse_is = rw no_part (unwritten (fuse d past m));
      stop_is = refl;
      compacting_is = refl;
      disklog_is =
          rw no_part refl;
      journal_is = rw no_part refl;
      doubt_is = rw no_part refl;
      up_is = rw no_part refl;
      let_is =
          rw no_part refl;
      faults_are = omega arith;
      stops_are = omega arith;
    }
unmoved-other d past (act.Ceiling k c) n m own no_part =
    record {
      fuse_is = rw no_part (unwritten (fuse d past m));
      stop_is = refl;
      compacting_is = refl;
      disklog_is =
          rw no_part refl;
      journal_is = rw no_part refl;
      doubt_is = rw no_part refl;
      up_is = rw no_part refl;
      let_is =
          rw no_part refl;
      faults_are = omega arith;
      stops_are = omega arith;
    }
unmoved-other d past (act.Decided t f) n m own no_part =
    record {
      fuse_is = rw no_part (unwritten (fuse d past m));
      stop_is = refl;
      compacting_is = refl;
      disklog_is =
          rw no_part refl;
      journal_is = rw no_part refl;
      doubt_is = rw no_part refl;
      up_is = rw no_part refl;
      let_is =
          rw no_part refl;
      faults_are = omega arith;
      stops_are = omega arith;
    }
unmoved-other d past (act.Closed t) n m own no_part = record {
  fuse_is = rw no_part (unwritten (fuse d past m));
  stop_is = refl;
  compacting_is = refl;
  disklog_is =
      rw no_part refl;
  journal_is = rw no_part refl;
  doubt_is = rw no_part refl;
  up_is = rw no_part refl;
  let_is =
      rw no_part refl;
  faults_are = omega arith;
  stops_are = omega arith;
}
unmoved-other d past a n m own no_part = grind arith
