-- What quiet acts and the act of a record leave of what is said of the disks of a node.
use Rattle.std.proofs.Common.{◌≡◌, Bool, true, false, ◌==◌, List, [], ◌∷◌, Option, Some, None, refl, sym, ap, ◌∙◌}
use Rattle.std.proofs.lemmas.Bool.{and_parts}
use Rattle.std.specs.List.{list_all}
use Rattle.score_base.specs.declared.ids.NodeId.{NodeId}
use Rattle.score_base.specs.declared.records.Record.{Record}
use Rattle.grid_model.specs.declared.acts.Act.{Act}
use Rattle.grid_model.specs.declared.acts.Act.TheVariants as act
use Rattle.grid_model.specs.declared.messages.Envelope.{Envelope}
use Rattle.grid_model.specs.Disks.{disklog, is_compacting, recorded}
use Rattle.grid_model.specs.Documents.{DocumentData}
use Rattle.grid_model.specs.Fuses.{fuse, fuse_at_stop, is_record_at, with_record}
use Rattle.grid_model.specs.Histories.{after}
use Rattle.grid_model.specs.Nodes.{Change, Nothing, Writes, Raises, Holds, Frees, Node, change, changed, freed, got, held_by, is_request, node, said_by, where_at}
use Rattle.view_laws.specs.Turns.{is_quiet, LeavesDisks}
use Rattle.view_laws.proofs.Unmoved.{unrecorded}

-- ---- one quiet act

-- a change of the clock or of the held reads
abbrev is_light : Change → Bool
is_light Nothing = true
is_light (Raises sid) = true
is_light (Holds o) = true
is_light (Frees t op k sid) = true
is_light c = false

light-where : (b : Bool) (c : Change) → is_light c ≡ true → is_light (where_at b c) ≡ true
light-where true c h = h
light-where false c h = refl

quiet-change : (d : DocumentData) (e : Option Envelope) (a : Act) (n : NodeId) → is_quiet a ≡ true →
    is_light (change d e a n) ≡ true
quiet-change d e (act.Raised m sid) n h = light-where (m == n) (Raises sid) refl
quiet-change d e (act.Held m t op sid) n h = light-where (m == n) (Holds (held_by e t op sid)) refl
quiet-change d e (act.Served m t op k sid vn v) n h =
    light-where (m == n) (freed (is_request (said_by e)) t op k sid) (go (is_request (said_by e)))
  where
    go : (b : Bool) → is_light (freed b t op k sid) ≡ true
    go true = refl
    go false = refl
quiet-change d e (act.Prepared m t p) n h = cc
quiet-change d e (act.Ended m t o) n h = cc
quiet-change d e (act.Ceiling m c) n h = cc
quiet-change d e (act.Decided t f) n h = cc
quiet-change d e (act.Closed t) n h = cc
quiet-change d e (act.Down m o) n h = cc
quiet-change d e (act.Up m f) n h = cc
quiet-change d e (act.StillDown m) n h = cc
quiet-change d e a n h = refl

-- it leaves the records, the record in doubt, and whether the node is up
record LeavesNode (x y : Node) : Type 0 where
  pub journal : y.journal ≡ x.journal
  pub up : y.up ≡ x.up
  pub doubt : y.doubt ≡ x.doubt

light-node : (c : Change) (x : Node) → is_light c ≡ true → LeavesNode x (changed c x)
light-node Nothing x h = record { journal = refl; up = refl; doubt = refl }
light-node (Raises sid) x h = record { journal = refl; up = refl; doubt = refl }
light-node (Holds o) x h = record { journal = refl; up = refl; doubt = refl }
light-node (Frees t op k sid) x h = record { journal = refl; up = refl; doubt = refl }
light-node c x h = cc

light-recorded : (c : Change) (r : List Record) → is_light c ≡ true → recorded c r ≡ r
light-recorded (Writes o) r h = cc
light-recorded c r h = refl

quiet-disklog : (d : DocumentData) (past : List Act) (a : Act) (n : NodeId) → is_quiet a ≡ true →
    disklog d (a ∷ past) n ≡ disklog d past n
quiet-disklog d past (act.Compacted m) n h = cc
quiet-disklog d past (act.Up m f) n h = cc
quiet-disklog d past a n h =
    light-recorded (change d (got past) a n) (disklog d past n) (quiet-change d (got past) a n h)

quiet-compacting : (past : List Act) (a : Act) (n : NodeId) → is_quiet a ≡ true →
    is_compacting (a ∷ past) n ≡ is_compacting past n
quiet-compacting past (act.Down m o) n h = cc
quiet-compacting past (act.Up m f) n h = cc
quiet-compacting past a n h = refl

quiet-fuse : (d : DocumentData) (past : List Act) (a : Act) (n : NodeId) → is_quiet a ≡ true →
    fuse d (a ∷ past) n ≡ fuse d past n
quiet-fuse d past (act.Armed m k how) n h = cc
quiet-fuse d past (act.Down m o) n h = cc
quiet-fuse d past (act.StillDown m) n h = cc
quiet-fuse d past (act.Compacted m) n h = cc
quiet-fuse d past (act.Up m f) n h = cc
quiet-fuse d past (act.Prepared m t p) n h = cc
quiet-fuse d past (act.Ended m t o) n h = cc
quiet-fuse d past (act.Ceiling m c) n h = cc
quiet-fuse d past (act.Decided t f) n h = cc
quiet-fuse d past (act.Closed t) n h = cc
quiet-fuse d past a n h = unrecorded false (fuse d past n) refl

quiet-stop : (d : DocumentData) (past : List Act) (a : Act) (n : NodeId) → is_quiet a ≡ true →
    fuse_at_stop d (a ∷ past) n ≡ fuse_at_stop d past n
quiet-stop d past (act.Down m o) n h = cc
quiet-stop d past a n h = refl

-- ---- quiet acts

pub leaves-none : (d : DocumentData) (past : List Act) (n : NodeId) → LeavesDisks d past past n None
leaves-none d past n = record {
  journal = refl;
  disklog = refl;
  up = refl;
  doubt = refl;
  compacting = refl;
  fuse = sym (unrecorded false (fuse d past n) refl);
  fuse_at_stop = refl;
}

leaves-quiet : (d : DocumentData) (past now : List Act) (n : NodeId) (x : Option Record) (a : Act) →
    is_quiet a ≡ true → LeavesDisks d past now n x → LeavesDisks d past (a ∷ now) n x
leaves-quiet d past now n x a h l =
    let same = light-node (change d (got now) a n) (node d now n) (quiet-change d (got now) a n h) in
    record {
      journal = same.journal ∙ l.journal;
      disklog = quiet-disklog d now a n h ∙ l.disklog;
      up = same.up ∙ l.up;
      doubt = same.doubt ∙ l.doubt;
      compacting = quiet-compacting now a n h ∙ l.compacting;
      fuse = quiet-fuse d now a n h ∙ l.fuse;
      fuse_at_stop = quiet-stop d now a n h ∙ l.fuse_at_stop;
    }

pub leaves-acts : (d : DocumentData) (past now acts : List Act) (n : NodeId) (x : Option Record) →
    list_all is_quiet acts ≡ true → LeavesDisks d past now n x → LeavesDisks d past (after now acts) n x
leaves-acts d past now [] n x h l = l
leaves-acts d past now (a ∷ acts) n x h l =
    let parts = and_parts (is_quiet a) (list_all is_quiet acts) h in
    leaves-acts d past (a ∷ now) acts n x parts.1 (leaves-quiet d past now n x a parts.0 l)

-- ---- the act of a record

turn-disklog : (d : DocumentData) (past : List Act) (a : Act) (n : NodeId) (x : Record) → is_record_at d a n ≡ true →
    change d (got past) a n ≡ Writes (Some x) → disklog d (a ∷ past) n ≡ x ∷ disklog d past n
turn-disklog d past (act.Prepared m t p) n x at writes = ap (λ c. recorded c (disklog d past n)) writes
turn-disklog d past (act.Ended m t o) n x at writes = ap (λ c. recorded c (disklog d past n)) writes
turn-disklog d past (act.Ceiling m c) n x at writes = ap (λ z. recorded z (disklog d past n)) writes
turn-disklog d past (act.Decided t f) n x at writes = ap (λ c. recorded c (disklog d past n)) writes
turn-disklog d past (act.Closed t) n x at writes = ap (λ c. recorded c (disklog d past n)) writes
turn-disklog d past a n x at writes = cc

turn-compacting : (d : DocumentData) (past : List Act) (a : Act) (n : NodeId) → is_record_at d a n ≡ true →
    is_compacting (a ∷ past) n ≡ is_compacting past n
turn-compacting d past (act.Down m o) n at = cc
turn-compacting d past (act.Up m f) n at = cc
turn-compacting d past a n at = refl

turn-fuse : (d : DocumentData) (past : List Act) (a : Act) (n : NodeId) → is_record_at d a n ≡ true →
    fuse d (a ∷ past) n ≡ with_record true (fuse d past n)
turn-fuse d past (act.Armed m k how) n at = cc
turn-fuse d past (act.Down m o) n at = cc
turn-fuse d past (act.StillDown m) n at = cc
turn-fuse d past (act.Compacted m) n at = cc
turn-fuse d past (act.Up m f) n at = cc
turn-fuse d past a n at = ap (λ b. with_record b (fuse d past n)) at

turn-stop : (d : DocumentData) (past : List Act) (a : Act) (n : NodeId) → is_record_at d a n ≡ true →
    fuse_at_stop d (a ∷ past) n ≡ fuse_at_stop d past n
turn-stop d past (act.Down m o) n at = cc
turn-stop d past a n at = refl

-- behind quiet acts
pub leaves-turn : (d : DocumentData) (past now : List Act) (a : Act) (n : NodeId) (x : Record) →
    is_record_at d a n ≡ true → change d (got now) a n ≡ Writes (Some x) → LeavesDisks d past now n None →
    LeavesDisks d past (a ∷ now) n (Some x)
leaves-turn d past now a n x at writes l =
    let is : node d (a ∷ now) n ≡ changed (Writes (Some x)) (node d now n) =
    ap (λ c. changed c (node d now n)) writes in
    record {
      journal = ap (λ (h : Node). h.journal) is ∙ ap (λ r. x ∷ r) l.journal;
      disklog = turn-disklog d now a n x at writes ∙ ap (λ r. x ∷ r) l.disklog;
      up = ap (λ (h : Node). h.up) is ∙ l.up;
      doubt = ap (λ (h : Node). h.doubt) is ∙ l.doubt;
      compacting = turn-compacting d now a n at ∙ l.compacting;
      fuse =
          turn-fuse d now a n at
          ∙ ap (with_record true) (l.fuse ∙ unrecorded false (fuse d past n) refl);
      fuse_at_stop = turn-stop d now a n at ∙ l.fuse_at_stop;
    }
