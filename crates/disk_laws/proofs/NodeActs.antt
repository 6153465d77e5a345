-- What the acts of a node leave of what its disks stand by.
use Rattle.std.proofs.Common.{◌≡◌, ℕ, Bool, true, false, ◌&&◌, ◌==◌, Option, Some, None, List, ◌∷◌, refl, ap, ◌∙◌, arith}
use Rattle.std.proofs.lemmas.Bool.Decides.{nat_tests}
use Rattle.score_base.specs.declared.ids.NodeId.{NodeId}
use Rattle.score_base.specs.declared.records.Record.{Record}
use Rattle.journal_words.specs.Small.{small}
use Rattle.grid_model.specs.declared.acts.Act.{Act}
use Rattle.grid_model.specs.declared.acts.Act.TheVariants as act
use Rattle.grid_model.specs.declared.acts.Flag.{Flag}
use Rattle.grid_model.specs.declared.acts.Head.{Head}
use Rattle.grid_model.specs.declared.acts.Head.TheVariants as head
use Rattle.grid_model.specs.declared.messages.Envelope.{Envelope}
use Rattle.grid_model.specs.Documents.{DocumentData}
use Rattle.grid_model.specs.Nodes.{Node, Writes, change, changed, node, journal, got, doubt_of, record_of, is_kept, found}
use Rattle.grid_model.specs.Disks.{recorded, stored, reopened, is_compact, is_compacting, disklog}
use Rattle.grid_model.specs.Fuses.{Fuse, fuse, fuse_at_stop, is_record_at, is_empty, with_record, with_opening, lets_record, lets_compaction, stops_in, stops_record}
use Rattle.grid_model.specs.Runs.{is_let, is_stop}
use Rattle.disk_laws.specs.DiskActs.{is_of_disk}

pub self : (n : ℕ) → (n == n) ≡ true
self n = grind (arith, nat_tests)

-- ---- a record

pub record-let : (d : DocumentData) (p : List Act) (a : Act) (n : NodeId) → is_record_at d a n ≡ true →
    is_let d p a n ≡ lets_record (fuse d p n)
record-let d p (act.Prepared m t q) n h = rw h refl
record-let d p (act.Ended m t o) n h = rw h refl
record-let d p (act.Ceiling m c) n h = rw h refl
record-let d p (act.Decided t f) n h = rw h refl
record-let d p (act.Closed t) n h = rw h refl
record-let d p a n h = grind arith

pub record-fuse : (d : DocumentData) (p : List Act) (a : Act) (n : NodeId) → is_record_at d a n ≡ true →
    fuse d (a ∷ p) n ≡ with_record true (fuse d p n)
record-fuse d p (act.Prepared m t q) n h = rw h refl
record-fuse d p (act.Ended m t o) n h = rw h refl
record-fuse d p (act.Ceiling m c) n h = rw h refl
record-fuse d p (act.Decided t f) n h = rw h refl
record-fuse d p (act.Closed t) n h = rw h refl
record-fuse d p a n h = grind arith

pub record-calm : (d : DocumentData) (a : Act) (n : NodeId) → is_record_at d a n ≡ true → is_stop a n ≡ false
record-calm d (act.Down m (Some h)) n is = grind arith
record-calm d (act.StillDown m) n is = grind arith
record-calm d a n is = refl

pub record-own : (d : DocumentData) (a : Act) (n : NodeId) → is_record_at d a n ≡ true → is_of_disk d n a ≡ true
record-own d (act.Prepared m t p) n is = is
record-own d (act.Ended m t o) n is = is
record-own d (act.Ceiling m c) n is = is
record-own d (act.Decided t f) n is = is
record-own d (act.Closed t) n is = is
record-own d a n is = grind arith

record-stored : (d : DocumentData) (e : Option Envelope) (a : Act) (n : NodeId) (x : Node) (b : Bool)
    (r : List Record) → is_record_at d a n ≡ true → stored d e a n x b r ≡ recorded (change d e a n) r
record-stored d e (act.Prepared m t q) n x b r h = refl
record-stored d e (act.Ended m t o) n x b r h = refl
record-stored d e (act.Ceiling m c) n x b r h = refl
record-stored d e (act.Decided t f) n x b r h = refl
record-stored d e (act.Closed t) n x b r h = refl
record-stored d e a n x b r h = grind arith

pub record-disklog : (d : DocumentData) (p : List Act) (a : Act) (n : NodeId) (x : Record) →
    is_record_at d a n ≡ true → change d (got p) a n ≡ Writes (Some x) → disklog d (a ∷ p) n ≡ x ∷ disklog d p n
record-disklog d p a n x h ch = record-stored d (got p) a n (node d p n) (is_compacting p n) (disklog d p n) h ∙
    ap (λ c. recorded c (disklog d p n)) ch

pub record-journal : (d : DocumentData) (p : List Act) (a : Act) (n : NodeId) (x : Record) →
    change d (got p) a n ≡ Writes (Some x) → journal d (a ∷ p) n ≡ x ∷ journal d p n
record-journal d p a n x ch = ap (λ c. (changed c (node d p n)).journal) ch

pub record-up : (d : DocumentData) (p : List Act) (a : Act) (n : NodeId) (x : Record) →
    change d (got p) a n ≡ Writes (Some x) → (node d (a ∷ p) n).up ≡ (node d p n).up
record-up d p a n x ch = ap (λ c. (changed c (node d p n)).up) ch

-- ---- a stop, with this head or none

pub record DownLeaves (d : DocumentData) (p : List Act) (n : NodeId) (h : Option Head) : Type 0 where
  pub up_is : (node d (act.Down n h ∷ p) n).up ≡ false
  pub doubt_is : (node d (act.Down n h ∷ p) n).doubt ≡ doubt_of d (got p) h
  pub journal_is : journal d (act.Down n h ∷ p) n ≡ journal d p n
  pub disklog_is : disklog d (act.Down n h ∷ p) n ≡ disklog d p n
  pub compacting_is : is_compacting (act.Down n h ∷ p) n ≡ is_compact h
  pub fuse_is : fuse d (act.Down n h ∷ p) n ≡ None
  pub stop_is : fuse_at_stop d (act.Down n h ∷ p) n ≡ fuse d p n

pub down-leaves : (d : DocumentData) (p : List Act) (n : NodeId) (h : Option Head) → DownLeaves d p n h
down-leaves d p n h = record {
  up_is = rw (self n) refl;
  doubt_is = rw (self n) refl;
  journal_is = rw (self n, journal) refl;
  disklog_is = rw (self n) refl;
  compacting_is = rw (self n) refl;
  fuse_is = rw (self n) refl;
  stop_is = rw (self n) refl;
}

-- the head of a record is not that of a compaction
pub record-head : (d : DocumentData) (e : Option Envelope) (h : Head) (x : Record) → record_of d e h ≡ Some x →
    is_compact (Some h) ≡ false
record-head d e head.Compact x is = grind arith
record-head d e (head.Prepared t p) x is = refl
record-head d e (head.Ended t o) x is = refl
record-head d e (head.Ceiling c) x is = refl
record-head d e (head.Decided t f) x is = refl
record-head d e (head.Closed t) x is = refl

pub record-stops : (d : DocumentData) (e : Option Envelope) (h : Head) (x : Record) (o : Option Fuse) →
    record_of d e h ≡ Some x → stops_in h o ≡ stops_record o
record-stops d e head.Compact x o is = grind arith
record-stops d e (head.Prepared t p) x o is = refl
record-stops d e (head.Ended t w) x o is = refl
record-stops d e (head.Ceiling c) x o is = refl
record-stops d e (head.Decided t f) x o is = refl
record-stops d e (head.Closed t) x o is = refl

-- ---- an opening that failed, a compaction, an arming

pub record StillLeaves (d : DocumentData) (p : List Act) (n : NodeId) : Type 0 where
  pub up_is : (node d (act.StillDown n ∷ p) n).up ≡ false
  pub doubt_is : (node d (act.StillDown n ∷ p) n).doubt ≡ (node d p n).doubt
  pub journal_is : journal d (act.StillDown n ∷ p) n ≡ journal d p n
  pub disklog_is : disklog d (act.StillDown n ∷ p) n ≡ disklog d p n
  pub compacting_is : is_compacting (act.StillDown n ∷ p) n ≡ is_compacting p n
  pub fuse_is : fuse d (act.StillDown n ∷ p) n ≡ None
  pub stop_is : fuse_at_stop d (act.StillDown n ∷ p) n ≡ fuse_at_stop d p n

pub still-leaves : (d : DocumentData) (p : List Act) (n : NodeId) → StillLeaves d p n
still-leaves d p n = record {
  up_is = rw (self n) refl;
  doubt_is = rw (self n) refl;
  journal_is = rw (self n, journal) refl;
  disklog_is = rw (self n) refl;
  compacting_is = refl;
  fuse_is = rw (self n) refl;
  stop_is = refl;
}

pub compacted-disklog : (d : DocumentData) (p : List Act) (n : NodeId) →
    disklog d (act.Compacted n ∷ p) n ≡ small (disklog d p n)
compacted-disklog d p n = rw (self n) refl

pub compacted-fuse : (d : DocumentData) (p : List Act) (n : NodeId) → fuse d (act.Compacted n ∷ p) n ≡ None
compacted-fuse d p n = rw (self n) refl

pub compacted-let : (d : DocumentData) (p : List Act) (n : NodeId) →
    is_let d p (act.Compacted n) n ≡ lets_compaction (fuse d p n)
compacted-let d p n = rw (self n) refl

pub armed-fuse : (d : DocumentData) (p : List Act) (n k how : ℕ) →
    fuse d (act.Armed n k how ∷ p) n ≡ Some (record { k = k; records = 0; opened = 0 })
armed-fuse d p n k how = rw (self n) refl

-- ---- an opening

pub record UpLeaves (d : DocumentData) (p : List Act) (n : NodeId) (f : Flag) : Type 0 where
  pub up_is : (node d (act.Up n f ∷ p) n).up ≡ true
  pub journal_is : journal d (act.Up n f ∷ p) n ≡ found (is_kept f) (node d p n).doubt (journal d p n)
  pub disklog_is : disklog d (act.Up n f ∷ p) n ≡ reopened (is_compacting p n) (is_kept f) (node d p n).doubt
      (disklog d p n)
  pub fuse_is : fuse d (act.Up n f ∷ p) n ≡ with_opening (is_empty (journal d (act.Up n f ∷ p) n)) (fuse d p n)

pub up-leaves : (d : DocumentData) (p : List Act) (n : NodeId) (f : Flag) → UpLeaves d p n f
up-leaves d p n f = record {
  up_is = rw (self n) refl;
  journal_is = rw (self n, journal) refl;
  disklog_is = rw (self n) refl;
  fuse_is = ap (λ b. with_opening (b && is_empty (journal d (act.Up n f ∷ p) n)) (fuse d p n)) (self n);
}
