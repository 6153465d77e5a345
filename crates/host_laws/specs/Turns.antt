-- What an event of a node leaves of where it stands.
use Rattle.std.specs.Prelude.{◌≡◌, ◌≤◌, ℕ, ◌+◌, Bool, false, IsTrue, List, [], ◌∷◌, ◌++◌, Some}
use Rattle.std.specs.List.{list_all}
use Rattle.score_base.specs.declared.ids.NodeId.{NodeId}
use Rattle.score_disk.specs.declared.disk.Disk.{Ghosts}
use Rattle.grid_model.specs.declared.acts.Act.{Act}
use Rattle.grid_model.specs.declared.acts.Act.TheVariants as act
use Rattle.grid_model.specs.declared.acts.Flag.{Flag}
use Rattle.grid_model.specs.declared.acts.Head.{Head}
use Rattle.grid_model.specs.declared.events.Event.{Event}
use Rattle.grid_model.specs.declared.events.Out.{Out}
use Rattle.grid_model.specs.declared.events.Out.TheVariants as out
use Rattle.grid_model.specs.Disks.{is_compacting}
use Rattle.grid_model.specs.Documents.{DocumentData}
use Rattle.grid_model.specs.Histories.{after}
use Rattle.grid_model.specs.Nodes.{node}
use Rattle.grid_model.specs.Rows.{outs_of}
use Rattle.grid_model.specs.Schedules.{flag_at, kept, next_number, numbered, opened_row}
use Rattle.grid_model.specs.Views.{view}
use Rattle.disk_laws.specs.DiskActs.{is_quiet, IsDiskEvent}
use Rattle.disk_laws.specs.SoFar.{IsJointRise}
use Rattle.view_laws.specs.RowActs.{came}
use Rattle.grid_hosts.specs.declared.hosts.Place.{Place}
use Rattle.grid_hosts.specs.declared.openings.Restarted.{Restarted}
use Rattle.grid_hosts.specs.declared.openings.Restarted.TheVariants as restarted
use Rattle.grid_hosts.specs.declared.steps.Ran.{Ran}
use Rattle.grid_hosts.specs.declared.steps.Ran.TheVariants.{Outs, Stopped, Memory}
use Rattle.host_laws.specs.Standing.{Stands, first_disk, second_disk, generation_in}

-- These acts behind a past are such that no disk has a part in any, and no count rose; or the disks of n have a part in
-- one of them, do what they promise, and their counts rose by so much.
pub data MovesDisks (d : DocumentData) (past acts : List Act) (n : NodeId) (more : ℕ) : Type 0 where
  quiet : IsTrue (list_all is_quiet acts) → more ≡ 0 → MovesDisks d past acts n more
  turned : IsDiskEvent d past acts n more → MovesDisks d past acts n more

module _ {D : Type 0} {g : Ghosts D} where
  -- n stood so, and stands so behind these acts; its disks did what they promise, and their counts rose by so much
  pub record Turns (d : DocumentData) (past acts : List Act) (n : NodeId) (p q : Place D g) : Type 0 where
    pub more : ℕ
    pub moves : MovesDisks d past acts n more
    pub rise : IsJointRise (g.own (first_disk p)) (g.own (second_disk p)) (g.own (first_disk q)) (g.own (second_disk q)) more
    pub grown : generation_in q ≤ generation_in p + 1
    pub stands : Stands d (after past acts) n q

  -- The node gave the outs of its row, and stands behind their acts.
  pub record GivesRow (d : DocumentData) (past : List Act) (n : NodeId) (m : ℕ) (e : Event) (p q : Place D g)
      (outs : List Out) : Type 0 where
    pub row : outs ≡ outs_of n (view d past n) e
    pub turns : Turns d past (came m e ++ numbered (next_number past) n outs) n p q

  -- The node went down in its row, at this head, and stands behind that.
  pub record StopsRow (d : DocumentData) (past : List Act) (n : NodeId) (m : ℕ) (e : Event) (p q : Place D g) (h : Head) :
      Type 0 where
    pub row : kept false n (outs_of n (view d past n) e) ≡ out.Act (act.Down n (Some h)) ∷ []
    pub turns : Turns d past (came m e ++ act.Down n (Some h) ∷ []) n p q

  -- how an event of n that comes as message m ends
  abbrev pub RanBehind : DocumentData → List Act → NodeId → ℕ → Event → Place D g → Place D g → Ran → Type 0
  RanBehind d past n m e p q (Outs outs) = GivesRow d past n m e p q outs.items
  RanBehind d past n m e p q (Stopped h) = StopsRow d past n m e p q h
  RanBehind d past n m e p q Memory = Unit {0}

  -- n came up behind a past: what was in doubt was found or not, as the acts say
  pub record UpRow (d : DocumentData) (past : List Act) (n : NodeId) (p q : Place D g) (f : Flag) : Type 0 where
    pub finds : Bool
    pub flag : f ≡ flag_at (is_compacting past n) (node d past n).doubt finds
    pub turns : Turns d past (opened_row d past n f) n p q

  -- how an opening of n ends
  abbrev pub RestartedBehind : DocumentData → List Act → NodeId → Place D g → Place D g → Restarted → Type 0
  RestartedBehind d past n p q (restarted.Up f) = UpRow d past n p q f
  RestartedBehind d past n p q restarted.StillDown = Turns d past (act.StillDown n ∷ []) n p q
  RestartedBehind d past n p q restarted.Memory = Unit {0}
