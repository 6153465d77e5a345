-- The run of a document in which no disk fails: the disks keep every record and every node that is opened
-- comes up.
use Rattle.std.specs.Prelude.{Bool, true, false, List, [], ◌∷◌, ◌++◌, IsTrue}
use Rattle.std.specs.List.{list_all, flat_map}
use Rattle.grid_model.specs.declared.acts.Act.{Act}
use Rattle.grid_model.specs.declared.items.Item.{Item}
use Rattle.grid_model.specs.declared.items.Item.TheVariants as item
use Rattle.grid_model.specs.Documents.{DocumentData}
use Rattle.grid_model.specs.Histories.{after}
use Rattle.grid_model.specs.Schedules.{Choice, row, start_row, events_in}

-- a record that is written is kept, a node that is opened comes up, and no record in doubt is found
abbrev pub calm : Choice
calm = record { keeps = true; opens = true; finds = false }

-- an item that sets no fuse
abbrev pub is_unfused : Item → Bool
is_unfused (item.Fuse n k how) = false
is_unfused i = true

-- no item of the schedule sets a fuse
abbrev pub AreUnfused : List Item → Type 0
AreUnfused items = IsTrue (list_all is_unfused items)

-- the acts of an event where no disk fails
abbrev pub played : DocumentData → List Act → Item → List Act
played d past i = row d past i calm

-- the acts of these events, one behind the other
abbrev pub plays : DocumentData → List Act → List Item → List Act
plays d past [] = []
plays d past (e ∷ es) = played d past e ++ plays d (after past (played d past e)) es

-- the acts of a document's run in which no disk fails: every node comes up at the start, then the events
-- are played one behind the other
abbrev pub calm_run : DocumentData → List Act
calm_run d =
    start_row d.cluster.nodes (λ n. true)
    ++ plays d (after [] (start_row d.cluster.nodes (λ n. true))) (flat_map events_in d.items)
