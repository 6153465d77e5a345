use Rattle.grid_store.proofs.tests.counted_read.Given as goal

abbrev pub ghosts-read_alone : goal.ghosts-read_alone
ghosts-read_alone a = record { name = a.blank.name; parts = a.blank.parts }
