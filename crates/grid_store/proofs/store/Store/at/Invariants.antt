use Rattle.grid_store.proofs.store.Store.at.Given as goal

abbrev pub ghosts-at_alone : goal.ghosts-at_alone
ghosts-at_alone a = record { name = a.blank.name; parts = a.blank.parts }
