-- The one file of this crate that imports lemmas of the law crates: lists by key, the number of a script, and acts
-- behind acts.
pub use Rattle.grid_model.proofs.Places.{at-put, put-other, place_here}
pub use Rattle.grid_model.proofs.Undecided.{script-number}
pub use Rattle.grid_model.proofs.EventShapes.{after-append}
