-- The one file of this crate that imports lemmas of the law crates and of the tally: the runs of a document that is
-- cut, the rows of a run, and the text of the tally.
pub use Rattle.grid_laws.proofs.CutRuns.{cut-events, cut-more, run-rows}
pub use Rattle.run_tally.proofs.TallyTexts.{tally-cut}
