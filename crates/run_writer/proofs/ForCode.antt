-- The one file of this crate that imports lemmas of the crates below: the events of a document, the parts of a text, and
-- what a world leaves.
pub use Rattle.grid_laws.proofs.CutRuns.{count-events}
pub use Rattle.run_tally.proofs.TallyTexts.{tally-cut}
pub use Rattle.text_parts.proofs.Behind.{part-behind, part-first}
pub use Rattle.text_parts.proofs.RunParts.{part-event, part-start, part-tally}
pub use Rattle.text_parts.proofs.TextParts.{lines-append}
pub use Rattle.grid_world.proofs.PlayedAll.{can-front, can-one, events-more, events-split, next-behind, one-event, replicate-more, replicate-split}
pub use Rattle.grid_world.proofs.Ended.{ended-replays, stopped-replays}
