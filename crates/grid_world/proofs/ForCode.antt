-- The one file of this crate that imports lemmas of the crates below: of runs and their rows, of documents that are cut,
-- of the messages and the tally, of views and disks, and of the nodes of a run.
pub use Rattle.cause_laws.proofs.GenuineActs.{genuine}
pub use Rattle.count_laws.proofs.Counts.{are_own, is_own}
pub use Rattle.count_laws.proofs.Events.{few-outs, outs-few}
pub use Rattle.count_laws.proofs.Runs.{run-few}
pub use Rattle.disk_laws.proofs.AtEnd.{held-end}
pub use Rattle.grid_laws.proofs.CutRuns.{count-events, cut-more, cut-one, lawful-whole}
pub use Rattle.grid_laws.proofs.NodesNumbered.{holder-least, holder-most, home-least, home-most}
pub use Rattle.grid_laws.proofs.PartsRise.{part-holds}
pub use Rattle.grid_laws.proofs.RowOuts.{pass-losses}
pub use Rattle.grid_model.proofs.EventShapes.{after-append}
pub use Rattle.grid_model.proofs.ViewSteps.{here}
pub use Rattle.host_laws.proofs.Compactions.{compacts-behind}
pub use Rattle.host_laws.proofs.DiskWords.{first-is, last-is}
pub use Rattle.host_laws.proofs.Falls.{arm-turns, crash-turns}
pub use Rattle.host_laws.proofs.FirstOpenings.{first-untouched, new-openable, start-follows}
pub use Rattle.host_laws.proofs.OneMore.{quiet-more, turn-more, unsome}
pub use Rattle.host_laws.proofs.OtherNodes.{stands-unmoved}
pub use Rattle.host_laws.proofs.Reopenings.{are-openable, reopens-behind}
pub use Rattle.host_laws.proofs.Steps.{runs-behind}
pub use Rattle.journal_words.proofs.ParticipantWords.{pending-reads, same_word}
pub use Rattle.run_tally.proofs.PhasesTold.{phases-cut}
pub use Rattle.run_tally.proofs.TallyTexts.{run-uncut}
pub use Rattle.sent_list.proofs.SentActs.{sent-step, shows-outs}
pub use Rattle.view_laws.proofs.BehindRows.{came-brought, sent-more}
pub use Rattle.view_laws.proofs.OtherViews.{dropped-unmoved, event-unmoved, missed-unmoved, one-unmoved, opened-unmoved, void-unmoved}
pub use Rattle.view_laws.proofs.RowEquations.{ask-row, begin-comes, begin-row, compact-row, deliver-comes, deliver-row, next-row, peer-none, peer-row, retry-row}
pub use Rattle.view_laws.proofs.Unmoved.{unmoved-same}
