-- The one file of this crate that imports lemmas of the law crates and of the text: what was due at each act, what
-- stands of each record, and lists by key.
pub use Rattle.journal_words.proofs.Applied.{commits-ended}
pub use Rattle.journal_words.proofs.Later.{later-all}
pub use Rattle.journal_words.proofs.Newest.{newest_more}
pub use Rattle.journal_words.proofs.Once.{ended-prepared}
pub use Rattle.journal_words.proofs.Pairs.{has_pair}
pub use Rattle.grid_model.proofs.Places.{at-put, put-other, place_here}
pub use Rattle.grid_model.proofs.EventShapes.{after-append}
pub use Rattle.grid_laws.proofs.Causes.{IsDue, AllDue, RecordDue, StopDue}
pub use Rattle.grid_laws.proofs.DecisionsCount.{all-count}
pub use Rattle.grid_laws.proofs.Holds.{NodeHolds, records-hold, sent-last, sent-none}
pub use Rattle.grid_laws.proofs.NodesFit.{AllHold, HoldsIn}
pub use Rattle.grid_laws.proofs.NodesFitActs.{nodes-fit, prepared-is}
pub use Rattle.grid_laws.proofs.PreparesSay.{prepares-agree}
pub use Rattle.grid_laws.proofs.RunsDue.{due-run}
pub use Rattle.grid_laws.proofs.StoryClaims.{Hears, hears-any, got-claim, if-claim}
pub use Rattle.history_print.proofs.Phases.{story_same}
pub use Rattle.history_print.proofs.Ranges.{put_more}
