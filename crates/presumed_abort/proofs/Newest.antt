-- The records so far, the newest first.
pub use Rattle.journal_words.proofs.Newest.{newest_more}
