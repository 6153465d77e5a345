-- The one file of this crate that imports lemmas of the crates below: of documents that are read or cut, of claims on
-- parts, and of streams that are told.
pub use Rattle.cluster_file.proofs.OneSpelling.{IsSpelled, spelled}
pub use Rattle.grid_laws.proofs.CutRuns.{cut-one}
pub use Rattle.score_io.proofs.Streams.{whole_told, lost_told}
pub use Rattle.text_parts.proofs.Claims.{broken-claim, some-claim}
