pub mod Parts
pub mod Streams
pub mod Answers
