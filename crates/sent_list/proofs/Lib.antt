pub mod GoneMarks
pub mod SentActs
