pub mod Headline
pub mod Fuses
pub mod Disks
pub mod Answers
pub mod Runs
