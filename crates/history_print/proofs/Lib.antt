pub mod Ranges
pub mod Phases
