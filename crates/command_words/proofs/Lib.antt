mod Answered
mod Examples
pub mod OptionSteps
mod SamePairs
mod SameWords
pub mod Spelled
