pub mod ForCode
pub mod FusedDisks
pub mod Answered
pub mod Complete
