pub mod Counts
pub mod Posts
pub mod Shorts
pub mod Losses
pub mod Events
pub mod Runs
