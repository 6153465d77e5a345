pub mod DiskActs
pub mod SoFar
pub mod Ties
pub mod Shown
pub mod Calls
pub mod Seats
pub mod Holds
