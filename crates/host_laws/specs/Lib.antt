pub mod Standing
pub mod Turns
pub mod Follows
pub mod Starts
