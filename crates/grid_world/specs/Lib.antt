pub mod Worlds
pub mod Ends
pub mod Follows
pub mod Starts
pub mod Replays
