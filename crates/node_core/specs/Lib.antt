pub mod Heads
pub mod Shows
pub mod Owning
pub mod Steps
pub mod Plays
pub mod Openings
pub mod Homes
pub mod Links
