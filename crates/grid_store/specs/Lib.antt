pub mod Given
pub mod Keeping
pub mod Chained
pub mod Replay
