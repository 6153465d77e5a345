pub mod Serials
pub mod Waits
pub mod Walks
pub mod Trails
