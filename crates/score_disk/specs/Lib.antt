pub mod Files
pub mod Counts
pub mod Copies
pub mod MemoryFile
