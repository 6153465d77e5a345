pub mod Held
pub mod Reads
pub mod Calls
pub mod Outs
pub mod Views
