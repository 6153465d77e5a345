pub mod ForCode
pub mod Marked
pub mod Elsewhere
pub mod Told
pub mod Keeping
pub mod Compacting
