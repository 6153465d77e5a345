pub mod Least
pub mod Places
pub mod Runs
pub mod Conflicts
pub mod Taking
pub mod Merging
