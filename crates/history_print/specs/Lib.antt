pub mod Acts
pub mod Text
pub mod Begun
