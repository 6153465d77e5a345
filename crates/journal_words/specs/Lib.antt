pub mod Journals
pub mod Small
pub mod Orders
pub mod Participants
