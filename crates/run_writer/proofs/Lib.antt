pub mod ForCode
pub mod EventsWritten
pub mod TextWritten
