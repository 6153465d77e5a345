pub mod Streams
pub mod InMemory
pub mod Adapters
