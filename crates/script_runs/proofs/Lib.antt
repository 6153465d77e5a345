pub mod FirstWaiting
pub mod Walks
pub mod RemoteReads
pub mod AllReads
pub mod SerialWalks
pub mod Walking
