pub mod Ceilings
pub mod Arrivals
pub mod Dates
pub mod FirstFree
pub mod ReleaseRows
pub mod ReadRows
