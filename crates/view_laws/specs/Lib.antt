pub mod AlikeViews
pub mod RowRecords
pub mod Unmoved
pub mod RowActs
pub mod Turns
