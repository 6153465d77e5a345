pub mod Faults
pub mod Keys
pub mod KeyFields
pub mod Numbers
pub mod Pieces
pub mod Tables
