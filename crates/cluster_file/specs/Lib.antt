pub mod Items
pub mod Lines
pub mod Doc
pub mod Spelling
