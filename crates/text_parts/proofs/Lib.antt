pub mod ForCode
pub mod TextParts
pub mod RunParts
pub mod PartPlaces
pub mod Behind
pub mod Claims
