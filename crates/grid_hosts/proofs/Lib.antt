pub mod Fitting
pub mod Fallen
