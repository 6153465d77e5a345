pub mod Places
pub mod Clusters
