pub mod Arguments
pub mod Openings
pub mod Sayings
