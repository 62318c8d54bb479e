pub mod Checks
pub mod Readings
