mod Indicated
pub mod Readings
