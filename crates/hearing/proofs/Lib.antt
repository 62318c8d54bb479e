mod Grounded
pub mod Heard
