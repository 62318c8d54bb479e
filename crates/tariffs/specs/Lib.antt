pub mod Sequences
pub mod Stretches
pub mod Making
