pub mod Meanings
pub mod Admission
pub mod Currencies
pub mod PulseCounts
pub mod Scales
