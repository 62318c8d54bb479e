pub mod Digits
pub mod Spans
pub mod WellFormed
pub mod Inverse
pub mod Reread
pub mod Grounded
pub mod Faults
