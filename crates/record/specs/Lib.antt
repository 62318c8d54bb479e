pub mod Quarters
pub mod Operators
pub mod Calls
pub mod Refusals
pub mod Stretches
pub mod Seats
