mod Uses
mod Slots
mod Filling
pub mod Sums
mod Parts
mod Lengths
pub mod Charges
