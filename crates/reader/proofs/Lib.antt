pub mod Orders
pub mod Misuses
pub mod Refusals
pub mod Decoded
mod Collected
mod Parts
mod Places
