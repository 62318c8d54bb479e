pub mod Cuts
mod Alike
mod Room
pub mod Alone
