pub mod Counts
mod Multiples
mod Searches
pub mod Grounded
