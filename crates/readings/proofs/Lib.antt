mod Firsts
mod Ordered
mod Checks
pub mod Right
