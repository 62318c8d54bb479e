mod Dues
mod Everyone
mod Seated
pub mod Grounds
mod Receipts
