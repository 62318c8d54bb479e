pub mod Networks
pub mod Seats
mod Changes
mod Stretches
mod Switches
mod Advances
mod Beginnings
mod Entries
mod Receipts
mod Acceptance
pub mod Pasts
mod Admissions
mod Fair
mod Amounts
mod Strangers
mod Rules
mod Received
pub mod Standing
