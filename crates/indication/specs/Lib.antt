pub mod Faults
pub mod Numbers
pub mod Codes
pub mod Format
pub mod Rules
pub mod Fits
pub mod Words
