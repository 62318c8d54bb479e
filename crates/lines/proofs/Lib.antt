mod Decoded
mod Number
