mod Steps
mod Writings
