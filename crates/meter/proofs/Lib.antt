mod Accounts
mod Barred
mod Steps
mod Runs
