pub mod Requests
pub mod Journals
pub mod Accounts
pub mod Answers
pub mod Outcomes
pub mod Records
pub mod Laws
pub mod WorkedCalls
