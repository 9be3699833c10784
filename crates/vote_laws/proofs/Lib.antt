pub mod Decisions
pub mod Votes
