pub mod Replays
pub mod Events
pub mod Refusals
pub mod Answered
pub mod Numbered
pub mod Transactions
pub mod Attempts
pub mod OneCall
