pub mod Replies
pub mod Tries
pub mod Refusals
pub mod Told
pub mod Counted
pub mod Asked
pub mod Examples
mod Purses
