pub mod Calls
pub mod Asked
pub mod Collected
pub mod Examples
pub mod Answers
pub mod Replies
pub mod Ends
pub mod Lowest
