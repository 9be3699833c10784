pub mod Commands
pub mod Numbered
pub mod Answers
pub mod Made
pub mod Examples
