pub mod Source
pub mod Status
pub mod Answers
pub mod Files
pub mod Refusals
pub mod Examples
