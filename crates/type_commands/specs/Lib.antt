pub mod Request
pub mod Verdict
pub mod Made
pub mod Accepted
pub mod Explain
pub mod Rows
