pub mod Calls
pub mod Number
pub mod Operations
pub mod Called
pub mod Named
pub mod Examples
