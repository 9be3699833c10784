pub mod Locks
pub mod Examples
