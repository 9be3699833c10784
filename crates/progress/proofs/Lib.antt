pub mod Blockers
pub mod Waits
