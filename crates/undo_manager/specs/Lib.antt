pub mod Log
pub mod Opened
pub mod Kept
pub mod Rerun
pub mod Examples
pub mod Held
