pub mod Rows
pub mod Judged
pub mod Lists
pub mod Replayed
pub mod Kept
pub mod Taken
