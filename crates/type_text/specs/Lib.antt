pub mod TypeLines
pub mod Reach
pub mod TypeFile
pub mod Canonical
pub mod Examples
pub mod Rows
pub mod Kept
