pub mod Views
pub mod Walk
pub mod Kept
pub mod Examples
