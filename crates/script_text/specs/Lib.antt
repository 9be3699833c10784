pub mod Commands
pub mod Plain
pub mod Kept
pub mod Fronts
pub mod Script
pub mod Examples
