pub mod Lines
pub mod Found
pub mod Turns
pub mod Runs
pub mod Laws
pub mod Examples
