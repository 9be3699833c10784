pub mod Orders
pub mod Merging
