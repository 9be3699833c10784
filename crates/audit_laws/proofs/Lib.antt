pub mod Orders
pub mod Dated
