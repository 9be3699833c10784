pub mod Waiting
pub mod Laws
pub mod Examples
