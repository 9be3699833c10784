pub mod Ends
pub mod Stores
pub mod Laws
pub mod Examples
