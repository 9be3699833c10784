pub mod Owned
pub mod Types
pub mod NumberTypes
pub mod Named
pub mod Calls
pub mod Reads
pub mod Histories
