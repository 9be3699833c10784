pub mod NumberLines
pub mod NumberFile
pub mod Canonical
pub mod Examples
