pub mod Declared
pub mod Canonical
pub mod Examples
