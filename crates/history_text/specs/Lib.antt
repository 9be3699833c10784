pub mod Events
pub mod History
pub mod Canonical
pub mod Examples
