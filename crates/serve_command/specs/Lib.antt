pub mod Served
pub mod Found
pub mod Archived
