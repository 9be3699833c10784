pub mod Words
pub mod Rows
pub mod Cells
pub mod Steps
pub mod Faults
pub mod Examples
