pub mod Out
pub mod Numbers
pub mod Gathered
pub mod Examples
