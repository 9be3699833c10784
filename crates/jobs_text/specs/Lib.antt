pub mod JobLines
pub mod Jobs
pub mod Examples
