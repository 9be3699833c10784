pub mod Objects
pub mod TwoTypes
pub mod JobLists
