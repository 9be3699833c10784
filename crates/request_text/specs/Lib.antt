pub mod Numbers
pub mod Shapes
pub mod Calls
pub mod Preparing
pub mod Requests
