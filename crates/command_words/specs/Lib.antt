pub mod Lines
pub mod Ordered
pub mod Words
pub mod Program
pub mod Help
pub mod Serve
