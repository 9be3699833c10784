pub mod Parts
pub mod Progress
pub mod Turns
pub mod Room
pub mod Examples
