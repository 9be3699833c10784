pub mod CheckedTypes
pub mod LookUps
pub mod Objects
pub mod Pairs
pub mod TwoTypes
