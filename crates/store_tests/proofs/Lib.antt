pub mod Blocking
pub mod UpdateInPlace
