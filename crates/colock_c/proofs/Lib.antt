pub mod Values
pub mod Typings
pub mod Becoming
