pub mod Words
pub mod Compacts
