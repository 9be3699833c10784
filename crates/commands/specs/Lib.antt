pub mod Concluded
pub mod Program
pub mod Words
