pub mod Taken
pub mod Adding
pub mod Fit
