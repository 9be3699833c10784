pub mod Sizes
pub mod Names
pub mod Keeping
pub mod Accepted
pub mod Says
