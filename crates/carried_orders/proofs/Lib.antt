pub mod Alike
pub mod Unseen
pub mod Stepping
pub mod Ordered
