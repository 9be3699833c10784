pub mod Numerals
pub mod Lines
pub mod ReadBack
pub mod Groups
