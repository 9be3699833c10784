pub mod Text
pub mod Numeric
