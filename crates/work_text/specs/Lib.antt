pub mod Lines
pub mod Text
pub mod TextHistory
pub mod Examples
