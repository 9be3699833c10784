pub mod Numeric
pub mod Marks
pub mod Totals
pub mod Kept
pub mod KeptAmount
pub mod Examples
