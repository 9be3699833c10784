pub mod Index
pub mod Transactions
pub mod InSlots
pub mod Slots
pub mod Examples
