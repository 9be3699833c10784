pub mod Cut
pub mod Looked
pub mod Ended
pub mod InSlots
pub mod Counts
pub mod Calls
pub mod Passed
