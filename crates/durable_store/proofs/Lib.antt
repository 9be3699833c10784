pub mod Ahead
pub mod Aborts
pub mod Begun
pub mod CatchUp
pub mod Firsts
pub mod Found
pub mod Growths
pub mod StrongOver
pub mod NextStores
pub mod Carried
pub mod EpochWrites
mod Followed
mod Stepped
mod Attempted
pub mod New
pub mod NameSets
pub mod NameIndexes
mod ReplyTexts
pub mod HeldNumbers
pub mod GoneOver
pub mod Recoveries
pub mod PreparedRows
pub mod GrowthOver
mod Undecided
mod Spared
pub mod HeldKeys
mod Gates
mod Decided
pub mod HeldLists
pub mod Resumed
