pub mod Entries
pub mod NameBytes
pub mod FailingPairs
