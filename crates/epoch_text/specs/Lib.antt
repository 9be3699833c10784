pub mod EpochText
