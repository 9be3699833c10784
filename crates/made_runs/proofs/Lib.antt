pub mod Making
pub mod Exact
pub mod Accounts
pub mod YesExact
pub mod Counters
