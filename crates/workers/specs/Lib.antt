pub mod Events
pub mod SharedState
pub mod Worked
pub mod SharedCalls
pub mod Examples
