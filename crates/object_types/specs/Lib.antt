pub mod Types
pub mod Examples
