pub mod Held
pub mod Keys
pub mod Endings
pub mod OpenObjects
pub mod Reading
pub mod Prepared
pub mod Outcome
pub mod Examples
