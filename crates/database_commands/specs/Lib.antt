pub mod History
pub mod Audited
pub mod Created
pub mod Extended
