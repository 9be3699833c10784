pub mod Still
pub mod Readers
pub mod Laws
pub mod Examples
