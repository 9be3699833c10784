pub mod TypeFile
pub mod Declarations
