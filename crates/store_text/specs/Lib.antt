pub mod Named
pub mod Size
pub mod Body
pub mod Said
pub mod Kept
pub mod PlainEntry
pub mod Parts
