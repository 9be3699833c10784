pub mod Stored
pub mod Kept
pub mod Moves
pub mod Words
pub mod Asked
pub mod Before
pub mod Events
pub mod Examples
