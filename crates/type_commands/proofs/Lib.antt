pub mod RequestLemmas
pub mod Verdicts
pub mod Words
pub mod Asked
pub mod Explaining
pub mod RowOps
pub mod Accepted
