pub mod Fronts
pub mod Orders
pub mod Leaving
pub mod There
pub mod Agreeing
pub mod Staying
