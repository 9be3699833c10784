pub mod Tell
pub mod Distances
pub mod Nearer
pub mod Predecessors
pub mod Search
pub mod Exact
pub mod Laws
pub mod Examples
