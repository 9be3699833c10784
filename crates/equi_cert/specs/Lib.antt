pub mod Relation
pub mod Bits
pub mod Simulation
pub mod Fault
pub mod Scan
pub mod Laws
pub mod Examples
