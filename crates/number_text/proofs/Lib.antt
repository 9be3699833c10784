pub mod Accepted
pub mod Follows
pub mod CanonicalAccepted
pub mod Spelled
pub mod CanonicalRead
pub mod Writing
