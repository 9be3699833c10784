pub mod Made
pub mod Laws
pub mod Examples
