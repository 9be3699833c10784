pub mod SameParts
pub mod TableOps
