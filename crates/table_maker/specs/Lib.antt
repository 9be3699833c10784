pub mod MadeConflicts
pub mod Made
