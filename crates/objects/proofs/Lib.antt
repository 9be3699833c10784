pub mod NewObjects
