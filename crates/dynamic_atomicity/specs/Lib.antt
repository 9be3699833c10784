pub mod Dynamic
pub mod Joined
pub mod Converse
pub mod OrderExamples
pub mod Witnessed
