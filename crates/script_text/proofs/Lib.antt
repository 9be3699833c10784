pub mod Fit
pub mod CommandsKept
pub mod PlainCommands
pub mod FrontWords
