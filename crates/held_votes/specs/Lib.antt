pub mod VotesHeld
pub mod Examples
