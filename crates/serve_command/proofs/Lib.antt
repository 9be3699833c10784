pub mod NewEpochs
pub mod ServedLemmas
pub mod Unsaid
pub mod ArchivedEpochs
pub mod StayingOutcomes
pub mod Unserved
