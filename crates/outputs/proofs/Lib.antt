pub mod Puts
pub mod Takes
pub mod Numbers
pub mod GatheredLemmas
pub mod Turns
