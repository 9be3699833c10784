pub mod ChosenDisk
pub mod TornWrites
