pub mod NameBuffers
