pub mod Still
pub mod StillCalls
pub mod Shifting
pub mod InHistory
pub mod Serial
