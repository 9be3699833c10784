pub mod Comes
mod CounterText
