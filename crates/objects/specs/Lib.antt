pub mod Object
