pub mod EventText
