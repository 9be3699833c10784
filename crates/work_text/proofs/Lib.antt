pub mod KeptTexts
pub mod Works
pub mod Comments
pub mod Read
