pub mod OpenEpochs
pub mod Carried
pub mod Objects
pub mod Views
pub mod OldNumbers
pub mod Redo
pub mod Laws
pub mod Examples
