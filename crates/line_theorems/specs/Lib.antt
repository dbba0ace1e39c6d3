pub mod Growing
pub mod Numbered
pub mod Pieces
pub mod Room
pub mod Alike
pub mod Columns
pub mod Calls
pub mod Texts
