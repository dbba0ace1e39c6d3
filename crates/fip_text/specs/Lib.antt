pub mod Names
pub mod Rows
pub mod Line
pub mod Whole
pub mod Cases
