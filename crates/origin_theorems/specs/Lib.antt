pub mod Rows
pub mod Statements
pub mod Marked
pub mod Theorems
