pub mod Statements
pub mod Unbroken
pub mod Theorems
pub mod Reads
pub mod Histories
