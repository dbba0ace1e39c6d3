pub mod Statements
pub mod Bytes
pub mod Layout
pub mod Over
pub mod Fit
pub mod Theorems
pub mod Example
