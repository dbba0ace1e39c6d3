pub mod Back
pub mod Theorems
