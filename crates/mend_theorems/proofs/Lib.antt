pub mod Theorems
pub mod Written
