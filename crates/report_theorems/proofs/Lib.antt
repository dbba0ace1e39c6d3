pub mod Accepted
pub mod Theorems
