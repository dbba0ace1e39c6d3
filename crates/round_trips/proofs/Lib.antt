pub mod Theorems
pub mod Trips
