pub mod Told
pub mod History
pub mod About
pub mod Exactly
pub mod Theorems
