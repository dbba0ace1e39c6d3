pub mod Mended
pub mod Verdicts
pub mod Written
pub mod Theorems
