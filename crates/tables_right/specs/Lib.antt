pub mod Zeros
pub mod Numbers
pub mod Decided
pub mod Walked
pub mod Counted
pub mod Theorems
pub mod Few
