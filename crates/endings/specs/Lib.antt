pub mod Ending
pub mod Rest
pub mod Ranges
pub mod Behind
pub mod Filling
