pub mod Ranges
pub mod Outermost
pub mod Few
