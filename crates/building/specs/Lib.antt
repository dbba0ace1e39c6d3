pub mod Built
pub mod Gaps
pub mod Writing
