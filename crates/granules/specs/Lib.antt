pub mod Table
pub mod Runs
pub mod Strides
