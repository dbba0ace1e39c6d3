pub mod Count
pub mod Power
pub mod Cores
