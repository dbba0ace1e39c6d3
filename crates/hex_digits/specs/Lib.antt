pub mod Hex
pub mod Read
pub mod Rows
pub mod Swap
pub mod Signs
