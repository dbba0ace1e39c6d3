pub mod Packed
pub mod Laying
pub mod Writing
