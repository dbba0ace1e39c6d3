pub mod Bytes
pub mod Laying
