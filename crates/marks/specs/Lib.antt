pub mod Digits
pub mod Owners
